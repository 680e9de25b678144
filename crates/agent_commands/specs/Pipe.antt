-- The command `pipe`: the lines of the control input.
use Rattle.std.specs.Prelude.{◌≡◌, ⊤, ℕ, Bool, true, false, IsTrue, List, Option, Some, None, Err}
use Rattle.outside.specs.ClockMeaning.{ClockMeaning, Reads}
use Rattle.outside.specs.DiskMeaning.{DiskMeaning}
use Rattle.outside.specs.Images.{Images}
use Rattle.outside.specs.World.{Told}
use Rattle.outside.specs.declared.disk.DiskFile.{DiskFile}
use Rattle.outside.specs.declared.disk.DiskFile.TheVariants as file
use Rattle.pipeline.specs.Parts.{settings_of}
use Rattle.pipeline.specs.declared.Pipeline.{Pipeline}
use Rattle.pipeline.specs.MadeOf.{IsMadeOf}
use Rattle.pipeline.specs.BuildFaults.{IsNotBuilt}
use Rattle.poll_core.specs.declared.fault.OpenFault.{OpenFault}
use Rattle.poll_core.specs.declared.fault.OpenFault.TheVariants as opening
use Rattle.settings_text.specs.Grammar as grammar
use Rattle.stream_lines.specs.Streams.{FillsUp, PrintsOpen, PrintsWhole, StopsWithin, TakesMost}
use Rattle.agent_commands.specs.Faults.{opening_fault}
use Rattle.agent_commands.specs.Report.{GrowsByPart}
use Rattle.agent_commands.specs.Status.{fault_line, status_of}
use Rattle.agent_commands.specs.declared.fault.Fault.{Fault}
use Rattle.agent_commands.specs.declared.fault.Fault.TheVariants.{Control, Memory, OutputFull, ControlLong}

-- the pipeline is the one that the settings file asks for
abbrev pub IsPipeline : {D : Type 0} → Images DiskFile D → D → Pipeline → Type 0
IsPipeline images disk pipeline = IsTrue (images.tells disk) → IsMadeOf (images.seen disk file.Settings) pipeline

-- Why there is none. Want of memory is free, and a fault of the disk has its own clause.
abbrev pub IsPipelineFault : {D : Type 0} (images : Images DiskFile D) (disk : D) → OpenFault → Type 0
IsPipelineFault images disk (opening.Settings fault) = IsTrue (images.tells disk) → grammar.settings (images.seen disk file.Settings) ≡ Err fault
IsPipelineFault images disk (opening.Build fault) = IsTrue (images.tells disk) → IsNotBuilt (images.seen disk file.Settings) fault
IsPipelineFault images disk opening.Disk = ⊤
IsPipelineFault images disk opening.Memory = ⊤
IsPipelineFault images disk (opening.CheckpointBad at) = ⊥
IsPipelineFault images disk (opening.SettingsChanged at) = ⊥
IsPipelineFault images disk (opening.OutputShort kept found) = ⊥

-- the outside of the command at one moment, besides the disk, as far as it is told
pub record PipeMoment (C : Type 0) : Type 0 where
  pub rest : Option (List ℕ)
  pub written : Option (List ℕ)
  pub clock : C

abbrev pub pipe_moment : {C : Type 0} → Option (List ℕ) → Option (List ℕ) → C → PipeMoment C
pipe_moment rest written clock = record { rest = rest; written = written; clock = clock }

-- The time of all lines: one reading of the clock, where they are to have a time; else they have none, and the clock isn't read.
abbrev pub IsStamp : {C : Type 0} → ClockMeaning C → Bool → Option ℕ → C → C → Type 0
IsStamp clocks true (Some now) clock clock_after = Told (Reads now) (clocks.readings clock) (clocks.readings clock_after)
IsStamp clocks true None clock clock_after = ⊥
IsStamp clocks false (Some now) clock clock_after = ⊥
IsStamp clocks false None clock clock_after = clock_after ≡ clock

module _ {D C : Type 0} (disks : DiskMeaning D) (clocks : ClockMeaning C) (disk : D) (old new : PipeMoment C) where
  -- The lines were printed in this way, with this time.
  pub record Pipes (prints : Pipeline → Option ℕ → Option (List ℕ) → Type 0) : Type 0 where
    pub pipeline : Pipeline
    pub is_pipeline : IsPipeline disks.images disk pipeline
    pub observed : Option ℕ
    pub stamp : IsStamp clocks (settings_of pipeline).include_observed_time observed old.clock new.clock
    pub told : prints pipeline observed new.written

  -- The lines were printed in this way, and then the line that tells this fault, or a part of it where its print failed.
  pub record PipesThen (fault : Fault) (prints : Pipeline → Option ℕ → Option (List ℕ) → Type 0) : Type 0 where
    pub pipeline : Pipeline
    pub is_pipeline : IsPipeline disks.images disk pipeline
    pub observed : Option ℕ
    pub stamp : IsStamp clocks (settings_of pipeline).include_observed_time observed old.clock new.clock
    pub between : Option (List ℕ)
    pub told : prints pipeline observed between
    pub fault_told : Told (GrowsByPart (fault_line fault)) between new.written

  -- There was no pipeline, for the reason that the status and the report have, nothing of the input was taken, and the clock wasn't
  -- read.
  pub record IsNotPiped (status : ℕ) : Type 0 where
    pub fault : OpenFault
    pub is : status ≡ status_of (opening_fault fault)
    pub cause : IsPipelineFault disks.images disk fault
    pub told : Told (GrowsByPart (fault_line (opening_fault fault))) old.written new.written
    pub untouched : new.rest ≡ old.rest
    pub same_clock : new.clock ≡ old.clock

  pub data PipeEnds : ℕ → Type 0 where
    whole : Pipes (λ pipeline observed now. PrintsWhole pipeline observed old.rest new.rest old.written now) → PipeEnds 0
    control_failed : PipesThen Control (λ pipeline observed now. PrintsOpen pipeline observed old.rest new.rest old.written now) → PipeEnds 8
    report_failed : Pipes (λ pipeline observed now. StopsWithin pipeline observed old.rest new.rest old.written now) → PipeEnds 9
    no_memory : PipesThen Memory (λ pipeline observed now. StopsWithin pipeline observed old.rest new.rest old.written now) → PipeEnds 10
    full : (size : ℕ) → PipesThen (OutputFull size) (λ pipeline observed now. FillsUp pipeline observed old.rest new.rest old.written now size) → PipeEnds 11
    too_long : PipesThen ControlLong (λ pipeline observed now. TakesMost pipeline observed old.rest new.rest old.written now) → PipeEnds 15
    not_piped : (status : ℕ) → IsNotPiped status → PipeEnds status
