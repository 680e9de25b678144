-- How the program ends over any disk: what `once`, `follow`, `adopt`, `audit` and `committed` do, with which status and why, and what stands.
use Rattle.std.specs.Prelude.{◌≡◌, ◌≢◌, ℕ, List}
use Rattle.command_words.specs.IsCommand.{IsCommand}
use Rattle.command_words.specs.declared.command.Command.TheVariants.{Once, Follow, Adopt, Audit, Committed, Pipe}
use Rattle.outside.specs.Count.{Rose}
use Rattle.outside.specs.Crash.{Passes}
use Rattle.outside.specs.StreamMeaning.{SourceMeaning}
use Rattle.outside.specs.World.{Told}
use Rattle.slot_store.specs.OnlyRead.{OnlyRead}
use Rattle.agent_commands.specs.Adopt.{AdoptEnds, AdoptPasses}
use Rattle.agent_commands.specs.Audit.{AgreesWhereItStands, AuditEnds, audits}
use Rattle.agent_commands.specs.Committed.{CommittedEnds}
use Rattle.agent_commands.specs.Control.{max_control, TakesAtMost, TakesExactly}
use Rattle.agent_commands.specs.Follow.{FollowEnds}
use Rattle.agent_commands.specs.Grows.{GrowsBy}
use Rattle.agent_commands.specs.Headline.{KeepsStanding}
use Rattle.agent_commands.specs.Moment.{Moment, Meanings}
use Rattle.agent_commands.specs.Once.{OnceEnds}
use Rattle.agent_commands.specs.Status.{IsStatus}

-- the outside before a run and after it, with the control input
pub record Course (T D S K C : Type 0) : Type 0 where
  pub old : Moment T D K C
  pub new : Moment T D K C
  pub control : S
  pub control_after : S

abbrev pub course : {T D S K C : Type 0} → Moment T D K C → Moment T D K C → S → S → Course T D S K C
course old new control control_after = record { old = old; new = new; control = control; control_after = control_after }

module _ {T D S K C : Type 0} (meanings : Meanings T D K C) (sources : SourceMeaning S) where
  pub record AgentEnds (words : List (List ℕ)) (run : Course T D S K C) (status : ℕ) : Type 0 where
    pub answers : IsStatus status
    -- what each command does
    pub once : IsCommand words Once → OnceEnds meanings run.old run.new status
    pub once_crash : IsCommand words Once → Passes meanings.disks.images (GrowsBy 1) run.old.disk run.new.disk
    pub follow : IsCommand words Follow → FollowEnds meanings (sources.rest run.control) (sources.rest run.control_after) run.old run.new status
    pub adopt : IsCommand words Adopt → AdoptEnds meanings.disks.images run.old.disk run.new.disk (meanings.reports.written run.old.report) (meanings.reports.written run.new.report) status
    pub adopt_crash : IsCommand words Adopt → AdoptPasses meanings.disks.images run.old.disk run.new.disk
    pub audit : IsCommand words Audit → AuditEnds meanings.trees meanings.disks meanings.reports (audits run.old.tree run.new.tree run.old.disk run.old.report run.new.report) status
    pub audit_agrees : IsCommand words Audit → Told (AgreesWhereItStands meanings.disks.images run.old.disk status) (meanings.trees.world run.old.tree) (meanings.trees.world run.new.tree)
    pub audit_only_read : IsCommand words Audit → OnlyRead meanings.disks run.old.disk run.new.disk
    pub committed : IsCommand words Committed → CommittedEnds meanings.disks meanings.reports run.old.disk run.old.report run.new.report status
    pub only_read : IsCommand words Committed → OnlyRead meanings.disks run.old.disk run.new.disk
    -- What stands for the files, stands: whatever others do to them meanwhile, and wherever the command is stopped.
    pub standing : Told (KeepsStanding meanings.disks.images run.old.disk run.new.disk) (meanings.trees.world run.old.tree) (meanings.trees.world run.new.tree)
    -- the causes of 7, 8, 9 and 15
    pub disk_failed : status ≡ 7 → Rose (meanings.disks.faults run.old.disk) (meanings.disks.faults run.new.disk)
    pub disk_stood : status ≢ 7 → meanings.disks.faults run.new.disk ≡ meanings.disks.faults run.old.disk
    pub control_failed : status ≡ 8 → Rose (sources.faults run.control) (sources.faults run.control_after)
    pub control_stood : status ≢ 8 → sources.faults run.control_after ≡ sources.faults run.control
    pub report_failed : status ≡ 9 → Rose (meanings.reports.faults run.old.report) (meanings.reports.faults run.new.report)
    pub report_stood : status ≡ 0 → meanings.reports.faults run.new.report ≡ meanings.reports.faults run.old.report
    pub control_long : status ≡ 15 → Told (TakesExactly max_control) (sources.rest run.control) (sources.rest run.control_after)
    pub control_taken : Told (TakesAtMost max_control) (sources.rest run.control) (sources.rest run.control_after)
    -- only what a command is for is touched
    pub control_untouched : (IsCommand words Follow → ⊥) → (IsCommand words Pipe → ⊥) → run.control_after ≡ run.control
    pub tree_untouched : (IsCommand words Once → ⊥) → (IsCommand words Follow → ⊥) → (IsCommand words Audit → ⊥) → run.new.tree ≡ run.old.tree
    pub clock_untouched : (IsCommand words Once → ⊥) → (IsCommand words Follow → ⊥) → (IsCommand words Pipe → ⊥) → run.new.clock ≡ run.old.clock
