-- Calls on the way to a session, one after another.
use Rattle.std.proofs.Common.{ℕ, List, refl}
use Rattle.outside.proofs.Passing.{passes_after_same}
use Rattle.outside.specs.Crash.{Passes}
use Rattle.outside.specs.Image.{Same}
use Rattle.outside.specs.Images.{Images}
use Rattle.outside.specs.declared.disk.DiskFile.{DiskFile}
use Rattle.outside.specs.declared.fault.CallFault.{CallFault}
use Rattle.outside.specs.declared.fault.CallFault.TheVariants as call
use Rattle.poll_core.proofs.DiskLemmas.{reopens_none}
use Rattle.poll_core.specs.OpenCause.{call_refusal, IsOfSettings}
use Rattle.poll_core.specs.Reopens.{Reopens}
use Rattle.pipeline.specs.AsRules.{rules_of}
use Rattle.pipeline.specs.declared.Pipeline.{Pipeline}
use Rattle.pipeline.specs.MadeOf.{IsMadeOf}
use Rattle.poll_core.specs.OpenFaults.{IsSettingsRefusal}
use Rattle.poll_core.specs.declared.fault.OpenFault.{OpenFault}
use Rattle.poll_core.specs.declared.fault.OpenFault.TheVariants.{Settings, Build, Disk, CheckpointBad, SettingsChanged, OutputShort, Memory}

module _ {D : Type 0} {images : Images DiskFile D} where
  pub reopens_then : {old mid new : D} → Passes images Same old mid → Passes images Reopens mid new → Passes images Reopens old new
  reopens_then a b = passes_after_same a b reopens_none

-- ---- faults

-- a fault that is none of the settings comes where they are read and what they ask for is made
pub late_refusal : (text : List ℕ) (pipeline : Pipeline) (fault : OpenFault) → IsMadeOf text pipeline → (IsOfSettings fault → ⊥) → IsSettingsRefusal text fault
late_refusal text pipeline (Settings _) made late = absurd (late tt)
late_refusal text pipeline (Build _) made late = absurd (late tt)
late_refusal text pipeline Disk made late = (rules_of text pipeline, (pipeline, made, refl))
late_refusal text pipeline (CheckpointBad _) made late = (rules_of text pipeline, (pipeline, made, refl))
late_refusal text pipeline (SettingsChanged _) made late = (rules_of text pipeline, (pipeline, made, refl))
late_refusal text pipeline (OutputShort _ _) made late = (rules_of text pipeline, (pipeline, made, refl))
late_refusal text pipeline Memory made late = tt

call_late : (given : CallFault) → IsOfSettings (call_refusal given) → ⊥
call_late call.Failed of_settings = of_settings
call_late call.Memory of_settings = of_settings

pub call_refusal_late : (text : List ℕ) (pipeline : Pipeline) (given : CallFault) → IsMadeOf text pipeline → IsSettingsRefusal text (call_refusal given)
call_refusal_late text pipeline given made = late_refusal text pipeline (call_refusal given) made (call_late given)
