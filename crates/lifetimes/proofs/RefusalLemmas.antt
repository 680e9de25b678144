-- Settings that are refused, before the disk is asked.
use Rattle.std.proofs.Common.{ℕ, List, Err, refl}
use Rattle.lifetimes.proofs.PollLemmas.{none_rose}
use Rattle.lifetimes.specs.Inner.Past.{CantOpenBy}
use Rattle.lifetimes.specs.Refusal.{setup_fault}
use Rattle.poll_core.specs.OpenCause.{HasOpenCause, IsOfContents}
use Rattle.poll_core.specs.OpenFaults.{IsSettingsRefusal}
use Rattle.poll_core.specs.declared.fault.OpenFault.{OpenFault}
use Rattle.poll_core.specs.declared.fault.OpenFault.TheVariants.{Settings, Build, Disk, CheckpointBad, SettingsChanged, OutputShort, Memory}

-- T is what would have been made.
pub settings_refused : (T : Type 0) (text : List ℕ) (fault : OpenFault) → IsSettingsRefusal text fault → (IsOfContents fault → ⊥) → HasOpenCause {T = T} (Err fault) 0 0 → CantOpenBy text (setup_fault fault)
settings_refused T text (Settings fault) refusal early cause = record { of_settings = tt; refusal = refusal }
settings_refused T text (Build fault) refusal early cause = record { of_settings = tt; refusal = refusal }
settings_refused T text Disk refusal early cause = absurd (none_rose 0 0 refl refl cause)
settings_refused T text (CheckpointBad place) refusal early cause = absurd (early tt)
settings_refused T text (SettingsChanged place) refusal early cause = absurd (early tt)
settings_refused T text (OutputShort least size) refusal early cause = absurd (early tt)
settings_refused T text Memory refusal early cause = tt
