-- Refused settings, as a script tells them.
use Rattle.std.specs.Prelude.{List, ℕ}
use Rattle.lifetimes.specs.declared.fault.ScriptFault.{ScriptFault}
use Rattle.lifetimes.specs.declared.fault.ScriptFault.TheVariants.{Setup, Memory}
use Rattle.poll_core.specs.OpenCause.{IsOfSettings}
use Rattle.poll_core.specs.OpenFaults.{IsSettingsRefusal}
use Rattle.poll_core.specs.declared.fault.OpenFault.{OpenFault}
use Rattle.poll_core.specs.declared.fault.OpenFault.TheVariants as opening

abbrev pub setup_fault : OpenFault → ScriptFault
setup_fault opening.Memory = Memory
setup_fault fault = Setup fault

-- The settings of this text are refused, and for this reason.
pub record IsSetup (text : List ℕ) (fault : OpenFault) : Type 0 where
  pub of_settings : IsOfSettings fault
  pub refusal : IsSettingsRefusal text fault
