-- Why of the text of settings nothing is made.
use Rattle.std.specs.Prelude.{◌≡◌, ◌≢◌, ℕ, List, Err, ⊤}
use Rattle.pipeline.specs.declared.fault.BuildFault.{BuildFault}
use Rattle.pipeline.specs.declared.fault.BuildFault.TheVariants as build
use Rattle.pipeline.specs.BuildFaults.{IsNotBuilt}
use Rattle.poll_core.specs.declared.unmade.Unmade.{Unmade}
use Rattle.poll_core.specs.declared.unmade.Unmade.TheVariants.{Settings, Build, Memory}
use Rattle.settings_text.specs.Grammar.{settings}
use Rattle.settings_text.specs.declared.fault.SettingsFault.{SettingsFault}
use Rattle.settings_text.specs.declared.fault.SettingsFault.TheVariants as text

abbrev pub settings_unmade : SettingsFault → Unmade
settings_unmade text.Memory = Memory
settings_unmade fault = Settings fault

abbrev pub build_unmade : BuildFault → Unmade
build_unmade build.Memory = Memory
build_unmade fault = Build fault

-- the text can't be read, or no operators can be made of what it says
abbrev pub IsUnmade : List ℕ → Unmade → Type 0
IsUnmade said (Settings fault) = (fault ≢ text.Memory) × (settings said ≡ Err fault)
IsUnmade said (Build fault) = (fault ≢ build.Memory) × IsNotBuilt said fault
IsUnmade said Memory = ⊤
