-- How a command opens its session, and why it doesn't.
use Rattle.std.specs.Prelude.{◌≡◌, ⊤, IsTrue, Err}
use Rattle.checkpoint_store.specs.Limits.{output_limit}
use Rattle.outside.specs.Images.{Images}
use Rattle.outside.specs.declared.disk.DiskFile.{DiskFile}
use Rattle.outside.specs.declared.disk.DiskFile.TheVariants as file
use Rattle.poll_core.specs.IsSession.{IsSession}
use Rattle.pipeline.specs.BuildFaults.{IsNotBuilt}
use Rattle.poll_core.specs.OpenFaults.{IsRefused}
use Rattle.poll_core.specs.Remembers.{GoesOnFrom}
use Rattle.poll_core.specs.SessionParts.{checkpoint_of_session, limit_of, settings_of_session, time_of_session}
use Rattle.poll_core.specs.StandsOn.{StandsOn}
use Rattle.poll_core.specs.declared.fault.OpenFault.{OpenFault}
use Rattle.poll_core.specs.declared.fault.OpenFault.TheVariants.{Settings, Build, Disk, CheckpointBad, SettingsChanged, OutputShort, Memory}
use Rattle.poll_core.specs.declared.session.Session.{Session}
use Rattle.settings_text.specs.Grammar as grammar

-- The session has the settings of the settings file and goes on from what reads give of the disk, and then it stands on it. Its time
-- is the greatest time of a line that is kept.
pub record Opens {D : Type 0} (images : Images DiskFile D) (session : Session) (disk disk_after : D) : Type 0 where
  pub is_session : IsSession session
  pub limit : limit_of session ≡ output_limit
  pub settings : IsTrue (images.tells disk) → settings_of_session session ≡ images.seen disk file.Settings
  pub goes_on : IsTrue (images.tells disk) → GoesOnFrom session (images.seen disk)
  pub stands : StandsOn images session disk_after
  pub time : time_of_session session ≡ (checkpoint_of_session session).observed

-- Want of memory is free, and a fault of the disk has its own clause.
abbrev pub IsOpeningFault : {D : Type 0} (images : Images DiskFile D) (disk : D) → OpenFault → Type 0
IsOpeningFault images disk (Settings fault) = IsTrue (images.tells disk) → grammar.settings (images.seen disk file.Settings) ≡ Err fault
IsOpeningFault images disk (Build fault) = IsTrue (images.tells disk) → IsNotBuilt (images.seen disk file.Settings) fault
IsOpeningFault images disk (CheckpointBad at) = IsTrue (images.tells disk) → IsRefused (images.seen disk file.Settings) (images.seen disk) (CheckpointBad at)
IsOpeningFault images disk (SettingsChanged at) = IsTrue (images.tells disk) → IsRefused (images.seen disk file.Settings) (images.seen disk) (SettingsChanged at)
IsOpeningFault images disk (OutputShort kept found) = IsTrue (images.tells disk) → IsRefused (images.seen disk file.Settings) (images.seen disk) (OutputShort kept found)
IsOpeningFault images disk Disk = ⊤
IsOpeningFault images disk Memory = ⊤

-- a refusal of the settings or of what stands on the disk
abbrev pub IsRefusal : OpenFault → Type 0
IsRefusal (Settings fault) = ⊤
IsRefusal (Build fault) = ⊤
IsRefusal (CheckpointBad at) = ⊤
IsRefusal (SettingsChanged at) = ⊤
IsRefusal (OutputShort kept found) = ⊤
IsRefusal Disk = ⊥
IsRefusal Memory = ⊥

-- Why the settings file isn't read.
abbrev pub IsSettingsFault : {D : Type 0} (images : Images DiskFile D) (disk : D) → OpenFault → Type 0
IsSettingsFault images disk (Settings fault) = IsTrue (images.tells disk) → grammar.settings (images.seen disk file.Settings) ≡ Err fault
IsSettingsFault images disk Disk = ⊤
IsSettingsFault images disk Memory = ⊤
IsSettingsFault images disk (Build fault) = ⊥
IsSettingsFault images disk (CheckpointBad at) = ⊥
IsSettingsFault images disk (SettingsChanged at) = ⊥
IsSettingsFault images disk (OutputShort kept found) = ⊥
