-- A session stands on a disk.
use Rattle.outside.specs.Images.{Images}
use Rattle.outside.specs.declared.disk.DiskFile.{DiskFile}
use Rattle.poll_core.specs.Remembers.{IsLeftBy}
use Rattle.poll_core.specs.declared.session.Session.{Session}
use Rattle.slot_store.specs.Committed.{LeavesOne}
use Rattle.slot_store.specs.Synced.{EachLeft}

-- A crash leaves one image alone, the settings file aside, and it has what the session remembers and nothing behind it.
pub record StandsOn {D : Type 0} (images : Images DiskFile D) (session : Session) (disk : D) : Type 0 where
  pub one : LeavesOne images disk
  pub each : EachLeft images disk (IsLeftBy session)
