-- What a crash leaves once all files that the agent writes were synced.
use Rattle.std.specs.Prelude.{◌≡◌, ◌≢◌}
use Rattle.outside.specs.Image.{Image}
use Rattle.outside.specs.Images.{Images}
use Rattle.outside.specs.declared.disk.DiskFile.{DiskFile}
use Rattle.outside.specs.declared.disk.DiskFile.TheVariants.{Settings}

-- A crash leaves what reads give, the settings file aside.
pub record IsSettled {D : Type 0} (images : Images DiskFile D) (disk : D) : Type 0 where
  pub each : (image : Image DiskFile) → images.may_leave disk image → (file : DiskFile) → file ≢ Settings → image file ≡ images.seen disk file
