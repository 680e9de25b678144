-- What stands is kept from any moment on.
use Rattle.std.specs.Prelude.{◌≡◌, ℕ, ◌≤◌}
use Rattle.outside.specs.Image.{Image}
use Rattle.outside.specs.Images.{Images}
use Rattle.outside.specs.World.{World}
use Rattle.outside.specs.declared.disk.DiskFile.{DiskFile}
use Rattle.poll_core.specs.Polled.{IsStanding}
use Rattle.standing.specs.Apart.{Apart}
use Rattle.standing.specs.Rules.{Rules}

-- Where each image that a crash may have left since some moment stood at the begin, each that it may have left since then
-- stands at the end, where these rules flush nothing and files can be told apart by them. The moment is the begin or any before it,
-- so that what is kept from one call to the next is kept by all of them.
abbrev pub KeepsStandingSince : {D : Type 0} → Images DiskFile D → Rules → D → D → World → World → Type 0
KeepsStandingSince {D} images rules disk disk_after old new =
    rules.flush_after ≡ 0 → Apart rules.front_size new.history → (from : ℕ) → from ≤ images.moment disk
    → ((image : Image DiskFile) → images.left_since disk from image → IsStanding old.history image)
    → (image : Image DiskFile) → images.left_since disk_after from image → IsStanding new.history image
