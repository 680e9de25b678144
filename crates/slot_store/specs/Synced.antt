-- What a crash leaves of a file after a sync of it that succeeded.
use Rattle.outside.specs.Crash.{After}
use Rattle.outside.specs.Image.{Image}
use Rattle.outside.specs.Images.{Images}

-- Each image that a crash may leave is so.
pub record EachLeft {F D : Type 0} (images : Images F D) (disk : D) (holds : Image F → Type 0) : Type 0 where
  pub each : (image : Image F) → images.may_leave disk image → holds image

-- Each image that a crash may leave now comes by the change from one that it could leave before.
pub record LeavesChanged {F D : Type 0} (images : Images F D) (change : Image F → Image F → Type 0) (old new : D) : Type 0 where
  pub each : (image : Image F) → images.may_leave new image → After (images.may_leave old) change image
