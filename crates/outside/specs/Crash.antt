-- What a crash may leave, now and at each moment since an earlier one. A disk here is anything that has images.
use Rattle.std.specs.Prelude.{◌≡◌, ◌⊎◌, ℕ, ◌≤◌}
use Rattle.outside.specs.Image.{Image}
use Rattle.outside.specs.Images.{Images}

-- the image comes by the change from one that could be left before
abbrev pub After : {F : Type 0} → (Image F → Type 0) → (Image F → Image F → Type 0) → Image F → Type 0
After {F} could_leave change image = (old : Image F) × could_leave old × change old image

-- From old to new the disk changed as this says, also as seen by a crash inside the call.
pub record Passes {F D : Type 0} (images : Images F D) (change : Image F → Image F → Type 0) (old new : D) : Type 0 where
  pub later : images.moment old ≤ images.moment new
  -- what may be left now could be left before, and was changed so
  pub now_left : (image : Image F) → images.may_leave new image → After (images.may_leave old) change image
  -- what may have been left since an earlier moment was left before, or comes by the change
  pub since : (from : ℕ) (image : Image F) → from ≤ images.moment old → images.left_since new from image → images.left_since old from image ⊎ After (images.may_leave old) change image
  pub keeps : (from : ℕ) (image : Image F) → from ≤ images.moment old → images.left_since old from image → images.left_since new from image

-- a crash leaves of this file what reads give
abbrev pub IsDurable : {F D : Type 0} → Images F D → F → D → Type 0
IsDurable {F} images file disk = (image : Image F) → images.may_leave disk image → image file ≡ images.seen disk file
