-- How long Parts were at each moment since one.
use Rattle.std.specs.Prelude.{◌≡◌, ℕ, ◌≤◌, length}
use Rattle.outside.specs.Image.{Image}
use Rattle.outside.specs.Images.{Images}
use Rattle.out_segments.specs.declared.parts.PartFile.{PartFile}
use Rattle.out_segments.specs.declared.parts.PartFile.TheVariants.{Part}

module _ {P : Type 0} (images : Images PartFile P) where
  -- Since the moment, at which a crash could leave these images, no Part was longer than a full one has bytes, or than it
  -- was in one of them: a number that each of the two is within, each image since then is within.
  pub record KeptSince (could_leave : Image PartFile → Type 0) (moment size : ℕ) (parts : P) : Type 0 where
    pub later : moment ≤ images.moment parts
    pub lengths : (number most : ℕ) → size ≤ most → ((image : Image PartFile) → could_leave image → length (image (Part number)) ≤ most)
        → (image : Image PartFile) → images.left_since parts moment image → length (image (Part number)) ≤ most

  -- From Parts to Parts no Part was made longer than so many bytes, in any image that a crash might have left meanwhile.
  abbrev pub NoneMadeLonger : ℕ → P → P → Type 0
  NoneMadeLonger size old new = KeptSince (images.may_leave old) (images.moment old) size new

  -- what is known of Parts whose full ones have so many bytes
  pub record IsSince (could_leave : Image PartFile → Type 0) (moment wanted size : ℕ) (parts : P) : Type 0 where
    pub sized : size ≡ wanted
    pub kept : KeptSince could_leave moment size parts
