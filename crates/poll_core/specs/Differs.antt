-- Where two texts differ.
use Rattle.std.specs.Prelude.{◌≡◌, ◌≢◌, ℕ, ◌<◌, List, slice_get}

-- This is the first place at which they differ, where nothing stands past the end of a text.
pub record DiffersAt (one other : List ℕ) (at : ℕ) : Type 0 where
  pub same_before : (place : ℕ) → place < at → slice_get one place ≡ slice_get other place
  pub differs : slice_get one at ≢ slice_get other at
