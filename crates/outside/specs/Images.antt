-- The images of some files: what reads give of them, and what a crash leaves. A disk that has such files tells them as
-- one record.
use Rattle.std.specs.Prelude.{ℕ, Bool}
use Rattle.outside.specs.Image.{Image}

pub record Images (F D : Type 0) : Type 1 where
  -- What is said of images speaks of a disk that tells them.
  pub tells : D → Bool
  -- what reads give
  pub seen : D → Image F
  -- what a crash at this moment may leave
  pub may_leave : D → Image F → Type 0
  -- the moment, as a number that doesn't fall
  pub moment : D → ℕ
  -- what a crash at some moment since that one may have left, inside a call or between two
  pub left_since : D → ℕ → Image F → Type 0
