-- What a tree means: the world that it tells, and its counts.
use Rattle.std.specs.Prelude.{ℕ, List, Option}
use Rattle.outside.specs.World.{World}
use Rattle.outside.specs.Plan.{Plan}

pub record TreeMeaning (T : Type 0) : Type 1 where
  -- the history of the world and the open files, where the tree tells them
  pub world : T → Option World
  -- the steps of others that were planned, where the tree tells them
  pub plan : T → Option Plan
  -- how often the tree has failed
  pub faults : T → ℕ
  -- what `faults` never passes, where there is such a number
  pub bound : T → Option ℕ
  -- The number of bytes that reads have given. It stands still at 2^64 - 1.
  pub taken : T → ℕ
  -- The sum of the `unnamed` of all that `list` has answered. It stands still at 2^64 - 1.
  pub nameless : T → ℕ
  -- the length of the longest buffer that a read was given, where the tree tells it
  pub widest : T → Option ℕ
  -- The folders for which `list` was called, the newest first, where the tree tells them. A call for which memory ran out isn't
  -- among them.
  pub listed : T → Option (List (List ℕ))
