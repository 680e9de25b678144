-- What calls of a pass do to a tree and a disk that come to their end.
use Rattle.std.specs.Prelude.{◌≡◌, ℕ, ◌+◌, ◌≤◌, List, length}
use Rattle.outside.specs.Count.{raised}
use Rattle.outside.specs.TreeMeaning.{TreeMeaning}
use Rattle.outside.specs.World.{World, Told}
use Rattle.standing.specs.Marks.{Mark}
use Rattle.file_pass.specs.DiskTerms.{Appends}
use Rattle.file_pass.specs.Full.{lines_text}
use Rattle.file_pass.specs.Gain.{Gain, gain_of, with_taken}
use Rattle.file_pass.specs.Moment.{Meanings, RowsAt}
use Rattle.file_pass.specs.Step.{Step, step}
use Rattle.file_pass.specs.TreeTerms.{KeepsTree}
use Rattle.file_pass.specs.declared.found.Found.{Found}

-- These lines were put behind the output, each failure that is counted raised the tree's count, reads gave no more bytes
-- than the gain has, and what is told of the tree went on by the change, which may speak of the step.
pub record Takes {T D : Type 0} (means : Meanings T D) (change : Step → World → World → Type 0) (gain : Gain) (before after : RowsAt T D) : Type 0 where
  pub added : List Mark
  pub lines : gain.lines ≡ length added
  pub appends : Appends means.disks (lines_text added) before.end after.end before.outside.disk after.outside.disk
  pub rose : raised (means.trees.faults before.outside.tree) gain.failed ≤ means.trees.faults after.outside.tree
  pub read : means.trees.taken after.outside.tree ≤ means.trees.taken before.outside.tree + gain.taken
  pub world : Told (change (step before.rows after.rows gain added)) (means.trees.world before.outside.tree) (means.trees.world after.outside.tree)

-- This was found, with reads that gave some number of bytes at most.
pub record Finds {T D : Type 0} (means : Meanings T D) (change : Step → World → World → Type 0) (found : Found) (before after : RowsAt T D) : Type 0 where
  pub bytes : ℕ
  pub takes : Takes means change (with_taken bytes (gain_of found)) before after

-- what is kept of a tree, whatever was read
abbrev pub KeepsTreeAt : {T : Type 0} → TreeMeaning T → ℕ → T → T → Type 0
KeepsTreeAt {T} meaning most old new = (taken : ℕ) × KeepsTree meaning most taken old new
