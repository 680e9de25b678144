-- A walk, and a pass over the paths that it found.
use Rattle.std.specs.Prelude.{◌≡◌, ℕ}
use Rattle.file_pass.specs.AllTaken.{TakesAll}
use Rattle.file_pass.specs.Fed.{poll_of, rules_in}
use Rattle.file_pass.specs.Full.{overflow}
use Rattle.file_pass.specs.Moment.{Meanings, RowsAt, TakingAt, moment, taking_at}
use Rattle.file_pass.specs.Overflow.{AllFill}
use Rattle.file_pass.specs.Sane.{IsSaneTaking}
use Rattle.file_pass.specs.Unchanged.{FlagsChanges}
use Rattle.file_pass.specs.declared.setup.Setup.{Setup}
use Rattle.file_pass.specs.declared.taking.Taking.{Taking}
use Rattle.outside.specs.TreeMeaning.{TreeMeaning}
use Rattle.outside.specs.World.{Told}
use Rattle.poll_core.specs.Inner.Begun.{IsBegun}
use Rattle.tree_walk.specs.Walked.{Finds}
use Rattle.tree_walk.specs.declared.walk.Walk.{Walk}

-- The walk found its paths, and the pass over them came to its end.
pub record Passed {T D : Type 0} (means : Meanings T D) (setup : Setup) (walk : Walk) (before : RowsAt T D) (after : TakingAt T D) : Type 0 where
  pub between : T
  pub begun : Taking
  pub is_begun : IsBegun before.rows before.end begun
  pub finds : Finds means.trees (rules_in setup).include (rules_in setup).exclude walk before.outside.tree between
  pub takes : TakesAll means setup walk.paths.items (taking_at begun (moment between before.outside.disk)) after
  pub walk_read : means.trees.taken between ≡ means.trees.taken before.outside.tree
  pub nameless : means.trees.nameless after.outside.tree ≡ means.trees.nameless between
  pub sane : IsSaneTaking setup after.taking
  pub flags : FlagsChanges begun after.taking

-- In the pass over them the output would have got too long.
pub record PassFills {T D : Type 0} (trees : TreeMeaning T) (setup : Setup) (full : ℕ) (before : RowsAt T D) (tree_after : T) : Type 0 where
  pub between : T
  pub walk : Walk
  pub finds : Finds trees (rules_in setup).include (rules_in setup).exclude walk before.outside.tree between
  pub fills : Told (AllFill (poll_of setup) (overflow setup.limit before.end full) walk.paths.items before.rows) (trees.world between) (trees.world tree_after)
