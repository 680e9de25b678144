use Rattle.tree_walk.proofs.Once.{HasListed}
use Rattle.tree_walk.specs.Calls.{Lasts}
use Rattle.tree_walk.specs.Inner.Reached.{Reaches}
use Rattle.tree_walk.specs.Patterns.{patterns}
use Rattle.tree_walk.proofs.walk.paths.Given as goal

abbrev pub invariant-loop-level : goal.invariant-loop-level
invariant-loop-level g l = record {
  reached : Reaches g.T.Tree.meaning (patterns l.include l.exclude) l.level l.found l.fn.tree l.tree;
  lasts : Lasts g.T.Tree.meaning l.fn.tree l.tree;
  lists : HasListed g.T.Tree.meaning l.include l.level l.fn.tree l.tree;
}
