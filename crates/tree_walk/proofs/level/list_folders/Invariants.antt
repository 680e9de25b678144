use Rattle.std.proofs.Common.{take}
use Rattle.std.specs.List.{IsDistinct}
use Rattle.std.specs.Prelude.{Contains}
use Rattle.std.specs.Str.{bytes_eq}
use Rattle.outside.specs.World.{Told}
use Rattle.tree_walk.specs.Calls.{Lasts}
use Rattle.tree_walk.specs.Inner.Entered.{Enters}
use Rattle.tree_walk.specs.Inner.ListsSome.{ListsSome}
use Rattle.tree_walk.specs.Inner.FoundAt.{found_at}
use Rattle.tree_walk.specs.Patterns.{patterns}
use Rattle.tree_walk.proofs.level.list_folders.Given as goal

abbrev pub invariant-loop-folder : goal.invariant-loop-folder
invariant-loop-folder g l = record {
  entered : Enters g.T.Tree.meaning (patterns l.globs.include.now l.globs.exclude.now) (take l.folder-index l.folders) (found_at l.fn.found l.fn.tree) (found_at l.found l.tree);
  lasts : Lasts g.T.Tree.meaning l.fn.tree l.tree;
  lists : IsDistinct bytes_eq l.folders → Told (ListsSome (Contains (take l.folder-index l.folders))) (g.T.Tree.meaning.listed l.fn.tree) (g.T.Tree.meaning.listed l.tree);
}
