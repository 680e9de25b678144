use Rattle.std.proofs.Common.{◌∷◌, [], List, ℕ, ◌+◌, take}
use Rattle.std.specs.Prelude.{Contains}
use Rattle.tree_walk.proofs.Entering.{enters_none, enters_then}
use Rattle.tree_walk.proofs.Lasting.{lasts_none, lasts_then}
use Rattle.tree_walk.proofs.Lists.{one_more}
use Rattle.tree_walk.proofs.Once.{told_none, told_more, told_next, of_front}
use Rattle.tree_walk.proofs.level.list_folders.Goals as goal

pub loop-folder-init : goal.loop-folder-init
loop-folder-init g c = record {
  entered = enters_none g.T.Tree.meaning c.args.globs.now.include.now c.args.globs.now.exclude.now c.args.found.now c.args.tree.now;
  lasts = lasts_none g.T.Tree.meaning c.args.tree.now;
  lists = λ _. told_none (Contains (take 0 c.args.folders.now)) (g.T.Tree.meaning.listed c.args.tree.now);
}

pub returns-in_err-list_folder-clause-lasts : goal.returns-in_err-list_folder-clause-lasts
returns-in_err-list_folder-clause-lasts g c = lasts_then g.T.Tree.meaning c.args.tree.now c.loop-folder.tree c.list_folder.new.tree c.loop-folder.invariant.lasts c.list_folder.ensures.lasts

pub returns-in_err-list_folder-clause-lists : goal.returns-in_err-list_folder-clause-lists
returns-in_err-list_folder-clause-lists g c = λ distinct.
    let folders : List (List ℕ) = c.args.folders.now in
    let i : ℕ = c.loop-folder.folder-index in
    let old = g.T.Tree.meaning.listed c.args.tree.now in
    let new = g.T.Tree.meaning.listed c.list_folder.new.tree in
    told_more (Contains (take (i + 1) folders)) (Contains folders) old new (of_front folders (i + 1))
    (told_next folders i c.folder-item.result c.loop-folder-test.true c.folder-item.is distinct old (g.T.Tree.meaning.listed c.loop-folder.tree) new (c.loop-folder.invariant.lists distinct) (rw c.as_str.ensures at c.list_folder.ensures.lists))

pub returns-clause-lists : goal.returns-clause-lists
returns-clause-lists g c = λ distinct.
    told_more (Contains (take c.loop-folder.folder-index c.args.folders.now)) (Contains c.args.folders.now) (g.T.Tree.meaning.listed c.args.tree.now) (g.T.Tree.meaning.listed c.loop-folder.tree) (of_front c.args.folders.now c.loop-folder.folder-index) (c.loop-folder.invariant.lists distinct)

pub loop-folder-preserved : goal.loop-folder-preserved
loop-folder-preserved g c =
    let one = one_more (λ (_ : List ℕ). Unit {0}) c.args.folders.now c.loop-folder.folder-index c.folder-item.result c.loop-folder-test.true c.folder-item.is in
    record {
      entered = rw one
          (enters_then g.T.Tree.meaning c.args.globs.now.include.now c.args.globs.now.exclude.now (take c.loop-folder.folder-index c.args.folders.now) (c.folder-item.result ∷ []) c.args.found.now c.loop-folder.found c.list_folder.new.found c.args.tree.now c.loop-folder.tree c.list_folder.new.tree
          c.loop-folder.invariant.entered (rw c.as_str.ensures at c.in_ok-list_folder.ensures.ok));
      lasts = lasts_then g.T.Tree.meaning c.args.tree.now c.loop-folder.tree c.list_folder.new.tree c.loop-folder.invariant.lasts c.list_folder.ensures.lasts;
      lists = λ distinct.
          told_next c.args.folders.now c.loop-folder.folder-index c.folder-item.result c.loop-folder-test.true c.folder-item.is distinct (g.T.Tree.meaning.listed c.args.tree.now) (g.T.Tree.meaning.listed c.loop-folder.tree) (g.T.Tree.meaning.listed c.list_folder.new.tree)
          (c.loop-folder.invariant.lists distinct) (rw c.as_str.ensures at c.list_folder.ensures.lists);
    }
