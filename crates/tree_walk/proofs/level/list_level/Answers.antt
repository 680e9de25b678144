use Rattle.std.proofs.Common.{refl, ◌∙◌, ap, subst, List, ℕ}
use Rattle.std.proofs.lemmas.Result.{on_ok_weaker}
use Rattle.std.specs.Global.{Vec}
use Rattle.tree_walk.specs.Inner.Gained.{IsSorted}
use Rattle.tree_walk.proofs.Once.{IsDue, told_none, told_level}
use Rattle.tree_walk.proofs.level.list_level.Goals as goal

pub returns-clause-ok : goal.returns-clause-ok
returns-clause-ok g c =
    on_ok_weaker c.list_folders.result
    (λ enters. record {
      due = c.add_starts.new.folders.items;
      with_starts = c.in_ok-add_starts.ensures;
      folders = c.in_ok-folders.folders.items;
      sorted = subst (λ (v : Vec (List ℕ)). IsSorted v.items c.in_ok-folders.folders.items) c.replace.ensures.value c.in_ok-folders.ensures;
      emptied = record { paths = c.args.found.now.paths; folders = c.replace.new.dest; failed = c.args.found.now.failed };
      same_paths = refl;
      no_folders = ap (λ (v : Vec (List ℕ)). v.items) c.replace.ensures.after ∙ c.new.ensures.items;
      same_failed = refl;
      enters = enters;
    })
    (rw c.deref.ensures.value at c.list_folders.ensures.ok)

pub returns-in_err-add_starts-clause-lists : goal.returns-in_err-add_starts-clause-lists
returns-in_err-add_starts-clause-lists g c = told_none (IsDue c.args.found.now.folders.items c.args.starts.now c.args.level) (g.T.Tree.meaning.listed c.args.tree.now)

pub returns-in_err-folders-clause-lists : goal.returns-in_err-folders-clause-lists
returns-in_err-folders-clause-lists g c = told_none (IsDue c.args.found.now.folders.items c.args.starts.now c.args.level) (g.T.Tree.meaning.listed c.args.tree.now)

pub returns-clause-lists : goal.returns-clause-lists
returns-clause-lists g c =
    told_level c.args.found.now.folders.items c.args.starts.now c.add_starts.new.folders.items c.in_ok-folders.folders.items c.args.level c.in_ok-add_starts.ensures
    (subst (λ (v : Vec (List ℕ)). IsSorted v.items c.in_ok-folders.folders.items) c.replace.ensures.value c.in_ok-folders.ensures) (g.T.Tree.meaning.listed c.args.tree.now) (g.T.Tree.meaning.listed c.list_folders.new.tree)
    (rw c.deref.ensures.value at c.list_folders.ensures.lists)
