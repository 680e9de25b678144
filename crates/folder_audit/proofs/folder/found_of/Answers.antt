use Rattle.std.proofs.Common.{sym}
use Rattle.std.proofs.lemmas.Result.{IfOk-weaker}
use Rattle.tree_walk.specs.Listings.{failures}
use Rattle.tree_walk.specs.Patterns.{patterns}
use Rattle.folder_audit.specs.KeptFiles.{IsLast}
use Rattle.folder_audit.proofs.FindingLemmas.{found_earlier}
use Rattle.folder_audit.proofs.KeptLemmas.{one_last}
use Rattle.folder_audit.proofs.ReadLemmas.{goes_listed, goes_then}
use Rattle.folder_audit.proofs.WalkedLemmas.{due_found}
use Rattle.folder_audit.proofs.folder.found_of.Goals as goal

pub look_at_all-requires-clause-included : goal.look_at_all-requires-clause-included
look_at_all-requires-clause-included g c = λ path there last is_last.
    let its : IsLast c.args.kept.now.pipes.items c.last_of-last.result.now = rw c.deref.ensures.value at c.last_of-last.ensures in
    let same = one_last c.args.kept.now.pipes.items c.last_of-last.result.now last its is_last in
    let included = rw (c.include.ensures, c.exclude.ensures) at (c.in_ok-walk.ensures.ok.included path (rw c.deref-2.ensures.value at there)) in
    rw (sym same) included

pub returns-clause-found : goal.returns-clause-found
returns-clause-found g c =
    let trees = g.T.Tree.meaning in
    IfOk-weaker c.look_at_all.result _ _ (λ found. found_earlier c.args.kept.now found.items (trees.world c.args.tree.now) (trees.world c.paths.new.tree) (trees.world c.look_at_all.new.tree) c.paths.ensures.lasts.world) c.look_at_all.ensures.found

pub returns-clause-due : goal.returns-clause-due
returns-clause-due g c =
    let trees = g.T.Tree.meaning in
    let its : IsLast c.args.kept.now.pipes.items c.last_of-last.result.now = rw c.deref.ensures.value at c.last_of-last.ensures in
    let walk = c.in_ok-walk.ensures.ok in
    IfOk-weaker c.look_at_all.result _ _
    (λ found walked. due_found trees c.args.kept.now c.last_of-last.result.now its (patterns c.include.result.now c.exclude.result.now) c.include.ensures c.exclude.ensures
    c.deref-2.result.now walk.deep_folders (failures walk.fails walk.unnamed) found.items c.args.tree.now c.paths.new.tree c.look_at_all.new.tree
    (goes_listed trees c.args.tree.now c.paths.new.tree c.paths.ensures.lasts) c.look_at_all.ensures.tree (rw c.deref-2.ensures.value walk.world) walked) c.look_at_all.ensures.walked

pub returns-clause-tree : goal.returns-clause-tree
returns-clause-tree g c =
    let trees = g.T.Tree.meaning in
    goes_then trees c.args.tree.now c.paths.new.tree c.look_at_all.new.tree (goes_listed trees c.args.tree.now c.paths.new.tree c.paths.ensures.lasts) c.look_at_all.ensures.tree
