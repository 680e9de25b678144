use Rattle.folder_audit.proofs.JudgeLemmas.{open_found}
use Rattle.folder_audit.proofs.ReadLemmas.{goes_then}
use Rattle.folder_audit.proofs.TriedLemmas.{finds_none, finds_open}
use Rattle.folder_audit.proofs.judging.judge_file.Goals as goal

pub returns-in_err-finding-clause-tree : goal.returns-in_err-finding-clause-tree
returns-in_err-finding-clause-tree g c = goes_then g.T.Tree.meaning c.args.tree.now c.place_of.new.tree c.judge.new.tree c.place_of.ensures.tree c.judge.ensures.tree

pub returns-clause-ok : goal.returns-clause-ok
returns-clause-ok g c =
    let trees = g.T.Tree.meaning in
    open_found c.args.kept.now c.args.file c.in-Some.place c.in_ok-finding.finding (trees.world c.args.tree.now) (trees.world c.place_of.new.tree) (trees.world c.judge.new.tree)
    (rw c.in-Some.is at c.in_ok-place.ensures.ok) c.place_of.ensures.tree.world c.judge.ensures.tree.world c.in_ok-finding.ensures.ok

pub returns-clause-tree : goal.returns-clause-tree
returns-clause-tree g c = goes_then g.T.Tree.meaning c.args.tree.now c.place_of.new.tree c.judge.new.tree c.place_of.ensures.tree c.judge.ensures.tree

pub returns-clause-finds : goal.returns-clause-finds
returns-clause-finds g c =
    finds_open g.T.Tree.meaning c.args.kept.now c.args.file c.in-Some.place c.in_ok-finding.finding c.args.tree.now c.place_of.new.tree c.judge.new.tree c.place_of.ensures.tree c.judge.ensures.tree
    (rw c.in-Some.is at c.in_ok-place.ensures.knows) c.in_ok-finding.ensures.judges

pub returns-in_default-clause-finds : goal.returns-in_default-clause-finds
returns-in_default-clause-finds g c =
    finds_none g.T.Tree.meaning c.args.kept.now c.args.file c.in_ok-place.field-0 c.args.tree.now c.place_of.new.tree (λ place is. c.in_default.not-Some place is) c.in_ok-place.ensures.knows
