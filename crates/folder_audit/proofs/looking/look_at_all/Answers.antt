use Rattle.std.proofs.Common.{◌≡◌, ◌++◌, ℕ, List, length, take, drop, sym, ap, subst, ◌∙◌, arith}
use Rattle.std.proofs.lemmas.List.{take_at, take_all}
use Rattle.folder_audit.specs.Inner.Tried.{FindsWalked}
use Rattle.folder_audit.proofs.FindingLemmas.{found_noted}
use Rattle.folder_audit.proofs.ReadLemmas.{goes_then}
use Rattle.folder_audit.proofs.WalkedLemmas.{walked_more, walked_next}
use Rattle.folder_audit.proofs.looking.look_at_all.Goals as goal

pub look_at-requires-clause-included : goal.look_at-requires-clause-included
look_at-requires-clause-included g c = λ last is_last.
    rw c.as_str.ensures (c.requires.included c.path-item.result (c.loop-path.path-index, c.loop-path-test.true, sym c.path-item.is) last is_last)

pub returns-in_err-judged-clause-tree : goal.returns-in_err-judged-clause-tree
returns-in_err-judged-clause-tree g c = goes_then g.T.Tree.meaning c.args.tree.now c.loop-path.tree c.look_at.new.tree c.loop-path.invariant.tree c.look_at.ensures.tree

pub loop-path-preserved : goal.loop-path-preserved
loop-path-preserved g c =
    let trees = g.T.Tree.meaning in
    let inv = c.loop-path.invariant in
    let before = c.loop-path.found.items in
    let after = c.note_judged.new.found in
    let many : length after ≡ length before = c.note_judged.ensures.many ∙ ap length c.deref_mut.ensures.value in
    let whole : take c.loop-path.found.len (after ++ drop (length after) before) ≡ after = take_at after (drop (length after) before) c.loop-path.found.len (omega (arith, many, c.loop-path.found.ok.0)) in
    rw whole (record {
      found = found_noted c.args.kept.now before after c.in_ok-judged.judged (trees.world c.args.tree.now) (trees.world c.loop-path.tree) (trees.world c.look_at.new.tree) inv.tree.world c.look_at.ensures.tree.world many
          (rw c.deref_mut.ensures.value at c.note_judged.ensures.each) c.in_ok-judged.ensures.ok inv.found;
      walked = subst (λ (ps : List (List ℕ)). FindsWalked trees c.args.kept.now after ps c.args.tree.now c.look_at.new.tree) (walked_next c.args.paths.now c.loop-path.path-index c.path-item.result c.loop-path-test.true c.path-item.is)
          (walked_more trees c.args.kept.now before after (take c.loop-path.path-index c.args.paths.now) c.path-item.result c.in_ok-judged.judged c.args.tree.now c.loop-path.tree c.look_at.new.tree inv.tree c.look_at.ensures.tree
          inv.found.are.many (rw c.deref_mut.ensures.value at c.note_judged.ensures.stay) (rw c.deref_mut.ensures.value at c.note_judged.ensures.noted) inv.walked (rw c.as_str.ensures at c.in_ok-judged.ensures.finds));
      tree = goes_then trees c.args.tree.now c.loop-path.tree c.look_at.new.tree inv.tree c.look_at.ensures.tree;
    })

pub returns-clause-walked : goal.returns-clause-walked
returns-clause-walked g c =
    subst (λ (ps : List (List ℕ)). FindsWalked g.T.Tree.meaning c.args.kept.now c.loop-path.found.items ps c.args.tree.now c.loop-path.tree)
    (take_all c.loop-path.path-index c.args.paths.now (omega (arith, c.loop-path-test.false))) c.loop-path.invariant.walked
