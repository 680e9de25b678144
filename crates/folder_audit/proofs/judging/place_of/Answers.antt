use Rattle.std.proofs.Common.{◌≡◌, ◌++◌, length, take, drop, ap, ◌∙◌, arith}
use Rattle.std.proofs.lemmas.List.{take_at}
use Rattle.file_tracker.specs.Places.{place_of}
use Rattle.folder_audit.proofs.JudgeLemmas.{placed}
use Rattle.folder_audit.proofs.TriedLemmas.{knows_front, knows_none}
use Rattle.folder_audit.proofs.judging.place_of.Goals as goal

pub returns-clause-ok : goal.returns-clause-ok
returns-clause-ok g c =
    let trees = g.T.Tree.meaning in
    let front = c.read_range.new.buffer in
    let held = c.in_ok-front.front.items in
    let many : length front ≡ length held = c.read_range.ensures.long ∙ ap length c.deref_mut.ensures.value in
    let whole : take c.in_ok-front.front.len (front ++ drop (length front) held) ≡ front = take_at front (drop (length front) held) c.in_ok-front.front.len (omega (arith, many, c.in_ok-front.front.ok.0)) in
    placed c.args.kept.now c.args.file front c.find.result (trees.world c.args.tree.now) (trees.world c.read_range.new.tree)
    (c.find.ensures ∙ ap (λ l. place_of l c.args.kept.now.rows) (c.deref-2.ensures.value ∙ whole))
    (λ last is_last. omega (arith, many, c.in_ok-front.front.ok.0, c.in_ok-front.ensures.len, (rw c.deref.ensures.value at c.front_size-size.ensures) last is_last))
    (c.read_range.ensures.range.given c.if-not-read_range.false)

pub returns-clause-knows : goal.returns-clause-knows
returns-clause-knows g c =
    let front = c.read_range.new.buffer in
    let held = c.in_ok-front.front.items in
    let many : length front ≡ length held = c.read_range.ensures.long ∙ ap length c.deref_mut.ensures.value in
    let whole : take c.in_ok-front.front.len (front ++ drop (length front) held) ≡ front = take_at front (drop (length front) held) c.in_ok-front.front.len (omega (arith, many, c.in_ok-front.front.ok.0)) in
    knows_front g.T.Tree.meaning c.args.kept.now c.args.file front c.find.result c.args.tree.now c.read_range.new.tree
    (c.find.ensures ∙ ap (λ l. place_of l c.args.kept.now.rows) (c.deref-2.ensures.value ∙ whole))
    (λ last is_last. omega (arith, many, c.in_ok-front.front.ok.0, c.in_ok-front.ensures.len, (rw c.deref.ensures.value at c.front_size-size.ensures) last is_last))
    (c.read_range.ensures.range.given c.if-not-read_range.false)

pub returns-then-not-read_range-clause-knows : goal.returns-then-not-read_range-clause-knows
returns-then-not-read_range-clause-knows g c =
    let front = c.read_range.new.buffer in
    let many : length front ≡ length c.in_ok-front.front.items = c.read_range.ensures.long ∙ ap length c.deref_mut.ensures.value in
    knows_none g.T.Tree.meaning c.args.kept.now c.args.file front c.args.tree.now c.read_range.new.tree
    (λ last is_last. omega (arith, many, c.in_ok-front.front.ok.0, c.in_ok-front.ensures.len, (rw c.deref.ensures.value at c.front_size-size.ensures) last is_last))
    (c.read_range.ensures.range.failed c.if-not-read_range.true)
