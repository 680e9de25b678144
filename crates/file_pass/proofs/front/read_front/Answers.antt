use Rattle.std.proofs.Common.{◌≡◌, ◌-◌, ℕ, length, take, drop, ◌∙◌, arith, length-drop}
use Rattle.std.proofs.lemmas.List.{length-take}
use Rattle.slot_store.proofs.Filling.{length_filled}
use Rattle.file_pass.specs.declared.ending.Ending.TheVariants.{Whole}
use Rattle.file_pass.proofs.PieceLemmas.{front_ends, front_goes}
use Rattle.file_pass.proofs.front.read_front.Goals as goal

pub returns-then-not-is_whole-clause-tree : goal.returns-then-not-is_whole-clause-tree
returns-then-not-is_whole-clause-tree g c =
    let inv = c.loop-filled.invariant in
    let buffer = c.read_piece-count.new.buffer in
    let part : ℕ = length (take (length c.loop-filled.front - c.loop-filled.filled) (drop c.loop-filled.filled c.loop-filled.front)) in
    let part_is : part ≡ length c.loop-filled.front - c.loop-filled.filled = omega (arith, length-take (length c.loop-filled.front - c.loop-filled.filled) (drop c.loop-filled.filled c.loop-filled.front), length-drop c.loop-filled.filled c.loop-filled.front) in
    front_ends g.T.Tree.meaning c.args.file.handle.0 (length c.args.front.now) (length c.args.front.now) part c.loop-filled.front buffer c.loop-filled.filled c.read_piece-count.result.0 c.read_piece-count.result.1 c.args.tree.now c.loop-filled.tree c.read_piece-count.new.tree
    inv.within (c.read_piece-count.ensures.long ∙ part_is) c.read_piece-count.ensures.within.0 (omega (arith, inv.long)) (omega (arith, part_is, inv.long)) inv.world inv.cause inv.keeps
    c.read_piece-count.ensures.tree (c.read_piece-count.ensures.none (c.is_whole.ensures.no c.if-not-is_whole.true))

pub loop-filled-preserved : goal.loop-filled-preserved
loop-filled-preserved g c =
    let inv = c.loop-filled.invariant in
    let buffer = c.read_piece-count.new.buffer in
    let part : ℕ = length (take (length c.loop-filled.front - c.loop-filled.filled) (drop c.loop-filled.filled c.loop-filled.front)) in
    let part_is : part ≡ length c.loop-filled.front - c.loop-filled.filled = omega (arith, length-take (length c.loop-filled.front - c.loop-filled.filled) (drop c.loop-filled.filled c.loop-filled.front), length-drop c.loop-filled.filled c.loop-filled.front) in
    let long : length buffer ≡ length c.loop-filled.front - c.loop-filled.filled = c.read_piece-count.ensures.long ∙ part_is in
    let same = length_filled c.loop-filled.front buffer c.loop-filled.filled inv.within long in
    let goes = front_goes g.T.Tree.meaning c.args.file.handle.0 (length c.args.front.now) (length c.args.front.now) part c.loop-filled.front buffer c.loop-filled.filled c.read_piece-count.result.0 Whole c.args.tree.now c.loop-filled.tree c.read_piece-count.new.tree
    inv.within long c.read_piece-count.ensures.within.0 (omega (arith, inv.long)) (omega (arith, part_is, inv.long)) inv.world inv.cause inv.keeps
    (rw (c.is_whole.ensures.yes c.if-not-is_whole.false) at c.read_piece-count.ensures.tree) in
    record {
      within = omega (arith, same, long, inv.within, c.read_piece-count.ensures.within.0);
      long = same ∙ inv.long;
      world = goes.world;
      cause = goes.cause;
      keeps = goes.keeps;
    }
