use Rattle.std.proofs.Common.{◌+◌, ◌-◌, ◌/◌, ◌<◌, ℕ, Bool, length, slice_index, sym, subst, ◌∙◌, arith}
use Rattle.file_tracker.specs.Fronts.{fronts_of}
use Rattle.file_tracker.specs.Order.{StandsBetween}
use Rattle.file_tracker.proofs.FrontLemmas.{front_read}
use Rattle.file_tracker.proofs.StandingLemmas.{goes_left, goes_right}
use Rattle.file_tracker.proofs.CostLemmas.{Halves, halves_more}
use Rattle.file_tracker.proofs.search.search.Goals as goal

pub loop-low-preserved-then-is_gt : goal.loop-low-preserved-then-is_gt
loop-low-preserved-then-is_gt g c =
    let middle = c.loop-low.low + (c.loop-low.high - c.loop-low.low) / 2 in
    let row = c.index-rows-order.result in
    let stands = c.loop-low.invariant.0 in
    let place : slice_index c.args.order.now middle < length c.args.rows.now = c.requires.places.in_range middle (omega (arith, stands.within)) in (
      goes_left (fronts_of c.args.rows.now) c.args.order.now c.args.text.now c.loop-low.low c.loop-low.high middle c.loop-low.begun row.front c.compare-standing.result
          c.requires.ascends stands (omega arith) (omega arith) (front_read c.args.rows.now (slice_index c.args.order.now middle) row place c.index-rows-order.is)
          c.compare-standing.ensures.value (sym c.is_gt.ensures ∙ c.if-is_gt.true),
      subst (λ (steps : ℕ). Halves (length c.args.order.now) c.args.steps.now steps (middle - c.loop-low.low)) (sym c.compare-standing.ensures.counted)
          (halves_more (length c.args.order.now) c.args.steps.now c.loop-low.steps (c.loop-low.high - c.loop-low.low) (middle - c.loop-low.low)
          c.loop-low.invariant.1 (omega arith) (omega arith)),
    )

pub loop-low-preserved : goal.loop-low-preserved
loop-low-preserved g c =
    let middle = c.loop-low.low + (c.loop-low.high - c.loop-low.low) / 2 in
    let row = c.index-rows-order.result in
    let stands = c.loop-low.invariant.0 in
    let place : slice_index c.args.order.now middle < length c.args.rows.now = c.requires.places.in_range middle (omega (arith, stands.within)) in (
      subst (λ (begun : Bool). StandsBetween (fronts_of c.args.rows.now) c.args.order.now c.args.text.now (middle + 1) c.loop-low.high begun) (sym c.is_eq-begun.ensures)
          (goes_right (fronts_of c.args.rows.now) c.args.order.now c.args.text.now c.loop-low.low c.loop-low.high middle c.loop-low.begun row.front c.compare-standing.result
          c.requires.ascends stands (omega arith) (front_read c.args.rows.now (slice_index c.args.order.now middle) row place c.index-rows-order.is)
          c.compare-standing.ensures.value (sym c.is_gt.ensures ∙ c.if-is_gt.false)),
      subst (λ (steps : ℕ). Halves (length c.args.order.now) c.args.steps.now steps (c.loop-low.high - (middle + 1))) (sym c.compare-standing.ensures.counted)
          (halves_more (length c.args.order.now) c.args.steps.now c.loop-low.steps (c.loop-low.high - c.loop-low.low) (c.loop-low.high - (middle + 1))
          c.loop-low.invariant.1 (omega arith) (omega arith)),
    )
