use Rattle.std.proofs.Common.{◌≡◌, ℕ, ◌+◌, ◌-◌, List, length, slice_index, get_or, sym, subst, ◌∙◌, arith}
use Rattle.std.specs.List.{swap}
use Rattle.file_tracker.specs.declared.row.Row.{Row}
use Rattle.file_tracker.specs.Fronts.{front_of, fronts_of, front_at}
use Rattle.file_tracker.specs.Order.{IsAtMost, IsAbove, front_in, ArePlaces, AscendsBefore}
use Rattle.file_tracker.proofs.FrontLemmas.{front_read}
use Rattle.file_tracker.proofs.OrderLemmas.{places_swapped}
use Rattle.file_tracker.proofs.AscentLemmas.{settled_past, settled_here, settled_swapped}
use Rattle.file_tracker.proofs.index.settle.Goals as goal
use Rattle.file_tracker.proofs.index.settle.Goals.{then-order-index+then-is_above, else-order-index, else-order-index-via-then-order-index+else-is_above, else-order-index-via-else-order-index}

pub loop-index-preserved : goal.loop-index-preserved
loop-index-preserved c =
    let rows : List Row = c.args.rows.now in
    let order : List ℕ = c.loop-index.order in
    let place : ℕ = c.args.place in
    let i : ℕ = c.loop-index.index in
    let kept = c.loop-index.invariant in
    let P : List ℕ → Type 0 = λ changed. ArePlaces (length rows) changed × AscendsBefore place (i + 1) (fronts_of rows) changed in
    let here : (row : Row) → row ≡ get_or rows place row → front_of row ≡ front_at (fronts_of rows) place = λ row is. front_read rows place row c.requires.in_range is in
    let next : (row : Row) → row ≡ get_or rows (slice_index order i) row → front_of row ≡ front_in (fronts_of rows) order i =
    λ row is. front_read rows (slice_index order i) row (kept.0.in_range i (omega arith)) is in
    elim c.if-order-index.branch [
      | then-order-index+then-is_above w ↦
          let after : w.swap.new.self ≡ swap order (i - 1) i = w.swap.ensures.after in
          let neighbours : i - 1 + 1 ≡ i = omega arith in
          let over : IsAbove (front_at (fronts_of rows) place) (front_in (fronts_of rows) order i) =
          subst (λ (f : List ℕ). IsAbove f (front_in (fronts_of rows) order i)) (here w.index-rows-place.result w.index-rows-place.is)
          (subst (λ (f : List ℕ). IsAbove (front_of w.index-rows-place.result) f) (next w.index-rows-order.result w.index-rows-order.is)
          (sym w.is_above.ensures ∙ w.if-is_above.true)) in
          let places : ArePlaces (length rows) w.swap.new.self =
          places_swapped (length rows) order w.swap.new.self (i - 1) (omega arith) (rw neighbours after) kept.0 in
          subst P (sym w.order-is) (
            places,
            settled_swapped (fronts_of rows) order w.swap.new.self (length rows) place i kept.0 places (omega arith) (omega arith) w.if-order-index.true over after kept.1,
          )
      | else-order-index w ↦
          elim w.else-order-index.branch [
            | else-order-index-via-then-order-index+else-is_above w' ↦
                let fits : IsAtMost (front_at (fronts_of rows) place) (front_in (fronts_of rows) order i) =
                subst (λ (f : List ℕ). IsAtMost f (front_in (fronts_of rows) order i)) (here w'.index-rows-place.result w'.index-rows-place.is)
                (subst (λ (f : List ℕ). IsAtMost (front_of w'.index-rows-place.result) f) (next w'.index-rows-order.result w'.index-rows-order.is)
                (sym w'.is_above.ensures ∙ w'.if-is_above.false)) in
                subst P (sym w.order-is)
                (kept.0, settled_here (fronts_of rows) order (length rows) place i kept.0 (omega arith) (omega arith) w'.if-order-index.true fits kept.1)
            | else-order-index-via-else-order-index w' ↦
                subst P (sym w.order-is)
                (kept.0, settled_past (fronts_of rows) order place i (omega arith) (omega arith) w'.if-order-index.false kept.1)
          ]
    ]
