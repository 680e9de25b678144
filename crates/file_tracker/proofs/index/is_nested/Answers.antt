use Rattle.std.proofs.Common.{◌≡◌, ℕ, ◌+◌, ◌-◌, ◌<◌, List, true, false, length, slice_index, nat_lt, sym, ap, subst, ◌∙◌, inl, inr, arith}
use Rattle.std.proofs.lemmas.Bool.{cases_lt, lt-ltb}
use Rattle.std.proofs.lemmas.List.{length-map}
use Rattle.file_tracker.specs.Fronts.{begins, front_of, fronts_of}
use Rattle.file_tracker.specs.Order.{front_in}
use Rattle.file_tracker.proofs.FrontLemmas.{front_read}
use Rattle.file_tracker.proofs.FreeLemmas.{tested, begins_neighbour, free_by_neighbours}
use Rattle.file_tracker.proofs.index.is_nested.Goals as goal

pub returns-then-begins_next : goal.returns-then-begins_next
returns-then-begins_next c =
    let i = c.loop-index.index in
    let before : slice_index c.args.order.now (i - 1) < length c.args.rows.now = c.requires.places.in_range (i - 1) (omega arith) in
    let front : c.as_slice-front.result.now ≡ front_in (fronts_of c.args.rows.now) c.args.order.now (i - 1) =
    c.as_slice-front.ensures ∙ ap front_of (sym c.index-rows-order.is) ∙ front_read c.args.rows.now (slice_index c.args.order.now (i - 1)) c.index-rows-order.result before c.index-rows-order.is in
    let next : i - 1 + 1 ≡ i = omega arith in
    let is : begins c.as_slice-front.result.now (front_in (fronts_of c.args.rows.now) c.args.order.now i) ≡ true =
    tested (nat_lt i (length c.args.order.now)) _ c.begins_next.result (lt-ltb i (length c.args.order.now) (omega arith)) c.begins_next.ensures ∙ c.if-begins_next.true in
    begins_neighbour (fronts_of c.args.rows.now) c.args.order.now (rw length-map c.requires.places) (i - 1) (omega arith)
    (rw next (subst (λ (f : List ℕ). begins f (front_in (fronts_of c.args.rows.now) c.args.order.now i) ≡ true) front is))

pub loop-index-preserved : goal.loop-index-preserved
loop-index-preserved c k less inside = elim (cases_lt (k + 1) c.loop-index.index) [
  | inl before ↦ c.loop-index.invariant k before inside
  | inr most ↦
      let here : c.loop-index.index ≡ k + 1 = omega arith in
      let last : c.loop-index.index - 1 ≡ k = omega arith in
      let low : slice_index c.args.order.now (c.loop-index.index - 1) < length c.args.rows.now = c.requires.places.in_range (c.loop-index.index - 1) (omega arith) in
      let front : c.as_slice-front.result.now ≡ front_in (fronts_of c.args.rows.now) c.args.order.now k =
      c.as_slice-front.ensures ∙ ap front_of (sym c.index-rows-order.is)
      ∙ front_read c.args.rows.now (slice_index c.args.order.now (c.loop-index.index - 1)) c.index-rows-order.result low c.index-rows-order.is
      ∙ ap (front_in (fronts_of c.args.rows.now) c.args.order.now) last in
      let is : begins c.as_slice-front.result.now (front_in (fronts_of c.args.rows.now) c.args.order.now c.loop-index.index) ≡ false =
      tested (nat_lt c.loop-index.index (length c.args.order.now)) _ c.begins_next.result (lt-ltb c.loop-index.index (length c.args.order.now) (omega arith)) c.begins_next.ensures
      ∙ c.if-begins_next.false in
      subst (λ (f : List ℕ). begins f (front_in (fronts_of c.args.rows.now) c.args.order.now (k + 1)) ≡ false) front
      (subst (λ (i : ℕ). begins c.as_slice-front.result.now (front_in (fronts_of c.args.rows.now) c.args.order.now i) ≡ false) here is)
]

pub returns : goal.returns
returns c = free_by_neighbours (fronts_of c.args.rows.now) c.args.order.now (rw length-map c.requires.places) c.requires.ascends (λ k h. c.loop-index.invariant k (omega arith) h)
