use Rattle.std.proofs.Common.{◌≡◌, ◌<◌, ℕ, Bool, true, List, length, set, get_or, Some, sym, ap, subst, ◌∙◌, slice_get}
use Rattle.file_tracker.specs.declared.row.Row.{Row}
use Rattle.file_tracker.specs.Fronts.{begins, fronts_of, front_at}
use Rattle.file_tracker.specs.Places.{with_front}
use Rattle.file_tracker.specs.Order.{IsKept, ArePlaces, Ascends}
use Rattle.file_tracker.proofs.RowLemmas.{kept_grown, kept_settled, others_grown, grown_begins, row_read}
use Rattle.file_tracker.proofs.tracker.Tracker.grow_front.Goals as goal

pub settle-requires-clause-others : goal.settle-requires-clause-others
settle-requires-clause-others c =
    let rows : List Row = c.self.inside.rows.items in
    let order : List ℕ = c.self.inside.order.items in
    let was : Row = c.index_mut-row.result.now in
    let inside : c.args.place < length rows = rw c.self.view_is c.requires.in_range in
    let grows : begins (front_at (fronts_of rows) c.args.place) c.in_ok-grown.grown ≡ true =
    rw c.in_ok-grown.ensures (grown_begins rows c.args.place was c.args.front.now inside c.index_mut-row.ensures.value (λ row there. c.requires.grows row (rw (← c.self.view_is) there))) in
    rw (c.deref.ensures.value, c.deref_mut.ensures.value)
    (others_grown rows order c.self.inside.nested c.args.place (with_front c.in_ok-grown.grown was) inside grows c.self.invariant)

pub invariant_of-self : goal.invariant_of-self
invariant_of-self c =
    let rows : List Row = c.self.inside.rows.items in
    let order : List ℕ = c.self.inside.order.items in
    let now : Row = with_front c.in_ok-grown.grown c.index_mut-row.result.now in
    let all : List Row = set rows c.args.place now in
    let size : c.self.inside.order.len ≡ length order = sym c.deref_mut.ensures.len ∙ ap (λ (xs : List ℕ). length xs) c.deref_mut.ensures.value in
    let places : ArePlaces (length all) c.settle.new.order = rw c.deref.ensures.value at c.settle.ensures.places in
    let ascends : Ascends (fronts_of all) c.settle.new.order = rw c.deref.ensures.value at c.settle.ensures.ascends in
    kept_settled rows order c.settle.new.order c.self.inside.nested c.is_nested-self-inside.result c.args.place c.self.inside.order.len now c.self.invariant size places ascends
    (rw c.deref-then-self.ensures.value at c.is_nested-self-inside.ensures)

pub invariant_of-self-else-self : goal.invariant_of-self-else-self
invariant_of-self-else-self c =
    let rows : List Row = c.self.inside.rows.items in
    let order : List ℕ = c.self.inside.order.items in
    let was : Row = c.index_mut-row.result.now in
    let inside : c.args.place < length rows = rw c.self.view_is c.requires.in_range in
    let grows : begins (front_at (fronts_of rows) c.args.place) c.in_ok-grown.grown ≡ true =
    rw c.in_ok-grown.ensures (grown_begins rows c.args.place was c.args.front.now inside c.index_mut-row.ensures.value (λ row there. c.requires.grows row (rw (← c.self.view_is) there))) in
    subst (λ (nested : Bool). IsKept (set rows c.args.place (with_front c.in_ok-grown.grown was)) order nested) (sym c.if-self.false)
    (kept_grown rows order c.args.place (with_front c.in_ok-grown.grown was) inside grows (subst (λ (nested : Bool). IsKept rows order nested) c.if-self.false c.self.invariant))

changed : (rows view : List Row) (place : ℕ) (was row : Row) (front grown : List ℕ) → rows ≡ view → grown ≡ front → place < length rows → was ≡ get_or rows place was
    → slice_get view place ≡ Some row → set rows place (with_front grown was) ≡ set view place (with_front front row)
changed rows view place was row front grown seen same inside read there =
    ap (λ (all : List Row). set all place (with_front grown was)) seen
    ∙ ap (λ (r : Row). set view place (with_front grown r)) (row_read rows place row was inside read (rw seen there))
    ∙ ap (λ (f : List ℕ). set view place (with_front f row)) same

pub returns-then-self-clause-ok : goal.returns-then-self-clause-ok
returns-then-self-clause-ok c row there =
    changed c.self.inside.rows.items c.args.self.now c.args.place c.index_mut-row.result.now row c.args.front.now c.in_ok-grown.grown c.self.view_is c.in_ok-grown.ensures
    (rw c.self.view_is c.requires.in_range) c.index_mut-row.ensures.value there

pub returns-else-self-clause-ok : goal.returns-else-self-clause-ok
returns-else-self-clause-ok c row there =
    changed c.self.inside.rows.items c.args.self.now c.args.place c.index_mut-row.result.now row c.args.front.now c.in_ok-grown.grown c.self.view_is c.in_ok-grown.ensures
    (rw c.self.view_is c.requires.in_range) c.index_mut-row.ensures.value there
