use Rattle.std.proofs.Common.{◌≡◌, ℕ, Bool, true, false, List, ◌∷◌, [], ◌++◌, length, sym, ap, inl, inr, ◌⊎◌, ◌∙◌, arith, if◌then◌else◌, nat_lt, is_ok, not}
use Rattle.std.specs.List.{insert}
use Rattle.file_tracker.specs.declared.row.Row.{Row}
use Rattle.file_tracker.specs.Fronts.{begins, front_of, fronts_of}
use Rattle.file_tracker.specs.Order.{front_in, StandsBetween}
use Rattle.file_tracker.proofs.RowLemmas.{kept_more}
use Rattle.file_tracker.proofs.tracker.Tracker.admit.Goals as goal
use Rattle.file_tracker.proofs.tracker.Tracker.admit.Goals.{then-standing, else-standing, then-self, else-self}

-- what stands where the call was no error
if_taken : {A : Type 0} (xs ys zs : A) (ok err : Bool) → zs ≡ (if ok then xs else ys) → ok ≡ not err → err ≡ false → zs ≡ xs
if_taken xs ys zs ok err is other none = rw (other, none) at is

-- what `||` answers
any_of : (a b last middle all : Bool) → ((a ≡ true) × (middle ≡ true)) ⊎ ((a ≡ false) × (middle ≡ b)) → ((middle ≡ true) × (all ≡ middle)) ⊎ ((middle ≡ false) × (all ≡ last))
    → all ≡ (if a then true else if b then true else last)
any_of a b last middle all first second = elim first [
  | inl taken ↦ elim second [ inl e ↦ rw taken.0 (e.1 ∙ taken.1) | inr e ↦ absurd (cc (taken.1, e.0)) ]
  | inr left ↦ elim second [ inl e ↦ rw (left.0, sym left.1 ∙ e.0) (e.1 ∙ e.0) | inr e ↦ rw (left.0, sym left.1 ∙ e.0) e.1 ]
]

pub invariant_of-self-2 : goal.invariant_of-self-2
invariant_of-self-2 c =
    let rows : List Row = c.self.inside.rows.items in
    let order : List ℕ = c.self.inside.order.items in
    let k : ℕ = c.locate-standing.result.index in
    let begun : Bool = c.locate-standing.result.begun in
    let ahead : Bool = c.begins_next-begins.result in
    let pushed : c.push.new.self.items ≡ rows ++ c.args.row ∷ [] =
    if_taken (rows ++ c.args.row ∷ []) rows c.push.new.self.items (is_ok c.push.result) c.is_err.result c.push.ensures.items c.is_err.ensures.negation c.if-is_err.false in
    let place : c.len-place.result ≡ length rows = c.len-place.ensures ∙ sym c.deref.ensures.len ∙ ap (λ (all : List Row). length all) c.deref.ensures.value in
    let put : c.insert.new.self.items ≡ insert order k (length rows) =
    if_taken (insert order k c.len-place.result) order c.insert.new.self.items (is_ok c.insert.result) c.is_err-2.result c.insert.ensures.items c.is_err-2.ensures.negation c.if-is_err-2.false
    ∙ ap (insert order k) place in
    let stands : StandsBetween (fronts_of rows) order (front_of c.args.row) k k begun = rw (c.deref.ensures.value, c.deref-2.ensures.value, c.as_slice-front.ensures) at c.locate-standing.ensures in
    let next : ahead ≡ (if nat_lt k (length order) then begins (front_of c.args.row) (front_in (fronts_of rows) order k) else false) =
    rw (c.deref-3.ensures.value, c.deref-4.ensures.value, c.as_slice-front.ensures) at c.begins_next-begins.ensures in
    let now : c.if-standing.self ≡ (if c.self.inside.nested then true else if begun then true else ahead) =
    any_of c.self.inside.nested begun ahead c.if-self.value c.if-standing.self
    (elim c.if-self.branch [ then-self w ↦ inl (w.if-self.true, w.value-is ∙ w.if-self.true) | else-self w ↦ inr (w.if-self.false, w.value-is) ])
    (elim c.if-standing.branch [ then-standing w ↦ inl (w.if-standing.true, w.self-is) | else-standing w ↦ inr (w.if-standing.false, w.self-is) ]) in
    rw (pushed, put) (kept_more rows order c.self.inside.nested begun ahead c.if-standing.self k c.args.row (omega arith) c.self.invariant stands next now)
