-- Rows whose ids ascend have as many new ids as there are exactly where all of them are there.
use Rattle.std.proofs.Common.{◌≡◌, ℕ, suc, ◌+◌, ◌-◌, ◌<◌, ◌≤◌, leb, List, [], ◌∷◌, length, refl, sym, ap, subst, arith, inl, inr}
use Rattle.std.specs.List.{filter}
use Rattle.std.proofs.lemmas.Bool.{cases_lt, cases_eq, le-leb, lt-leb}
use Rattle.std.proofs.lemmas.List.Sums.{length-filter, count_by-le-length}
use Rattle.file_tracker.specs.declared.row.Row.{Row}
use Rattle.checkpoint_store.specs.declared.beside.Beside.{Beside}
use Rattle.checkpoint_store.specs.Rules.{KeepRules}
use Rattle.checkpoint_store.specs.Fits.{Ascend, HasId}

abbrev pub since : ℕ → List Row → List Row
since old rows = filter (λ (row : Row). leb old row.id) rows

since_yes : (old : ℕ) (row : Row) (rows : List Row) → old ≤ row.id → since old (row ∷ rows) ≡ row ∷ since old rows
since_yes old row rows above = rw (le-leb old row.id above) refl

since_no : (old : ℕ) (row : Row) (rows : List Row) → row.id < old → since old (row ∷ rows) ≡ since old rows
since_no old row rows below = rw (lt-leb old row.id below) refl

pub since_most : (old : ℕ) (rows : List Row) → length (since old rows) ≤ length rows
since_most old rows = omega (arith, length-filter (λ (row : Row). leb old row.id) rows, count_by-le-length (λ (row : Row). leb old row.id) rows)

-- from a higher id on, where the first row's is no lower
raised : (beside : Beside) (low high old : ℕ) (row : Row) (rows : List Row) → old ≤ row.id → Ascend beside low high (row ∷ rows) → Ascend beside old high (row ∷ rows)
raised beside low high old row rows above a = ((above, a.0.1), a.1)

since_all : (beside : Beside) (low high old : ℕ) (rows : List Row) → Ascend beside low high rows → old ≤ low → length (since old rows) ≡ length rows
since_all beside low high old [] a below = refl
since_all beside low high old (row ∷ rows) a below =
    rw (since_yes old row rows (omega (arith, below, a.0.0))) (ap suc (since_all beside (row.id + 1) high old rows a.1.1 (omega (arith, below, a.0.0))))

-- ---- how many there are

pub most : (beside : Beside) (low high : ℕ) (rows : List Row) → Ascend beside low high rows → length rows ≤ high + 1 - low
most beside low high [] a = omega arith
most beside low high (row ∷ rows) a = omega (arith, most beside (row.id + 1) high rows a.1.1, a.0.0, a.0.1)

pub most_new : (beside : Beside) (low high old : ℕ) (rows : List Row) → Ascend beside low high rows → length (since old rows) ≤ high + 1 - old
most_new beside low high old [] a = omega arith
most_new beside low high old (row ∷ rows) a = elim (cases_lt row.id old) [
  | inl below ↦ rw (since_no old row rows below) (most_new beside (row.id + 1) high old rows a.1.1)
  | inr above ↦ omega (arith, since_most old (row ∷ rows), most beside old high (row ∷ rows) (raised beside low high old row rows above a))
]

pub has_low : (beside : Beside) (low high id : ℕ) (rows : List Row) → Ascend beside low high rows → HasId rows id → low ≤ id
has_low beside low high id [] a h = absurd h
has_low beside low high id (row ∷ rows) a (inl e) = omega (arith, a.0.0, e)
has_low beside low high id (row ∷ rows) a (inr h) = omega (arith, a.0.0, has_low beside (row.id + 1) high id rows a.1.1 h)

-- ---- enough of them are all

dense : (beside : Beside) (low high : ℕ) (rows : List Row) → Ascend beside low high rows → high + 1 ≤ length rows + low → (id : ℕ) → low ≤ id → id ≤ high → HasId rows id
dense beside low high [] a enough id above below = omega (arith, enough, above, below)
dense beside low high (row ∷ rows) a enough id above below =
    let first : row.id ≡ low = omega (arith, enough, a.0.0, a.0.1, most beside (row.id + 1) high rows a.1.1) in
    elim (cases_eq row.id id) [
      | inl is ↦ inl is
      | inr other ↦ inr (dense beside (row.id + 1) high rows a.1.1 (omega (arith, enough, first)) id (omega (arith, first, above, other)) below)
    ]

pub new_there : (beside : Beside) (low high old : ℕ) (rows : List Row) → Ascend beside low high rows → high + 1 ≤ length (since old rows) + old → (id : ℕ) → old ≤ id → id ≤ high → HasId rows id
new_there beside low high old [] a enough id above below = omega (arith, enough, above, below)
new_there beside low high old (row ∷ rows) a enough id above below = elim (cases_lt row.id old) [
  | inl less ↦ inr (new_there beside (row.id + 1) high old rows a.1.1 (rw (since_no old row rows less) at enough) id above below)
  | inr from ↦ dense beside old high (row ∷ rows) (raised beside low high old row rows from a) (omega (arith, enough, since_most old (row ∷ rows))) id above below
]

-- ---- all of them are enough

dense_all : (beside : Beside) (low high : ℕ) (rows : List Row) → Ascend beside low high rows → ((id : ℕ) → low ≤ id → id ≤ high → HasId rows id) → high + 1 ≤ length rows + low
dense_all beside low high [] a has = elim (cases_lt high low) [ inl none ↦ omega (arith, none) | inr some ↦ absurd (has low (omega arith) some) ]
dense_all beside low high (row ∷ rows) a has = elim (has low (omega arith) (omega (arith, a.0.0, a.0.1))) [
  | inl first ↦ omega (
    arith,
    first,
    dense_all beside (row.id + 1) high rows a.1.1 (λ id above below. elim (has id (omega (arith, above, a.0.0)) below) [
      | inl is ↦ absurd (omega (arith, is, above))
      | inr h ↦ h
    ]),
  )
  | inr later ↦ absurd (omega (arith, a.0.0, has_low beside (row.id + 1) high low rows a.1.1 later))
]

pub new_enough : (beside : Beside) (low high old : ℕ) (rows : List Row) → Ascend beside low high rows → ((id : ℕ) → old ≤ id → id ≤ high → HasId rows id) → high + 1 ≤ length (since old rows) + old
new_enough beside low high old [] a has = elim (cases_lt high old) [ inl none ↦ omega (arith, none) | inr some ↦ absurd (has old (omega arith) some) ]
new_enough beside low high old (row ∷ rows) a has = elim (cases_lt row.id old) [
  | inl less ↦ rw (since_no old row rows less) (new_enough beside (row.id + 1) high old rows a.1.1 (λ id above below. elim (has id above below) [
    | inl is ↦ absurd (omega (arith, is, above, less))
    | inr h ↦ h
  ]))
  | inr from ↦ let b = raised beside low high old row rows from a in
      omega (arith, dense_all beside old high (row ∷ rows) b has, since_all beside old high old (row ∷ rows) b (omega arith))
]

-- ---- as many rows as ids have the ids in turn

pub ascend_in_turn : (beside : Beside) (low high : ℕ) (rows : List Row) → Ascend beside low high rows → high + 1 ≡ length rows + low → KeepRules beside low rows
ascend_in_turn beside low high [] a full = tt
ascend_in_turn beside low high (row ∷ rows) a full =
    let first : row.id ≡ low = omega (arith, full, a.0.0, a.0.1, most beside (row.id + 1) high rows a.1.1) in
    (first, (a.1.0, ascend_in_turn beside (low + 1) high rows (subst (λ (k : ℕ). Ascend beside (k + 1) high rows) first a.1.1) (omega (arith, full))))

pub in_turn_ascend : (beside : Beside) (low high : ℕ) (rows : List Row) → KeepRules beside low rows → length rows + low ≤ high + 1 → Ascend beside low high rows
in_turn_ascend beside low high [] keep few = tt
in_turn_ascend beside low high (row ∷ rows) keep few = (
  (omega (arith, keep.0), omega (arith, keep.0, few)),
  (keep.1.0, subst (λ (k : ℕ). Ascend beside (k + 1) high rows) (sym keep.0) (in_turn_ascend beside (low + 1) high rows keep.1.1 (omega (arith, few)))),
)
