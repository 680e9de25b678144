-- What a look's outcome tells.
use Rattle.std.proofs.Common.{◌≡◌, ◌⊎◌, ℕ, ◌<◌, ◌==◌, List, length, get_or, Bool, true, false, cond, refl, sym, ap, subst, ◌∙◌, inl, inr, arith}
use Rattle.std.specs.Prelude.{Option, None, Some, slice_get, nat_lt}
use Rattle.std.proofs.lemmas.Bool.{cases_lt, ltb-true}
use Rattle.std.proofs.lemmas.List.Sums.{passes_at_first, fails_before_first}
use Rattle.std.proofs.lemmas.Option.{slice_get-get_or, slice_get_within, get_or_from_slice_get}
use Rattle.standing.specs.Limits.{row_limit, is_compressed}
use Rattle.standing.specs.Look.{Look, Outcome, skips, finds_nothing, finds_compressed, finds_no_room, finds_new, finds_row, front, size, outcome, outcome_at, place_of}
use Rattle.standing.specs.Prefixes.{IsPrefix, begins}
use Rattle.standing.specs.Rows.{Row, IsRowAt}
use Rattle.standing.specs.Rules.{Rules}
use Rattle.standing.proofs.PrefixLemmas.{begins-true, begins-false}

abbrev Test : List ℕ → Row → Bool
Test bytes row = begins row.front bytes

-- the row's front begins what was seen
pub record FindsRow (rules : Rules) (rows : List Row) (here : Look) (place : ℕ) (row : Row) : Type 0 where
  pub filled : 0 < size here
  pub at : IsRowAt rows place row
  pub prefix : IsPrefix row.front (front rules here)

pub record FindsNew (rules : Rules) (rows : List Row) (here : Look) : Type 0 where
  pub filled : 0 < size here
  pub room : length rows < row_limit
  pub none : (k : ℕ) (row : Row) → IsRowAt rows k row → IsPrefix row.front (front rules here) → ⊥

-- what the outcome is of, when it isn't that a file is passed over
filled_by : (n : ℕ) → (n == 0) ≡ false → 0 < n
filled_by n differs = elim (cases_lt 0 n) [
  | inl some ↦ some
  | inr none ↦
      let zero_is : n ≡ 0 = omega (arith, none) in
      let never : true ≡ false = sym (ap (λ k. k == 0) zero_is) ∙ differs in
      absurd (cc)
]

-- the file is passed over
abbrev Passed : Look → Outcome → Type 0
Passed here found = ((found ≡ skips) × (here.skipped ≡ true)) ⊎ (((found ≡ finds_nothing) × ((size here == 0) ≡ true)) ⊎ (found ≡ finds_compressed))

cond_tells : {A : Type 0} (b : Bool) (x y : A) → ((b ≡ true) × (cond b x y ≡ x)) ⊎ ((b ≡ false) × (cond b x y ≡ y))
cond_tells true x y = inl (refl, refl)
cond_tells false x y = inr (refl, refl)

record Searched (rules : Rules) (rows : List Row) (here : Look) : Type 0 where
  filled : 0 < size here
  is : outcome rules rows here ≡ outcome_at rows (place_of (front rules here) rows) (slice_get rows (place_of (front rules here) rows))

outcome_tells : (rules : Rules) (rows : List Row) (here : Look) → Passed here (outcome rules rows here) ⊎ Searched rules rows here
unfolding outcome
outcome_tells rules rows here =
    let last : Outcome = outcome_at rows (place_of (front rules here) rows) (slice_get rows (place_of (front rules here) rows)) in
    let third : Outcome = cond (is_compressed (front rules here)) finds_compressed last in
    let second : Outcome = cond (size here == 0) finds_nothing third in
    elim (cond_tells here.skipped skips second) [
      | inl a ↦ inl (inl (a.1, a.0))
      | inr a ↦ elim (cond_tells (size here == 0) finds_nothing third) [
        | inl b ↦ inl (inr (inl (a.1 ∙ b.1, b.0)))
        | inr b ↦ elim (cond_tells (is_compressed (front rules here)) finds_compressed last) [
          | inl d ↦ inl (inr (inr (a.1 ∙ (b.1 ∙ d.1))))
          | inr d ↦ inr (record { filled = filled_by (size here) b.0; is = a.1 ∙ (b.1 ∙ d.1) })
        ]
      ]
    ]

passed_no_row : (here : Look) (found : Outcome) (place : ℕ) (row : Row) → Passed here found → found ≡ finds_row place row → ⊥
passed_no_row here found place row (inl a) is = let both : skips ≡ finds_row place row = sym a.0 ∙ is in cc
passed_no_row here found place row (inr (inl a)) is = let both : finds_nothing ≡ finds_row place row = sym a.0 ∙ is in cc
passed_no_row here found place row (inr (inr a)) is = let both : finds_compressed ≡ finds_row place row = sym a ∙ is in cc

passed_no_new : (here : Look) (found : Outcome) → Passed here found → found ≡ finds_new → ⊥
passed_no_new here found (inl a) is = let both : skips ≡ finds_new = sym a.0 ∙ is in cc
passed_no_new here found (inr (inl a)) is = let both : finds_nothing ≡ finds_new = sym a.0 ∙ is in cc
passed_no_new here found (inr (inr a)) is = let both : finds_compressed ≡ finds_new = sym a ∙ is in cc

-- an outcome of the search
abbrev IsOfSearch : Outcome → Type 0
IsOfSearch found = (found ≡ skips → ⊥) × (found ≡ finds_nothing → ⊥)

at_is_of_search : (rows : List Row) (at : ℕ) (option : Option Row) → IsOfSearch (outcome_at rows at option)
at_is_of_search rows at (Some found) = ((λ is. cc), (λ is. cc))
at_is_of_search rows at None =
    elim (nat_lt (length rows) row_limit) as (λ t. IsOfSearch (cond t finds_new finds_no_room)) [ true ↦ ((λ is. cc), (λ is. cc)) | false ↦ ((λ is. cc), (λ is. cc)) ]

pub skips-tells : (rules : Rules) (rows : List Row) (here : Look) → outcome rules rows here ≡ skips → here.skipped ≡ true
skips-tells rules rows here is =
    elim (outcome_tells rules rows here) [
      | inl passed ↦ elim passed [
        | inl a ↦ a.1
        | inr b ↦ elim b [
          | inl a ↦ (let both : finds_nothing ≡ skips = sym a.0 ∙ is in absurd (cc))
          | inr a ↦ (let both : finds_compressed ≡ skips = sym a ∙ is in absurd (cc))
        ]
      ]
      | inr searched ↦ absurd ((at_is_of_search rows (place_of (front rules here) rows) (slice_get rows (place_of (front rules here) rows))).0 (sym searched.is ∙ is))
    ]

pub finds_nothing-tells : (rules : Rules) (rows : List Row) (here : Look) → outcome rules rows here ≡ finds_nothing → (size here == 0) ≡ true
finds_nothing-tells rules rows here is =
    elim (outcome_tells rules rows here) [
      | inl passed ↦ elim passed [
        | inl a ↦ (let both : skips ≡ finds_nothing = sym a.0 ∙ is in absurd (cc))
        | inr b ↦ elim b [
          | inl a ↦ a.1
          | inr a ↦ (let both : finds_compressed ≡ finds_nothing = sym a ∙ is in absurd (cc))
        ]
      ]
      | inr searched ↦ absurd ((at_is_of_search rows (place_of (front rules here) rows) (slice_get rows (place_of (front rules here) rows))).1 (sym searched.is ∙ is))
    ]

at_is_row : (rows : List Row) (at place : ℕ) (option : Option Row) (row : Row) → outcome_at rows at option ≡ finds_row place row → (option ≡ Some row) × (at ≡ place)
at_is_row rows at place (Some found) row is =
    let same : finds_row at found ≡ finds_row place row = is in
    ((cc), (cc))
at_is_row rows at place None row is =
    elim (cond_tells (nat_lt (length rows) row_limit) finds_new finds_no_room) [
      | inl a ↦ (let never : finds_new ≡ finds_row place row = sym a.1 ∙ is in absurd (cc))
      | inr a ↦ (let never : finds_no_room ≡ finds_row place row = sym a.1 ∙ is in absurd (cc))
    ]

at_is_new : (rows : List Row) (at : ℕ) (option : Option Row) → outcome_at rows at option ≡ finds_new → (option ≡ None) × (length rows < row_limit)
at_is_new rows at (Some found) is = let never : finds_row at found ≡ finds_new = is in absurd (cc)
at_is_new rows at None is =
    elim (cond_tells (nat_lt (length rows) row_limit) finds_new finds_no_room) [
      | inl a ↦ (refl, ltb-true (length rows) row_limit a.0)
      | inr a ↦ (let never : finds_no_room ≡ finds_new = sym a.1 ∙ is in absurd (cc))
    ]

pub finds_row-tells : (rules : Rules) (rows : List Row) (here : Look) (place : ℕ) (row : Row) → outcome rules rows here ≡ finds_row place row → FindsRow rules rows here place row
finds_row-tells rules rows here place row is =
    elim (outcome_tells rules rows here) [
      | inl passed ↦ absurd (passed_no_row here (outcome rules rows here) place row passed is)
      | inr searched ↦
          let first : ℕ = place_of (front rules here) rows in
          let told = at_is_row rows first place (slice_get rows first) row (sym searched.is ∙ is) in
          let inside : first < length rows = slice_get_within rows first row told.0 in
          let passes : begins (get_or rows first row).front (front rules here) ≡ true = passes_at_first (Test (front rules here)) rows row inside in
          let the_row : get_or rows first row ≡ row = get_or_from_slice_get rows first row row told.0 in
          record {
            filled = searched.filled;
            at = subst (λ k. slice_get rows k ≡ Some row) told.1 told.0;
            prefix = begins-true row.front (front rules here) (ap (λ (r : Row). begins r.front (front rules here)) (sym the_row) ∙ passes);
          }
    ]

pub finds_new-tells : (rules : Rules) (rows : List Row) (here : Look) → outcome rules rows here ≡ finds_new → FindsNew rules rows here
finds_new-tells rules rows here is =
    elim (outcome_tells rules rows here) [
      | inl passed ↦ absurd (passed_no_new here (outcome rules rows here) passed is)
      | inr searched ↦
          let first : ℕ = place_of (front rules here) rows in
          let told = at_is_new rows first (slice_get rows first) (sym searched.is ∙ is) in
          record {
            filled = searched.filled;
            room = told.1;
            none = λ k row at prefix.
                elim (cases_lt first (length rows)) [
                  | inl inside ↦ (let never : None ≡ Some (get_or rows first row) = sym told.0 ∙ slice_get-get_or rows first row inside in absurd (cc))
                  | inr past ↦
                      let before : k < first = omega (arith, past, slice_get_within rows k row at) in
                      let fails : begins (get_or rows k row).front (front rules here) ≡ false = fails_before_first (Test (front rules here)) rows k row before in
                      let the_row : get_or rows k row ≡ row = get_or_from_slice_get rows k row row at in
                      absurd (begins-false row.front (front rules here) (ap (λ (r : Row). begins r.front (front rules here)) (sym the_row) ∙ fails) prefix)
                ];
          }
    ]
