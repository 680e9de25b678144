-- Which outcome a look has.
use Rattle.std.proofs.Common.{◌≡◌, ℕ, ◌<◌, ◌≤◌, ◌==◌, List, length, Bool, true, false, cond, refl, sym, ap, ◌∙◌, inl, inr, arith, eq-eqb}
use Rattle.std.specs.Prelude.{Option, None, Some, slice_get, nat_lt}
use Rattle.std.specs.List.{position}
use Rattle.std.proofs.lemmas.Bool.{cases_lt, cond-true, cond-false, ne_eqb, lt-ltb, le-ltb}
use Rattle.std.proofs.lemmas.List.Sums.{position_or_len_is}
use Rattle.std.proofs.lemmas.List.Quantifiers.{position-Some}
use Rattle.std.proofs.lemmas.Option.{slice_get_past}
use Rattle.standing.specs.Limits.{row_limit, is_compressed}
use Rattle.standing.specs.Look.{Look, Outcome, skips, finds_nothing, finds_compressed, finds_no_room, finds_new, finds_row, front, size, outcome, outcome_at, place_of}
use Rattle.standing.specs.Prefixes.{begins}
use Rattle.standing.specs.Rows.{Row, IsRowAt}
use Rattle.standing.specs.Rules.{Rules}

abbrev Test : Rules → Look → Row → Bool
Test rules here row = begins row.front (front rules here)

module _ (rules : Rules) (rows : List Row) (here : Look) where
  abbrev found_last : Outcome
  found_last = outcome_at rows (place_of (front rules here) rows) (slice_get rows (place_of (front rules here) rows))

  abbrev found_third : Outcome
  found_third = cond (is_compressed (front rules here)) finds_compressed found_last

  abbrev found_second : Outcome
  found_second = cond (size here == 0) finds_nothing found_third

  pub is_skipped : here.skipped ≡ true → outcome rules rows here ≡ skips
  unfolding outcome
  is_skipped is = cond-true here.skipped skips found_second is

  not_skipped : here.skipped ≡ false → outcome rules rows here ≡ found_second
  unfolding outcome
  not_skipped is = cond-false here.skipped skips found_second is

  pub is_nothing : here.skipped ≡ false → size here ≡ 0 → outcome rules rows here ≡ finds_nothing
  is_nothing read none = not_skipped read ∙ cond-true (size here == 0) finds_nothing found_third (eq-eqb (size here) 0 none)

  not_nothing : here.skipped ≡ false → 0 < size here → outcome rules rows here ≡ found_third
  not_nothing read filled = not_skipped read ∙ cond-false (size here == 0) finds_nothing found_third (ne_eqb (size here) 0 (λ e. omega (arith, e, filled)))

  pub is_compressed_file : here.skipped ≡ false → 0 < size here → is_compressed (front rules here) ≡ true → outcome rules rows here ≡ finds_compressed
  is_compressed_file read filled is = not_nothing read filled ∙ cond-true (is_compressed (front rules here)) finds_compressed found_last is

  searched : here.skipped ≡ false → 0 < size here → is_compressed (front rules here) ≡ false → outcome rules rows here ≡ found_last
  searched read filled is = not_nothing read filled ∙ cond-false (is_compressed (front rules here)) finds_compressed found_last is

  at_place : (place : ℕ) (option : Option Row) → place_of (front rules here) rows ≡ place → slice_get rows place ≡ option → found_last ≡ outcome_at rows place option
  at_place place option is there =
      ap (λ k. outcome_at rows k (slice_get rows k)) is ∙ ap (λ o. outcome_at rows place o) there

  pub is_row : (place : ℕ) (row : Row) → here.skipped ≡ false → 0 < size here → is_compressed (front rules here) ≡ false
      → position (λ (r : Row). begins r.front (front rules here)) rows ≡ Some place → IsRowAt rows place row → outcome rules rows here ≡ finds_row place row
  is_row place row read filled plain at there =
      let told = position-Some (Test rules here) rows place row at in
      let first : place_of (front rules here) rows ≡ place = position_or_len_is (Test rules here) rows place row (omega (arith, told.0)) told.2 (λ inside. told.1) in
      searched read filled plain ∙ at_place place (Some row) first there

  no_place : position (λ (r : Row). begins r.front (front rules here)) rows ≡ None → slice_get rows (place_of (front rules here) rows) ≡ None
  no_place none =
      elim (cases_lt (place_of (front rules here) rows) (length rows)) [
        | inl inside ↦
            let some : position (Test rules here) rows ≡ Some (place_of (front rules here) rows) = cond-true (nat_lt (place_of (front rules here) rows) (length rows)) (Some (place_of (front rules here) rows)) None (lt-ltb (place_of (front rules here) rows) (length rows) inside) in
            let never : None ≡ Some (place_of (front rules here) rows) = sym none ∙ some in
            absurd (cc)
        | inr past ↦ slice_get_past rows (place_of (front rules here) rows) past
      ]

  pub is_new : here.skipped ≡ false → 0 < size here → is_compressed (front rules here) ≡ false
      → position (λ (r : Row). begins r.front (front rules here)) rows ≡ None → length rows < row_limit → outcome rules rows here ≡ finds_new
  is_new read filled plain none room =
      searched read filled plain ∙ at_place (place_of (front rules here) rows) None refl (no_place none)
      ∙ cond-true (nat_lt (length rows) row_limit) finds_new finds_no_room (lt-ltb (length rows) row_limit room)

  pub is_no_room : here.skipped ≡ false → 0 < size here → is_compressed (front rules here) ≡ false
      → position (λ (r : Row). begins r.front (front rules here)) rows ≡ None → row_limit ≤ length rows → outcome rules rows here ≡ finds_no_room
  is_no_room read filled plain none full =
      searched read filled plain ∙ at_place (place_of (front rules here) rows) None refl (no_place none)
      ∙ cond-false (nat_lt (length rows) row_limit) finds_new finds_no_room (le-ltb (length rows) row_limit full)
