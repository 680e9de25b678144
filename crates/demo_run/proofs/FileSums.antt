-- Each round writes to one of the files, so they have as many lines together as there are rounds.
use Rattle.std.proofs.Common.{◌≡◌, ◌≢◌, ℕ, zero, suc, ◌+◌, ◌≤◌, ◌==◌, List, [], ◌∷◌, length, Option, None, Some, refl, sym, ap, subst, inl, inr, arith, eq-eqb}
use Rattle.std.specs.List.{AllZip}
use Rattle.std.specs.Prelude.{sum_by, ⊤}
use Rattle.std.proofs.lemmas.Bool.{ne_eqb}
use Rattle.std.proofs.lemmas.List.Sums.{sum_by-cons}
use Rattle.demo_run.proofs.Contents.{file_of_round}
use Rattle.demo_run.proofs.RoundsOf.{one_more, once, rounds_of}
use Rattle.lifetimes.proofs.CreatedLemmas.{Has}
use Rattle.standing.specs.Rows.{Row, IsRowAt}

-- no number comes twice
abbrev pub AreOnce : List ℕ → Type 0
AreOnce [] = ⊤
AreOnce (file ∷ files) = (Has files file → ⊥) × AreOnce files

-- ---- one of the files

abbrev is_of : ℕ → ℕ → ℕ
is_of file other = once (file == other)

none_is : (file : ℕ) (files : List ℕ) → (Has files file → ⊥) → sum_by (is_of file) files ≡ 0
none_is file [] none = refl
none_is file (other ∷ files) none =
    let here : is_of file other ≡ 0 = ap once (ne_eqb file other (λ e. none (inl (sym e)))) in
    omega (arith, sum_by-cons (is_of file) other files, here, none_is file files (λ has. none (inr has)))

one_is : (file : ℕ) (files : List ℕ) → AreOnce files → Has files file → sum_by (is_of file) files ≡ 1
one_is file [] alone has = absurd has
one_is file (other ∷ files) alone (inl same) =
    let here : is_of file other ≡ 1 = ap once (eq-eqb file other (sym same)) in
    omega (arith, sum_by-cons (is_of file) other files, here, none_is file files (λ has. alone.0 (subst (Has files) (sym same) has)))
one_is file (other ∷ files) alone (inr has) =
    let here : is_of file other ≡ 0 = ap once (ne_eqb file other (λ e. alone.0 (subst (Has files) e has))) in
    omega (arith, sum_by-cons (is_of file) other files, here, one_is file files alone.1 has)

-- ---- all rounds

abbrev pub written : ℕ → ℕ → ℕ
written n file = length (rounds_of n file)

none_yet : (files : List ℕ) → sum_by (written 0) files ≡ 0
none_yet [] = refl
none_yet (file ∷ files) = omega (arith, sum_by-cons (written 0) file files, none_yet files)

one_round : (n : ℕ) (files : List ℕ) → sum_by (written (suc n)) files ≡ sum_by (written n) files + sum_by (is_of (file_of_round (suc n))) files
one_round n [] = refl
one_round n (file ∷ files) =
    omega (
      arith,
      sum_by-cons (written (suc n)) file files,
      sum_by-cons (written n) file files,
      sum_by-cons (is_of (file_of_round (suc n))) file files,
      one_more n file,
      one_round n files,
    )

pub all_rounds : (n : ℕ) (files : List ℕ) → AreOnce files → ((round : ℕ) → 1 ≤ round → round ≤ n → Has files (file_of_round round)) → sum_by (written n) files ≡ n
all_rounds zero files alone has = none_yet files
all_rounds (suc n) files alone has =
    omega (
      arith,
      one_round n files,
      one_is (file_of_round (suc n)) files alone (has (suc n) (omega arith) (omega arith)),
      all_rounds n files alone (λ round some within. has round some (omega (arith, within))),
    )

-- ---- rows, each with its file

abbrev pub lines_by : Row → ℕ
lines_by row = row.lines

module _ (Owns : Row → ℕ → Type 0) where
  pub record Files (rows : List Row) : Type 0 where
    pub files : List ℕ
    pub own : AllZip Owns rows files

  pub files_of : (rows : List Row) → ((place : ℕ) (row : Row) → IsRowAt rows place row → (file : ℕ) × Owns row file) → Files rows
  files_of [] each = record { files = []; own = tt }
  files_of (row ∷ rows) each =
      let first = each 0 row refl in
      let rest = files_of rows (λ place other at. each (suc place) other at) in
      record { files = first.0 ∷ rest.files; own = (first.1, rest.own) }

  pub same_sum : (n : ℕ) (rows : List Row) (files : List ℕ) → ((row : Row) (file : ℕ) → Owns row file → row.lines ≡ written n file) → AllZip Owns rows files → sum_by lines_by rows ≡ sum_by (written n) files
  same_sum n [] [] has own = refl
  same_sum n [] (file ∷ files) has own = absurd own
  same_sum n (row ∷ rows) [] has own = absurd own
  same_sum n (row ∷ rows) (file ∷ files) has own =
      omega (arith, sum_by-cons lines_by row rows, sum_by-cons (written n) file files, has row file own.0, same_sum n rows files has own.1)

  pub has_file : (rows : List Row) (files : List ℕ) → ((row : Row) (file other : ℕ) → Owns row file → Owns row other → file ≡ other) → AllZip Owns rows files
      → (place : ℕ) (row : Row) (file : ℕ) → IsRowAt rows place row → Owns row file → Has files file
  has_file [] [] one own place row file at owns = let never : ◌≡◌ {A = Option Row} None (Some row) = at in absurd (cc (never))
  has_file [] (other ∷ files) one own place row file at owns = absurd own
  has_file (first ∷ rows) [] one own place row file at owns = absurd own
  has_file (first ∷ rows) (other ∷ files) one own zero row file at owns =
      let some : Some first ≡ Some row = at in
      let same : first ≡ row = cc (some) in
      inl (one row other file (subst (λ (r : Row). Owns r other) same own.0) owns)
  has_file (first ∷ rows) (other ∷ files) one own (suc place) row file at owns = inr (has_file rows files one own.1 place row file at owns)

  -- the row of a file
  record RowOf (rows : List Row) (file : ℕ) : Type 0 where
    place : ℕ
    row : Row
    at : IsRowAt rows place row
    owns : Owns row file

  row_of_file : (rows : List Row) (files : List ℕ) (file : ℕ) → AllZip Owns rows files → Has files file → RowOf rows file
  row_of_file [] [] file own has = absurd has
  row_of_file [] (other ∷ files) file own has = absurd own
  row_of_file (row ∷ rows) [] file own has = absurd own
  row_of_file (row ∷ rows) (other ∷ files) file own (inl same) = record { place = 0; row = row; at = refl; owns = subst (Owns row) same own.0 }
  row_of_file (row ∷ rows) (other ∷ files) file own (inr has) =
      let found = row_of_file rows files file own.1 has in
      record { place = suc found.place; row = found.row; at = found.at; owns = found.owns }

  abbrev pub Differ : List Row → Type 0
  Differ rows = (place other : ℕ) (row other_row : Row) (file : ℕ) → IsRowAt rows place row → IsRowAt rows other other_row → place ≢ other → Owns row file → Owns other_row file → ⊥

  pub are_once : (rows : List Row) (files : List ℕ) → Differ rows → AllZip Owns rows files → AreOnce files
  are_once [] [] differ own = tt
  are_once [] (file ∷ files) differ own = absurd own
  are_once (row ∷ rows) [] differ own = absurd own
  are_once (row ∷ rows) (file ∷ files) differ own = (
    λ has.
        let found = row_of_file rows files file own.1 has in
        differ 0 (suc found.place) row found.row file refl found.at (λ e. omega (arith, e)) own.0 found.owns,
    are_once rows files (λ place other one other_row its at other_at apart owns owns_too. differ (suc place) (suc other) one other_row its at other_at (λ e. apart (omega (arith, e))) owns owns_too) own.1,
  )
