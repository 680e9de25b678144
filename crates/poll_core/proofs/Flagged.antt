-- The rows whose flag is set, of rows with the ids 1, 2 and so on.
use Rattle.std.proofs.Common.{◌≡◌, ℕ, zero, suc, ◌+◌, ◌-◌, ◌<◌, ◌≤◌, List, [], ◌∷◌, length, Bool, true, false, Some, refl, sym, ap, subst, ◌∙◌, arith, inl, inr}
use Rattle.std.specs.List.{All}
use Rattle.std.specs.Prelude.{slice_get}
use Rattle.std.proofs.lemmas.List.Elements.{All-nil, All-cons}
use Rattle.std.proofs.lemmas.Option.{none-some, same_Some}
use Rattle.checkpoint_store.specs.Fits.{Ascend, HasId}
use Rattle.checkpoint_store.specs.Parts.{flagged}
use Rattle.checkpoint_store.specs.Rules.{KeepRules}
use Rattle.checkpoint_store.specs.declared.beside.Beside.{Beside}
use Rattle.file_tracker.specs.declared.row.Row.{Row}

ascend_from : (beside : Beside) (low lower high : ℕ) (rows : List Row) → lower ≤ low → Ascend beside low high rows → Ascend beside lower high rows
ascend_from beside low lower high [] less up = tt
ascend_from beside low lower high (row ∷ rows) less up = ((omega (arith, less, up.0.0), up.0.1), up.1)

pub flagged_ascend : (beside : Beside) (first high : ℕ) (flags : List Bool) (rows : List Row) → KeepRules beside first rows → first + length rows ≤ high + 1 → Ascend beside first high (flagged flags rows)
flagged_ascend beside first high [] rows keep few = tt
flagged_ascend beside first high (flag ∷ flags) [] keep few = tt
flagged_ascend beside first high (true ∷ flags) (row ∷ rows) keep few = (
  (omega (arith, keep.0), omega (arith, keep.0, few)),
  (keep.1.0, subst (λ (n : ℕ). Ascend beside (n + 1) high (flagged flags rows)) (sym keep.0) (flagged_ascend beside (first + 1) high flags rows keep.1.1 (omega (arith, few)))),
)
flagged_ascend beside first high (false ∷ flags) (row ∷ rows) keep few =
    ascend_from beside (first + 1) first high (flagged flags rows) (omega arith) (flagged_ascend beside (first + 1) high flags rows keep.1.1 (omega (arith, few)))

-- the row at a place is among them where its flag is set
pub flagged_has : (beside : Beside) (first : ℕ) (flags : List Bool) (rows : List Row) → KeepRules beside first rows → (place : ℕ) → place < length rows → slice_get flags place ≡ Some true → HasId (flagged flags rows) (first + place)
flagged_has beside first [] rows keep place within at = absurd (none-some true at)
flagged_has beside first (flag ∷ flags) [] keep place within at = absurd (omega (arith, within))
flagged_has beside first (true ∷ flags) (row ∷ rows) keep zero within at = inl (omega (arith, keep.0))
flagged_has beside first (false ∷ flags) (row ∷ rows) keep zero within at = (let same = same_Some false true at in absurd (cc))
flagged_has beside first (true ∷ flags) (row ∷ rows) keep (suc place) within at =
    inr (subst (λ (n : ℕ). HasId (flagged flags rows) n) (omega arith) (flagged_has beside (first + 1) flags rows keep.1.1 place (omega (arith, within)) at))
flagged_has beside first (false ∷ flags) (row ∷ rows) keep (suc place) within at =
    subst (λ (n : ℕ). HasId (flagged flags rows) n) (omega arith) (flagged_has beside (first + 1) flags rows keep.1.1 place (omega (arith, within)) at)

-- what stands at the place that its id tells
abbrev pub StandsAt : List Row → Row → Type 0
StandsAt rows row = slice_get rows (row.id - 1) ≡ Some row

-- each of them is at its place among all rows, of which so many stand before these
flagged_from : (all : List Row) (beside : Beside) (skip : ℕ) (flags : List Bool) (rows : List Row) → KeepRules beside (skip + 1) rows → ((place : ℕ) → slice_get all (skip + place) ≡ slice_get rows place) → All (StandsAt all) (flagged flags rows)
flagged_from all beside skip [] rows keep same = All-nil (StandsAt all)
flagged_from all beside skip (flag ∷ flags) [] keep same = All-nil (StandsAt all)
flagged_from all beside skip (true ∷ flags) (row ∷ rows) keep same =
    let here : row.id - 1 ≡ skip + 0 = omega (arith, keep.0) in
    All-cons (StandsAt all) row (flagged flags rows) (ap (λ (n : ℕ). slice_get all n) here ∙ same 0)
    (flagged_from all beside (skip + 1) flags rows keep.1.1 (λ place. ap (λ (n : ℕ). slice_get all n) (omega arith) ∙ same (suc place)))
flagged_from all beside skip (false ∷ flags) (row ∷ rows) keep same =
    flagged_from all beside (skip + 1) flags rows keep.1.1 (λ place. ap (λ (n : ℕ). slice_get all n) (omega arith) ∙ same (suc place))

pub flagged_stand : (beside : Beside) (flags : List Bool) (rows : List Row) → KeepRules beside 1 rows → All (StandsAt rows) (flagged flags rows)
flagged_stand beside flags rows keep = flagged_from rows beside 0 flags rows keep (λ place. ap (λ (n : ℕ). slice_get rows n) (omega arith))

-- what holds of each row whose flag is set, by its place behind so many others, holds of them
pub flagged_all : (P : Row → Type 0) (beside : Beside) (skip : ℕ) (flags : List Bool) (rows : List Row) → KeepRules beside (skip + 1) rows
    → ((place : ℕ) (row : Row) → slice_get flags place ≡ Some true → slice_get rows place ≡ Some row → row.id ≡ skip + place + 1 → P row) → All P (flagged flags rows)
flagged_all P beside skip [] rows keep each = All-nil P
flagged_all P beside skip (flag ∷ flags) [] keep each = All-nil P
flagged_all P beside skip (true ∷ flags) (row ∷ rows) keep each =
    All-cons P row (flagged flags rows) (each 0 row refl refl (omega (arith, keep.0)))
    (flagged_all P beside (skip + 1) flags rows keep.1.1 (λ place other flag at id. each (suc place) other flag at (omega (arith, id))))
flagged_all P beside skip (false ∷ flags) (row ∷ rows) keep each =
    flagged_all P beside (skip + 1) flags rows keep.1.1 (λ place other flag at id. each (suc place) other flag at (omega (arith, id)))
