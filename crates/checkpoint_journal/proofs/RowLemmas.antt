-- The rows of a checkpoint, each by its place.
use Rattle.std.proofs.Common.{◌≡◌, ℕ, zero, suc, ◌+◌, List, [], ◌∷◌, Some, ap, subst, arith}
use Rattle.std.proofs.lemmas.Option.{same_Some, none-some}
use Rattle.std.specs.Prelude.{slice_get}
use Rattle.file_tracker.specs.declared.row.Row.{Row}
use Rattle.checkpoint_store.specs.Rules.{KeepRules, KeepsRules}
use Rattle.checkpoint_store.specs.declared.beside.Beside.{Beside}

pub kept_from : (beside : Beside) (first : ℕ) (rows : List Row) → KeepRules beside first rows → (place : ℕ) (row : Row) → slice_get rows place ≡ Some row → KeepsRules beside row × (row.id ≡ place + first)
kept_from beside first [] keep place row at = absurd (none-some row at)
kept_from beside first (saved ∷ rows) keep zero row at =
    let same : saved ≡ row = same_Some saved row at in
    (subst (KeepsRules beside) same keep.1.0, omega (arith, ap (λ (r : Row). r.id) same, keep.0))
kept_from beside first (saved ∷ rows) keep (suc place) row at =
    let later = kept_from beside (first + 1) rows keep.1.1 place row at in
    (later.0, omega (arith, later.1))

-- the ids are 1, 2 and so on
pub rows_in_order : (beside : Beside) (rows : List Row) → KeepRules beside 1 rows → (place : ℕ) (row : Row) → slice_get rows place ≡ Some row → row.id ≡ place + 1
rows_in_order beside rows keep place row at = (kept_from beside 1 rows keep place row at).1
