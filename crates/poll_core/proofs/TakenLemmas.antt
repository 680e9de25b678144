-- The rows of what was taken.
use Rattle.std.proofs.Common.{◌≡◌, ℕ, zero, suc, ◌+◌, List, [], ◌∷◌, Some, subst}
use Rattle.std.specs.Prelude.{slice_get}
use Rattle.checkpoint_store.specs.Rules.{KeepsRules, KeepRules}
use Rattle.checkpoint_store.specs.declared.beside.Beside.{Beside}
use Rattle.file_tracker.specs.declared.row.Row.{Row}

pub row_kept : (beside : Beside) (first : ℕ) (rows : List Row) (place : ℕ) (row : Row) → KeepRules beside first rows → slice_get rows place ≡ Some row → KeepsRules beside row
row_kept beside first [] place row keep is = absurd (cc)
row_kept beside first (one ∷ rows) zero row keep is = let same : one ≡ row = cc in subst (λ (r : Row). KeepsRules beside r) same keep.1.0
row_kept beside first (one ∷ rows) (suc place) row keep is = row_kept beside (first + 1) rows place row keep.1.1 is
