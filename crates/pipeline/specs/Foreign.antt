-- Rows that keep no state of the operators.
use Rattle.std.specs.Prelude.{◌≡◌, ℕ, ◌≤◌, false, List}
use Rattle.standing.specs.Rows.{Row, IsRowAt}
use Rattle.standing.specs.Rules.{Rules}

-- the row with this id keeps no state of the operators, and no row with a lower id is so
pub record IsLeastForeign (rules : Rules) (rows : List Row) (id : ℕ) : Type 0 where
  pub place : ℕ
  pub row : Row
  pub there : IsRowAt rows place row
  pub id_is : row.id ≡ id
  pub foreign : rules.is_state row.state ≡ false
  pub least : (other_place : ℕ) (other : Row) → IsRowAt rows other_place other → rules.is_state other.state ≡ false → id ≤ other.id
