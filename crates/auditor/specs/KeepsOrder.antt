-- The rules of checkpoints on a row's numbers.
use Rattle.std.specs.Prelude.{◌-◌, ◌≤◌}
use Rattle.checkpoint_store.specs.Limits.{offset_limit}
use Rattle.checkpoint_store.specs.Rules.{Rise, first_point, last_point}
use Rattle.standing.specs.Rows.{Row}

-- No number falls from where reading began over the ends of the parts to the row's own, and each record used some bytes.
pub record KeepsOrder (row : Row) : Type 0 where
  pub rise : Rise (first_point row) row.ends (last_point row)
  pub offset : row.offset ≤ offset_limit
  pub records : row.records ≤ row.offset - row.start
