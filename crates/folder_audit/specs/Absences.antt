-- Rows whose file an audit is to find, and of which it found nothing.
use Rattle.std.specs.Prelude.{◌≡◌, ℕ, ◌-◌, ◌≤◌, nat_eq, List, ◌++◌, Some, slice_get, Contains}
use Rattle.std.specs.List.{IsDistinct}
use Rattle.folder_audit.specs.Limits.{largest_read}
use Rattle.folder_audit.specs.declared.findings.Finding.{Finding}
use Rattle.folder_audit.specs.declared.findings.Finding.TheVariants.{Absent}
use Rattle.outside.specs.Seen.{left_unlisted}
use Rattle.outside.specs.World.{History}
use Rattle.standing.specs.Eras.{Eras, last_era}
use Rattle.standing.specs.Moments.{NamesThroughout}
use Rattle.standing.specs.Owner.{IsOwner}
use Rattle.standing.specs.Pass.{IsReachable}
use Rattle.standing.specs.Rows.{Row, IsRowAt}
use Rattle.standing.specs.Rules.{Includes}
use Rattle.tree_walk.specs.Walked.{IsHidden}

-- No folder on the way to the path was left unlisted between the two moments.
abbrev pub IsShown : History → History → List ℕ → Type 0
IsShown old new path = (unlisteds : List (List ℕ)) → left_unlisted new ≡ unlisteds ++ left_unlisted old → IsHidden unlisteds path → ⊥

-- The row's file keeps one name from the first of these moments to the second. It is to be read in the last era, a walk finds it, and
-- of the file no more was read than an audit reads.
pub record KeepsName (eras : Eras) (row : Row) (old new : History) : Type 0 where
  pub file : ℕ
  pub owner : IsOwner eras old row file
  pub path : List ℕ
  pub named : NamesThroughout old new path file
  pub included : Includes (last_era eras) path
  pub reachable : IsReachable path
  pub shown : IsShown old new path
  pub small : row.offset - row.start ≤ largest_read

-- of the row at this place, which is such a one, nothing was found
pub record IsAbsence (eras : Eras) (rows : List Row) (found : List Finding) (place : ℕ) (old new : History) : Type 0 where
  pub row : Row
  pub there : IsRowAt rows place row
  pub absent : slice_get found place ≡ Some Absent
  pub keeps : KeepsName eras row old new

-- and so at each of these places, of which no two are the same
pub record AreAbsences (eras : Eras) (rows : List Row) (found : List Finding) (places : List ℕ) (old new : History) : Type 0 where
  pub once : IsDistinct nat_eq places
  pub each : (place : ℕ) → Contains places place → IsAbsence eras rows found place old new
