-- What findings come to.
use Rattle.std.specs.Prelude.{◌≡◌, ℕ, ◌<◌, List, length, Some, false, slice_get}
use Rattle.folder_audit.specs.Findings.{absent_in, all_lines_in, is_other}
use Rattle.folder_audit.specs.declared.audited.Audited.{Audited}
use Rattle.folder_audit.specs.declared.fault.AuditFault.{AuditFault}
use Rattle.folder_audit.specs.declared.fault.AuditFault.TheVariants as fault
use Rattle.folder_audit.specs.declared.findings.Finding.{Finding}
use Rattle.folder_audit.specs.declared.findings.Finding.TheVariants as finding
use Rattle.standing.specs.Rows.{Row, IsRowAt}

-- none of the first of them differs
abbrev pub NoneDiffer : List Finding → ℕ → Type 0
NoneDiffer found n = (place : ℕ) (one : Finding) → place < n → slice_get found place ≡ Some one → is_other one ≡ false

-- none differs, and so many are counted
pub record IsTallied (rows : List Row) (found : List Finding) (audited : Audited) : Type 0 where
  pub none_differ : NoneDiffer found (length found)
  pub rows_are : audited.rows ≡ length rows
  pub absent : audited.absent ≡ absent_in found
  pub lines : audited.lines ≡ all_lines_in found

-- This row differs at this line, and none with a lower id does.
pub record IsLeastOther (rows : List Row) (found : List Finding) (id line : ℕ) : Type 0 where
  pub place : ℕ
  pub row : Row
  pub there : IsRowAt rows place row
  pub id_is : row.id ≡ id
  pub differs : slice_get found place ≡ Some (finding.Differs line)
  pub least : NoneDiffer found place

abbrev pub IsOtherFault : List Row → List Finding → AuditFault → Type 0
IsOtherFault rows found (fault.Differs id line) = IsLeastOther rows found id line
IsOtherFault rows found other = ⊥
