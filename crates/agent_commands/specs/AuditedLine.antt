-- The line that reports an audit.
use Rattle.std.specs.Prelude.{ℕ, List, ◌++◌, codes, decimal}
use Rattle.folder_audit.specs.declared.audited.Audited.{Audited}

unfoldable pub audited_line : Audited → List ℕ
audited_line audited =
    codes "audit rows=" ++ decimal audited.rows
    ++ codes " absent=" ++ decimal audited.absent
    ++ codes " lines=" ++ decimal audited.lines
    ++ codes "\n"
