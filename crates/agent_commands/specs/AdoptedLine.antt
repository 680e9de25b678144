-- The line that reports that settings were adopted.
use Rattle.std.specs.Prelude.{ℕ, List, ◌++◌, codes, decimal}
use Rattle.poll_core.specs.declared.adopted.Adopted.{Adopted}

unfoldable pub adopted_line : Adopted → List ℕ
adopted_line adopted =
    codes "adopted rows=" ++ decimal adopted.rows
    ++ codes " lines=" ++ decimal adopted.lines
    ++ codes " eras=" ++ decimal adopted.eras
    ++ codes " output=" ++ decimal adopted.output
    ++ codes "\n"
