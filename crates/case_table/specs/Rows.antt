-- A table as the list of its names with their codes.
use Rattle.std.specs.Prelude.{◌≡◌, ℕ, List, [], ◌∷◌, map, Bool, Option, Some, None, if◌then◌else◌}
use Rattle.std.specs.declared.cmp.Ordering.TheVariants.{Less}
use Rattle.std.specs.Ordering.{nat_cmp}
use Rattle.std.specs.Cmp.Lexicographic.{slice_cmp}
use Rattle.case_table.specs.declared.row.Row.{Row}

-- what contracts see of a row
abbrev pub Named : Type 0
Named = List ℕ × ℕ

abbrev pub table_of : List Row → List Named
table_of rows = map (λ row. (row.name.now, row.code)) rows

-- the code of the first row whose name passes
abbrev pub first_code : (List ℕ → Bool) → List Named → Option ℕ
first_code test [] = None
first_code test (row ∷ rows) = (if test row.0 then Some row.1 else first_code test rows)

-- the first name is before the second in byte order
abbrev pub IsBelow : Row → Row → Type 0
IsBelow low high = slice_cmp nat_cmp low.name.now high.name.now ≡ Less
