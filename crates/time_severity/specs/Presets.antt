-- The names that severities have without a mapping.
use Rattle.std.specs.Prelude.{ℕ, List, [], ◌∷◌, ◌==◌, if◌then◌else◌, Option, None, Some}
use Rattle.std.specs.Str.{str_eq_ignore_ascii_case}
use Rattle.case_table.specs.Rows.{Named, first_code}
use Rattle.case_table.specs.Tables.{severity_table, alias_table}

abbrev pub or_else : Option ℕ → Option ℕ → Option ℕ
or_else None other = other
or_else (Some code) other = Some code

-- the severity that a word names in any case: by its short name or by an alias
abbrev pub preset_number : List ℕ → Option ℕ
preset_number word = or_else (first_code (str_eq_ignore_ascii_case word) severity_table) (first_code (str_eq_ignore_ascii_case word) alias_table)

-- the first name with this code, and nothing where there is none
abbrev pub name_in : List Named → ℕ → List ℕ
name_in [] code = []
name_in (row ∷ rows) code = if row.1 == code then row.0 else name_in rows code

abbrev pub short_name : ℕ → List ℕ
short_name number = name_in severity_table number
