use Rattle.std.specs.Prelude.{◌≡◌}
use Rattle.regex_syntax.specs.Verdict.{default_config}
use Rattle.regex.specs.Strings.{regex_config, IsReadFromSource}
use Rattle.regex.specs.declared.string.regex.Regex.{Regex}

-- the pattern is what its text is read as by default
abbrev pub IsReadByDefault : Regex → Type 0
IsReadByDefault regex = ∥ (regex_config regex ≡ default_config) × IsReadFromSource regex ∥₁
