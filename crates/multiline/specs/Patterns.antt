-- What a pattern is, after the crate of regular expressions.
use Rattle.std.specs.Prelude.{◌≡◌, ℕ, List, Bool, false, is_some, nat_le, Option, None, Some, chars}
use Rattle.regex.specs.Strings.{regex_config, IsReadFromSource}
use Rattle.regex.specs.declared.string.regex.Regex.{Regex}
use Rattle.regex_hir.specs.Find.{find_str}
use Rattle.regex_hir.specs.Re.{Re}
use Rattle.regex_syntax.specs.Brackets.{Nested}
use Rattle.regex_syntax.specs.Grammar.{Names, read}
use Rattle.regex_syntax.specs.Verdict.{default_config}

abbrev pub is_shallow : Option (Nested Re × Names) → Bool
is_shallow None = false
is_shallow (Some pattern) = nat_le pattern.0.depth default_config.nest_limit

-- the grammar of patterns reads the text, and it doesn't nest too deep
unfoldable pub is_pattern : List ℕ → Bool
is_pattern source = is_shallow (read default_config (chars source))

abbrev pub found_by : Option (Nested Re × Names) → List ℕ → Bool
found_by None bytes = false
found_by (Some pattern) bytes = is_some (find_str pattern.0.value bytes 0)

-- the pattern is found somewhere in the text
unfoldable pub is_found : List ℕ → List ℕ → Bool
is_found source bytes = found_by (read default_config (chars source)) bytes

-- the compiled pattern is what its text is read as by default
abbrev pub IsReadByDefault : Regex → Type 0
IsReadByDefault regex = ∥ (regex_config regex ≡ default_config) × IsReadFromSource regex ∥₁
