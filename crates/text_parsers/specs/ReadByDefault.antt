-- How a compiled pattern stands to its text.
use Rattle.std.specs.Prelude.{◌≡◌, ℕ, ◌≤◌, ⊤, Option, None, Some, List}
use Rattle.std.specs.Str.{IsCharBoundary}
use Rattle.regex_syntax.specs.Verdict.{default_config}
use Rattle.regex.specs.Strings.{regex_config, IsReadFromSource}
use Rattle.regex.specs.declared.string.regex.Regex.{Regex}

-- the pattern is what its text is read as by default
abbrev pub IsReadByDefault : Regex → Type 0
IsReadByDefault regex = ∥ (regex_config regex ≡ default_config) × IsReadFromSource regex ∥₁

-- where there is a span, it lies in the text, between characters
abbrev pub IsCleanSpan : List ℕ → Option (ℕ × ℕ) → Type 0
IsCleanSpan front None = ⊤
IsCleanSpan front (Some place) = (place.0 ≤ place.1) × IsCharBoundary front place.0 × IsCharBoundary front place.1
