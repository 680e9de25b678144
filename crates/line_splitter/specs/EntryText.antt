-- The text of a log entry that a token gives.
use Rattle.std.specs.Prelude.{ℕ, Bool, List}
use Rattle.std.specs.Str.Lossy.{utf8_lossy}
use Rattle.line_splitter.specs.Trim.{trimmed}

-- the trimmed token, with U+FFFD for each sequence that isn't UTF-8; an empty text is no entry
unfoldable pub entry_text : Bool → Bool → List ℕ → List ℕ
entry_text leading trailing token = utf8_lossy (trimmed leading trailing token)
