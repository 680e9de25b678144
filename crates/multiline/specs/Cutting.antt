-- Where lines begin and end tokens.
use Rattle.std.specs.Prelude.{ℕ, Bool, List}
use Rattle.std.specs.Str.Lossy.{utf8_lossy}
use Rattle.multiline.specs.Patterns.{is_found}
use Rattle.multiline.specs.declared.cutter.Boundary.{Boundary}
use Rattle.multiline.specs.declared.cutter.Boundary.TheVariants.{Start, End}

-- the pattern of the lines that begin tokens, or of those that end them
pub data Cutting : Type 0 where
  starting : List ℕ → Cutting
  ending : List ℕ → Cutting

-- the pattern is found in the text of a line, with U+FFFD for each sequence that isn't UTF-8
unfoldable pub is_marked : List ℕ → List ℕ → Bool
is_marked pattern line = is_found pattern (utf8_lossy line)

abbrev pub cutting_at : Boundary → List ℕ → Cutting
cutting_at Start pattern = starting pattern
cutting_at End pattern = ending pattern
