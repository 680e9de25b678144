-- By which patterns a walk finds files.
use Rattle.std.specs.Prelude.{List}
use Rattle.glob_match.specs.Pattern.{Pattern}

pub record Patterns : Type 0 where
  pub include : List Pattern
  pub exclude : List Pattern

abbrev pub patterns : List Pattern → List Pattern → Patterns
patterns include exclude = record { include = include; exclude = exclude }
