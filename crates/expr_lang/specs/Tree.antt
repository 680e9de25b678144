-- What an expression is: constants, paths and operators. A number beside an operator is its place in the text.
use Rattle.std.specs.Prelude.{ℕ, List}
use Rattle.entry_model.specs.Datum.{Datum}
use Rattle.field_paths.specs.Place.{Place}
use Rattle.expr_lang.specs.declared.token.Comparison.{Comparison}

pub data Tree : Type 0 where
  constant : Datum → Tree
  path : Place → Tree
  severity_number : Tree
  severity_text : Tree
  negation : ℕ → Tree → Tree
  conjunction : ℕ → Tree → Tree → Tree
  disjunction : ℕ → Tree → Tree → Tree
  comparison : Comparison → ℕ → Tree → Tree → Tree
  -- whether a pattern is found; the pattern is the text of a regular expression
  matching : ℕ → Tree → List ℕ → Tree
