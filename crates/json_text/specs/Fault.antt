-- Why a text is read as no value.
use Rattle.std.specs.Prelude.{◌≡◌, ℕ, ◌+◌, ◌<◌, ◌⊎◌, List, length, take, slice_index, ⊤}
use Rattle.json_text.specs.declared.fault.JsonFault.{JsonFault}
use Rattle.json_text.specs.declared.fault.JsonFault.TheVariants.{Syntax, TooDeep, Memory}
use Rattle.json_text.specs.Grammar.{IsText}
use Rattle.json_text.specs.Leftmost.{Begins, IsLeftmostFault}

-- no text goes on so, of however many levels
pub record IsSyntaxFault (text : List ℕ) (at : ℕ) : Type 0 where
  pub leftmost : IsLeftmostFault (IsText 64) text at
  pub at_any_depth : (levels : ℕ) → at < length text → Begins (IsText levels) (take (at + 1) text) → ⊥

-- a text can go on with the bracket at this place only if it opens the 65th level
pub record IsDepthFault (text : List ℕ) (at : ℕ) : Type 0 where
  pub leftmost : IsLeftmostFault (IsText 64) text at
  pub inside : at < length text
  pub bracket : (slice_index text at ≡ 91) ⊎ (slice_index text at ≡ 123)
  pub one_deeper : Begins (IsText 65) (take (at + 1) text)

abbrev pub IsFault : List ℕ → JsonFault → Type 0
IsFault text (Syntax at) = IsSyntaxFault text at
IsFault text (TooDeep at) = IsDepthFault text at
IsFault text Memory = ⊤
