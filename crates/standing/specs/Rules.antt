-- The settings as rules: all that the promises on polls need to know of them.
use Rattle.std.specs.Prelude.{ℕ, List, Bool, flat_map}
use Rattle.entry_model.specs.LogRecord.{LogRecord}
use Rattle.glob_match.specs.Pattern.{Pattern}
use Rattle.line_splitter.specs.Cuts.{Cut}
use Rattle.standing.specs.Included.{IsIncluded}
use Rattle.standing.specs.Marks.{Mark}

pub record Rules : Type 0 where
  -- the text of the settings
  pub settings : List ℕ
  -- the tokens of bytes, from the front, each with how many bytes it uses
  pub cuts : List ℕ → List Cut
  -- What the operators emit for tokens of the file that has this path. So many tokens stand before them, which left this
  -- state. A state is the text that spells it.
  pub made : List ℕ → ℕ → List ℕ → List (List ℕ) → List LogRecord
  -- the state that those tokens leave
  pub state_after : List ℕ → ℕ → List ℕ → List (List ℕ) → List ℕ
  -- the tokens of bytes behind which none are waited for
  pub rest : List ℕ → List (List ℕ)
  -- what the operators hold back in a state, which comes out when they are closed
  pub closed : List ℕ → List LogRecord
  -- the state in which no group is open
  pub fresh : List ℕ
  -- the text spells a state of these operators
  pub is_state : List ℕ → Bool
  -- the line in the output, with its LF
  pub line : Mark → List ℕ
  -- the line tells what it was made of
  pub fits : Mark → Bool
  -- the globs of the paths to be read, and of those among them that are not
  pub include : List Pattern
  pub exclude : List Pattern
  -- how many of a file's first bytes tell it from others
  pub front_size : ℕ
  -- a file that the first poll finds begins at its end
  pub from_end : Bool
  -- lines have the time at which they were made
  pub stamps : Bool
  -- after how many looks that find a file as it was what waits of it is flushed, or 0 for never
  pub flush_after : ℕ

abbrev pub Includes : Rules → List ℕ → Type 0
Includes rules path = IsIncluded rules.include rules.exclude path

-- the output that has these lines
abbrev pub output_text : Rules → List Mark → List ℕ
output_text rules marks = flat_map rules.line marks
