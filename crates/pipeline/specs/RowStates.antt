-- States of files in memory, against the rows that tell them.
use Rattle.std.specs.Prelude.{◌≡◌, ℕ, ◌+◌, ◌<◌, List, ◌++◌, length, slice_index}
use Rattle.entry_model.specs.LogRecord.{LogRecord}
use Rattle.op_kinds.specs.StateTexts.{Tells}
use Rattle.pipeline.specs.declared.Pipeline.{Pipeline}
use Rattle.pipeline.specs.declared.state.FileState.{FileState}
use Rattle.standing.specs.Look.{fed, lines_of}
use Rattle.standing.specs.Marks.{numbered}
use Rattle.standing.specs.Poll.{Poll}
use Rattle.standing.specs.Rows.{Row}
use Rattle.standing.specs.Rules.{Rules, output_text}

-- they stand in memory
abbrev pub AreBytes : List ℕ → Type 0
AreBytes text = (i : ℕ) → slice_index text i < 256

-- the state has these counts, and a state for each operator, of its kind, for which together the text stands
pub record IsStateOf (pipeline : Pipeline) (records lines : ℕ) (text : List ℕ) (state : FileState) : Type 0 where
  pub states : Tells pipeline.graph text state.states.items
  pub records_are : state.records ≡ records
  pub lines_are : state.lines ≡ lines

abbrev pub IsStateOfRow : Pipeline → Row → FileState → Type 0
IsStateOfRow pipeline row state = IsStateOf pipeline row.records row.lines row.state state

-- The row goes on as the poll's rules say of the tokens of these bytes: the state is that of the row which has taken them, and their
-- lines were appended.
pub record TakesTokens (pipeline : Pipeline) (poll : Poll) (bytes : List ℕ) (row : Row) (after : FileState) (out_before out_after : List ℕ) : Type 0 where
  pub state : IsStateOfRow pipeline (fed poll.rules bytes row) after
  pub written : out_after ≡ out_before ++ output_text poll.rules (lines_of poll bytes row)

-- what comes out for the tokens of a rest that waits behind the row, and then when the operators are closed
abbrev pub rest_made : Rules → List ℕ → Row → List LogRecord
rest_made rules bytes row =
    rules.made row.path row.records row.state (rules.rest bytes)
    ++ rules.closed (rules.state_after row.path row.records row.state (rules.rest bytes))

-- The row goes on as the poll's rules say of these bytes as a rest: no group is open in the state, and the lines were appended.
pub record TakesRest (pipeline : Pipeline) (poll : Poll) (bytes : List ℕ) (row : Row) (out_before : List ℕ) (after : FileState × List ℕ) : Type 0 where
  pub state : IsStateOf pipeline (row.records + length (poll.rules.rest bytes)) (row.lines + length (rest_made poll.rules bytes row)) poll.rules.fresh after.0
  pub written : after.1 ≡ out_before ++ output_text poll.rules (numbered row.id (row.lines + 1) poll.stamp (rest_made poll.rules bytes row))
