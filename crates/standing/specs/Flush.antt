-- What a look takes of a file whose row isn't past its end, and when it flushes what waits.
use Rattle.std.specs.Prelude.{◌≡◌, ℕ, ◌+◌, ◌-◌, ◌≤◌, List, ◌++◌, length, true}
use Rattle.entry_model.specs.LogRecord.{LogRecord}
use Rattle.standing.specs.Limits.{most_taken}
use Rattle.standing.specs.Look.{Look, size, piece, fed, lines_of, is_pending, rest_output, row_after, lines_added}
use Rattle.standing.specs.Marks.{numbered}
use Rattle.standing.specs.Poll.{Poll}
use Rattle.standing.specs.Rows.{Row}
use Rattle.standing.specs.Tokens.{AreCutOf, tokens_of, used}

-- The settings ask for it, the file was read to its end, and behind the tokens that were taken something waits. The look before found the
-- file as long, and with this one as many looks as are asked for did, one after another.
pub record Flushes (poll : Poll) (here : Look) (row : Row) : Type 0 where
  pub asked : 1 ≤ poll.rules.flush_after
  pub read : here.end ≡ size here
  pub whole : size here ≤ row.offset + most_taken
  pub waits : is_pending poll.rules here (fed poll.rules (piece here row.offset) row) ≡ true
  pub same : size here ≡ row.seen
  pub enough : poll.rules.flush_after ≤ row.quiet + 1

-- what comes out for the tokens of the piece that is read
abbrev pub piece_output : Poll → Look → Row → List LogRecord
piece_output poll here row = poll.rules.made row.path row.records row.state (tokens_of poll.rules (piece here row.offset))

-- what comes out for those of the rest behind them, and then when the operators are closed
abbrev pub flush_output : Poll → Look → Row → List LogRecord
flush_output poll here row = rest_output poll.rules here (fed poll.rules (piece here row.offset) row)

-- All of the file is taken, and no group is left open.
pub record TakesAll (poll : Poll) (here : Look) (row : Row) : Type 0 where
  pub offset : (row_after poll here row).offset ≡ size here
  pub state : (row_after poll here row).state ≡ poll.rules.fresh
  pub lines : lines_added poll here row ≡ numbered row.id (row.lines + 1) poll.stamp (piece_output poll here row ++ flush_output poll here row)

-- The tokens of the piece are taken, and what waits behind them waits on.
pub record TakesPiece (poll : Poll) (here : Look) (row : Row) : Type 0 where
  pub offset : (row_after poll here row).offset ≡ row.offset + used poll.rules (piece here row.offset)
  pub state : (row_after poll here row).state ≡ (fed poll.rules (piece here row.offset) row).state
  pub lines : lines_added poll here row ≡ lines_of poll (piece here row.offset) row

-- The tokens that are taken follow one another from the row's old offset to its new one, and each is counted, as each line is.
pub record TakesRange (poll : Poll) (here : Look) (row : Row) : Type 0 where
  pub goes_on : row.offset ≤ (row_after poll here row).offset
  pub tokens : List (List ℕ)
  pub are_cut : AreCutOf ((row_after poll here row).offset - row.offset) tokens
  pub records : (row_after poll here row).records ≡ row.records + length tokens
  pub lines : (row_after poll here row).lines ≡ row.lines + length (lines_added poll here row)
