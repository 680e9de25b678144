-- What is made of a row whose file was read on: the tokens of what was read are taken, and where the file was read up to its end,
-- what waits behind them may be flushed.
use Rattle.std.specs.Prelude.{ℕ, ◌+◌, nat_lt, nat_le, not, List, [], ◌++◌, length, drop, Bool, false, ◌&&◌, ◌||◌, if◌then◌else◌}
use Rattle.std.specs.Str.{bytes_eq}
use Rattle.idle_flush.specs.Looked.{looked}
use Rattle.idle_flush.specs.declared.idle.Idle.{Idle}
use Rattle.pipeline.specs.RowStates.{rest_made}
use Rattle.standing.specs.Limits.{most_taken}
use Rattle.standing.specs.Look.{fed, lines_of, noted}
use Rattle.standing.specs.Marks.{Mark, numbered}
use Rattle.standing.specs.Poll.{Poll}
use Rattle.standing.specs.Rows.{Row}
use Rattle.standing.specs.Rules.{Rules}
use Rattle.standing.specs.Tokens.{used}
use Rattle.file_pass.specs.declared.ending.Ending.{Ending}
use Rattle.file_pass.specs.declared.ending.Ending.TheVariants.{Whole, Failed, Shrunk}

-- what no token used
abbrev pub waiting : Rules → List ℕ → List ℕ
waiting rules given = drop (used rules given) given

-- the file, which has this size, was read from the offset up to its end, and what waits may be flushed
abbrev pub looks_on : Rules → ℕ → Ending → ℕ → Bool
looks_on rules size Whole offset = nat_lt 0 rules.flush_after && nat_le size (offset + most_taken)
looks_on rules size Failed offset = false
looks_on rules size Shrunk offset = false

-- bytes of the file wait behind the row's offset, or its operators hold something back
abbrev pub is_waiting : Rules → ℕ → Row → Bool
is_waiting rules size row = nat_lt row.offset size || not (bytes_eq row.state rules.fresh)

-- what is remembered of a look that found this size, and whether what waits is flushed
abbrev pub look_of : Rules → ℕ → Row → Idle × Bool
look_of rules size row = looked (record { seen = row.seen; quiet = row.quiet }) size (is_waiting rules size row) rules.flush_after

-- the row has taken these bytes as the last ones of its file, which has this size, and no group is open
abbrev pub with_rest : Rules → ℕ → List ℕ → Row → Row
with_rest rules size bytes row = record row {
  offset = size;
  records = row.records + length (rules.rest bytes);
  lines = row.lines + length (rest_made rules bytes row);
  state = rules.fresh;
}

abbrev pub rest_lines : Poll → List ℕ → Row → List Mark
rest_lines poll bytes row = numbered row.id (row.lines + 1) poll.stamp (rest_made poll.rules bytes row)

-- The look is remembered, and these bytes, which wait behind the row's offset, are flushed where it says so.
abbrev pub row_looked : Rules → ℕ → List ℕ → Row → Row
row_looked rules size bytes row =
    let now : Row = noted (look_of rules size row).0 row in
    if (look_of rules size row).1 then with_rest rules size bytes now else now

abbrev pub lines_looked : Poll → ℕ → List ℕ → Row → List Mark
lines_looked poll size bytes row = if (look_of poll.rules size row).1 then rest_lines poll bytes row else []

-- the row of a file of this size, of which these bytes were read from its offset on
unfoldable pub row_read : Rules → ℕ → Ending → List ℕ → Row → Row
row_read rules size ending given row =
    let now : Row = fed rules given row in
    if looks_on rules size ending row.offset then row_looked rules size (waiting rules given) now else now

-- and the lines that it gave
unfoldable pub lines_read : Poll → ℕ → Ending → List ℕ → Row → List Mark
lines_read poll size ending given row =
    let now : Row = fed poll.rules given row in
    lines_of poll given row ++ (if looks_on poll.rules size ending row.offset then lines_looked poll size (waiting poll.rules given) now else [])

-- whether what waited was flushed
unfoldable pub is_flushed : Rules → ℕ → Ending → List ℕ → Row → Bool
is_flushed rules size ending given row = looks_on rules size ending row.offset && (look_of rules size (fed rules given row)).1
