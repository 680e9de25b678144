-- One look of a poll at a file, what it finds, and what it makes of the rows.
use Rattle.std.specs.Prelude.{ℕ, ◌+◌, ◌-◌, ◌≤◌, ◌==◌, nat_lt, nat_le, min, not, List, [], ◌∷◌, ◌++◌, length, take, drop, Bool, ◌&&◌, ◌||◌, if◌then◌else◌, Option, None, Some, slice_get, slice_set, IfSome}
use Rattle.std.specs.List.{position_or_len}
use Rattle.std.specs.Str.{bytes_eq}
use Rattle.entry_model.specs.LogRecord.{LogRecord}
use Rattle.idle_flush.specs.Looked.{looked}
use Rattle.idle_flush.specs.declared.idle.Idle.{Idle}
use Rattle.outside.specs.World.{History, bytes}
use Rattle.standing.specs.Limits.{row_limit, most_taken, is_compressed}
use Rattle.standing.specs.Marks.{Mark, numbered}
use Rattle.standing.specs.Moments.{LookAt, IsNamed}
use Rattle.standing.specs.Poll.{Poll}
use Rattle.standing.specs.Prefixes.{begins}
use Rattle.standing.specs.Rows.{Row}
use Rattle.standing.specs.Rules.{Rules, Includes}
use Rattle.standing.specs.Tokens.{tokens_of, used}

pub record Look : Type 0 where
  pub path : List ℕ
  pub file : ℕ
  -- the history up to the look
  pub moment : History
  -- the place up to which the file could be read
  pub end : ℕ
  -- not even its front could be read
  pub skipped : Bool

-- the file's bytes then
abbrev pub content : Look → List ℕ
content here = bytes here.moment here.file

abbrev pub size : Look → ℕ
size here = length (content here)

abbrev pub front : Rules → Look → List ℕ
front rules here = take rules.front_size (content here)

-- the look found the file under its path, which is to be read, and its end isn't past the file's
pub record ComesAt (rules : Rules) (here : Look) (history : History) : Type 0 where
  pub looks : LookAt history here.file here.moment
  pub under : IsNamed here.moment here.path here.file
  pub included : Includes rules here.path
  pub end_within : here.end ≤ size here

pub data Outcome : Type 0 where
  skips : Outcome
  finds_nothing : Outcome
  finds_compressed : Outcome
  -- no row is the file's, and no more rows can be had
  finds_no_room : Outcome
  -- no row is the file's, and one is made
  finds_new : Outcome
  -- the row at this place is the file's
  finds_row : ℕ → Row → Outcome

-- the place of the first row whose front begins these bytes
abbrev pub place_of : List ℕ → List Row → ℕ
place_of bytes rows = position_or_len (λ (row : Row). begins row.front bytes) rows

abbrev pub outcome_at : List Row → ℕ → Option Row → Outcome
outcome_at rows place (Some row) = finds_row place row
outcome_at rows place None = if nat_lt (length rows) row_limit then finds_new else finds_no_room

unfoldable pub outcome : Rules → List Row → Look → Outcome
outcome rules rows here =
    if here.skipped then skips
    else (if size here == 0 then finds_nothing
    else (if is_compressed (front rules here) then finds_compressed
    else outcome_at rows (place_of (front rules here) rows) (slice_get rows (place_of (front rules here) rows))))

-- a new row begins at the file's beginning, or, in a first poll that asks for it, at its end
abbrev pub start_of : Poll → Look → ℕ
start_of poll here = if poll.first && poll.rules.from_end then size here else 0

abbrev pub new_row : Poll → Look → ℕ → Row
new_row poll here id = record {
  id = id;
  path = here.path;
  front = front poll.rules here;
  start = start_of poll here;
  offset = start_of poll here;
  records = 0;
  lines = 0;
  state = poll.rules.fresh;
  born = poll.era;
  ends = [];
  seen = 0;
  quiet = 0;
}

-- the bytes that are taken from the offset on
abbrev pub piece : Look → ℕ → List ℕ
piece here offset = take (min here.end (offset + most_taken) - offset) (drop offset (content here))

-- the tokens of the bytes are taken
abbrev pub fed : Rules → List ℕ → Row → Row
fed rules bytes row = record row {
  offset = row.offset + used rules bytes;
  records = row.records + length (tokens_of rules bytes);
  lines = row.lines + length (rules.made row.path row.records row.state (tokens_of rules bytes));
  state = rules.state_after row.path row.records row.state (tokens_of rules bytes);
}

abbrev pub lines_of : Poll → List ℕ → Row → List Mark
lines_of poll bytes row = numbered row.id (row.lines + 1) poll.stamp (poll.rules.made row.path row.records row.state (tokens_of poll.rules bytes))

-- a row, and the lines that were made of its file
pub record Taken : Type 0 where
  pub row : Row
  pub lines : List Mark

-- the tokens of a piece are taken
abbrev pub piece_taken : Poll → Look → Row → Taken
piece_taken poll here row = record { row = fed poll.rules (piece here row.offset) row; lines = lines_of poll (piece here row.offset) row }

-- The file's end was read up to, and what waits may be flushed.
abbrev pub looks_on : Rules → Look → ℕ → Bool
looks_on rules here offset = nat_lt 0 rules.flush_after && (here.end == size here && nat_le (size here) (offset + most_taken))

-- bytes of the file wait, or its operators hold something back
abbrev pub is_pending : Rules → Look → Row → Bool
is_pending rules here row = nat_lt row.offset (size here) || not (bytes_eq row.state rules.fresh)

-- what is remembered of the look
abbrev pub noted : Idle → Row → Row
noted idle row = record row { seen = idle.seen; quiet = idle.quiet }

-- the tokens of the bytes that wait
abbrev pub rest_of : Rules → Look → Row → List (List ℕ)
rest_of rules here row = rules.rest (drop row.offset (content here))

-- what comes out for them, and then when the operators are closed
abbrev pub rest_output : Rules → Look → Row → List LogRecord
rest_output rules here row =
    rules.made row.path row.records row.state (rest_of rules here row)
    ++ rules.closed (rules.state_after row.path row.records row.state (rest_of rules here row))

-- All of the file is taken, and no group is left open.
abbrev pub flushed : Rules → Look → Row → Row
flushed rules here row = record row {
  offset = size here;
  records = row.records + length (rest_of rules here row);
  lines = row.lines + length (rest_output rules here row);
  state = rules.fresh;
}

abbrev pub noted_or_flushed : Poll → Look → Idle × Bool → Taken → Taken
noted_or_flushed poll here look before =
    let row : Row = noted look.0 before.row in
    if look.1
    then record { row = flushed poll.rules here row; lines = before.lines ++ numbered row.id (row.lines + 1) poll.stamp (rest_output poll.rules here row) }
    else record { row = row; lines = before.lines }

-- what waits is flushed where the file has stood still for so many looks
abbrev pub look_taken : Poll → Look → Taken → Taken
look_taken poll here before =
    noted_or_flushed poll here
    (looked (record { seen = before.row.seen; quiet = before.row.quiet }) (size here) (is_pending poll.rules here before.row) poll.rules.flush_after)
    before

unfoldable pub all_taken : Poll → Look → Row → Taken
all_taken poll here row =
    if looks_on poll.rules here row.offset then look_taken poll here (piece_taken poll here row) else piece_taken poll here row

-- the front becomes what was seen, and a file that isn't shorter than the offset is read on
unfoldable pub row_after : Poll → Look → Row → Row
row_after poll here row =
    let grown : Row = record row { front = front poll.rules here } in
    if nat_lt (size here) row.offset then grown else (all_taken poll here grown).row

unfoldable pub lines_added : Poll → Look → Row → List Mark
lines_added poll here row = if nat_lt (size here) row.offset then [] else (all_taken poll here row).lines

-- the rows, the id of the next one, and the lines of this poll
pub record Progress : Type 0 where
  pub rows : List Row
  pub next_id : ℕ
  pub added : List Mark

abbrev pub progress_after : Poll → Look → Progress → Outcome → Progress
progress_after poll here before skips = before
progress_after poll here before finds_nothing = before
progress_after poll here before finds_compressed = before
progress_after poll here before finds_no_room = before
progress_after poll here before finds_new = record {
  rows = before.rows ++ row_after poll here (new_row poll here before.next_id) ∷ [];
  next_id = before.next_id + 1;
  added = before.added ++ lines_added poll here (new_row poll here before.next_id);
}
progress_after poll here before (finds_row place row) = record {
  rows = slice_set before.rows place (row_after poll here row);
  next_id = before.next_id;
  added = before.added ++ lines_added poll here row;
}

abbrev pub after_look : Poll → Look → Progress → Progress
after_look poll here before = progress_after poll here before (outcome poll.rules before.rows here)

-- the offset of the file's row at the look, where it has one
abbrev pub offset_found : Poll → Look → Outcome → Option ℕ
offset_found poll here skips = None
offset_found poll here finds_nothing = None
offset_found poll here finds_compressed = None
offset_found poll here finds_no_room = None
offset_found poll here finds_new = Some (start_of poll here)
offset_found poll here (finds_row place row) = Some row.offset

-- a file that isn't shorter than its row's offset could be read up to there
abbrev pub ReadsOn : Poll → Look → Outcome → Type 0
ReadsOn poll here found = IfSome (offset_found poll here found) (λ offset. offset ≤ size here → offset ≤ here.end)
