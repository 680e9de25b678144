-- What becomes of an entry that is joined with others.
use Rattle.std.specs.Prelude.{ℕ, List, [], Bool, Option, None, Some, option_and_then, unwrap_or, Result, Ok, Err}
use Rattle.entry_model.specs.LogRecord.{LogRecord}
use Rattle.field_paths.specs.Place.{Place}
use Rattle.field_paths.specs.ValueAt.{datum_at}
use Rattle.recombine.specs.Group.{Group}
use Rattle.recombine.specs.Joining.{Joining}
use Rattle.recombine.specs.Recombined.{Arrival, Refusal, Made, text_in, recombined}

-- the source of an entry: the text at a place, and else the empty text
abbrev pub source_of : Option Place → LogRecord → List ℕ
source_of None entry = []
source_of (Some place) entry = unwrap_or (option_and_then text_in (datum_at place entry)) []

abbrev pub arrival : List ℕ → Bool → LogRecord → Arrival
arrival source mark entry = record { source = source; mark = mark; entry = entry }

abbrev pub if_taken : Result Made Refusal → Option Made
if_taken (Ok made) = Some made
if_taken (Err refusal) = None

-- the groups from then on, and what is sent on; none where the entry isn't taken
unfoldable pub joined_in : Joining → List Group → Arrival → Option Made
joined_in joining groups arrival = if_taken (recombined joining groups arrival)

-- an entry of which it isn't known whether it is marked isn't taken
abbrev pub joined_by : Joining → List Group → List ℕ → LogRecord → Option Bool → Option Made
joined_by joining groups source entry None = None
joined_by joining groups source entry (Some mark) = joined_in joining groups (arrival source mark entry)
