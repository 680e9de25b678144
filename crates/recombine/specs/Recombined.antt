-- What a recombine makes of an entry that comes: its open groups from then on and the entries that are sent on, or why it
-- takes the entry not.
use Rattle.std.specs.Prelude.{ℕ, Bool, true, false, ◌&&◌, nat_le, List, map, Option, None, Some, option_and_then, unwrap_or, Result, Ok, Err}
use Rattle.entry_model.specs.Datum.{Datum, null, boolean, int, text, list, fields}
use Rattle.entry_model.specs.Lawful.{nesting}
use Rattle.entry_model.specs.LogRecord.{LogRecord}
use Rattle.field_paths.specs.Change.{set_at}
use Rattle.field_paths.specs.ValueAt.{datum_at}
use Rattle.state_codec.specs.Limits.{levels}
use Rattle.recombine.specs.Group.{Group}
use Rattle.recombine.specs.Item.{Item}
use Rattle.recombine.specs.Joining.{Joining}
use Rattle.recombine.specs.Steps.{after, ended}

-- an entry with its source and mark
pub record Arrival : Type 0 where
  pub source : List ℕ
  pub mark : Bool
  pub entry : LogRecord

-- ---- which entries are taken

pub data Refusal : Type 0 where
  -- there is no text at the field
  not_text : Refusal
  -- there is one, and the entry is nested too deep
  too_deep : Refusal

abbrev pub text_in : Datum → Option (List ℕ)
text_in null = None
text_in (boolean b) = None
text_in (int z) = None
text_in (text bytes) = Some bytes
text_in (list items) = None
text_in (fields inside) = None

-- the text at the field, where there is one
unfoldable pub joined_text : Joining → LogRecord → Option (List ℕ)
joined_text joining entry = option_and_then text_in (datum_at joining.field entry)

-- body, attributes and resource are nested no deeper than what is saved may be
unfoldable pub is_shallow : LogRecord → Bool
is_shallow entry = nat_le (nesting entry.body) levels && (nat_le (nesting (fields entry.attributes)) levels && nat_le (nesting (fields entry.resource)) levels)

abbrev pub item_of : Arrival → List ℕ → Item
item_of arrival found = record { source = arrival.source; text = found; mark = arrival.mark; entry = arrival.entry }

abbrev pub judged : Arrival → Option (List ℕ) → Bool → Result Item Refusal
judged arrival None shallow = Err not_text
judged arrival (Some found) false = Err too_deep
judged arrival (Some found) true = Ok (item_of arrival found)

abbrev pub taken : Joining → Arrival → Result Item Refusal
taken joining arrival = judged arrival (joined_text joining arrival.entry) (is_shallow arrival.entry)

-- ---- what is sent on

-- a group goes on as its base with the joined text at the field, or as its base alone where that can't be put there
abbrev pub entry_of : Joining → Group → LogRecord
entry_of joining group = unwrap_or (set_at joining.field (text group.text) group.base) group.base

abbrev pub entries_of : Joining → List Group → List LogRecord
entries_of joining groups = map (entry_of joining) groups

pub record Made : Type 0 where
  pub groups : List Group
  pub sent : List LogRecord

abbrev pub made : Joining → List Group → Item → Made
made joining groups x = record { groups = after joining groups x; sent = entries_of joining (ended joining groups x) }

abbrev pub with_taken : Joining → List Group → Result Item Refusal → Result Made Refusal
with_taken joining groups (Ok x) = Ok (made joining groups x)
with_taken joining groups (Err refusal) = Err refusal

abbrev pub recombined : Joining → List Group → Arrival → Result Made Refusal
recombined joining groups arrival = with_taken joining groups (taken joining arrival)
