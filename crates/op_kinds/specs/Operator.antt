-- What an operator is, and what it makes of an entry.
use Rattle.std.specs.Prelude.{ℕ, suc, ◌+◌, List, [], ◌∷◌, length, map, Bool, true, false, if◌then◌else◌, Option, None, Some, option_map, unwrap_or, Result, Ok, Err}
use Rattle.container_parser.specs.declared.format.Format.{Format}
use Rattle.entry_model.specs.Datum.{Datum}
use Rattle.entry_model.specs.LogRecord.{LogRecord}
use Rattle.expr_lang.specs.EvalOutcome.{answers}
use Rattle.expr_lang.specs.Tree.{Tree}
use Rattle.expr_lang.specs.declared.eval.Answer.{Answer}
use Rattle.expr_lang.specs.declared.eval.Answer.TheVariants as answer
use Rattle.field_ops.specs.Outcome.{Outcome}
use Rattle.field_ops.specs.Rows as rows
use Rattle.field_paths.specs.Place.{Place}
use Rattle.graph_core.specs.Behavior.{Behavior}
use Rattle.op_kinds.specs.Parsing.{Parsing, parsed, Stamp, if_made}
use Rattle.op_kinds.specs.Containers.{contained, parts_joined}
use Rattle.op_kinds.specs.Grouping.{joined_by, source_of}
use Rattle.op_kinds.specs.Kept.{Kept, groups, open_groups, fresh_kept}
use Rattle.op_kinds.specs.Syslog.{syslogged}
use Rattle.op_kinds.specs.declared.types.syslog_parsing.Protocol.{Protocol}
use Rattle.recombine.specs.Group.{Group}
use Rattle.recombine.specs.Joining.{Joining}
use Rattle.recombine.specs.Recombined.{entries_of}
use Rattle.recombine.specs.Recombined as join
use Rattle.time_severity.specs.Gradings.{Grading, graded}
use Rattle.time_severity.specs.Times.{timed}

-- what an operator with one output does with an entry
pub data Act : Type 0 where
  noop : Act
  -- the body is read as a line of a container, whose parts are joined
  container : (format : Option Format) → (by_path : Bool) → Act
  move : (from to : Place) → Act
  copy : (from to : Place) → Act
  add : (field : Place) → (value : Datum) → Act
  remove : (field : Place) → Act
  -- the member `name` of the map at `parent` is flattened
  flatten : (parent : Place) → (name : List ℕ) → Act
  retain : (fields : List Place) → Act
  -- an entry for which the expression is true is dropped
  filter : (expr : Tree) → Act
  -- members are made of a value
  parse : (parsing : Parsing) → Act
  -- the time is set that a value tells
  stamp : (told : Stamp) → Act
  -- the severity is set that a value names
  grade : (grading : Grading) → Act
  -- members are made of a message of syslog, and its time and severity are set
  syslog : (protocol : Protocol) → (from to : Place) → Act
  -- entries of one source are joined, where an expression is true for the first or the last of those that belong together
  recombine : (joining : Joining) → (mark : Tree) → (source : Option Place) → Act

pub data Operator : Type 0 where
  -- one output: the act is done on the entries for which the condition is true, or on all where there is none
  conditional : (condition : Option Tree) → (act : Act) → (drops_faulty : Bool) → Operator
  -- an output for each route, and one more where it has a default
  router : (routes : List Tree) → (has_default : Bool) → Operator

abbrev pub port_count : Operator → ℕ
port_count (conditional condition act drops_faulty) = 1
port_count (router routes has_default) = length routes + (if has_default then 1 else 0)

-- ---- what expressions decide

abbrev pub truth_of : Result Answer ℕ → Option Bool
truth_of (Ok answer.True) = Some true
truth_of (Ok answer.False) = Some false
truth_of (Ok answer.Other) = Some false
truth_of (Err at) = None

-- whether an expression is true for an entry; none where it has a fault
abbrev pub holds : Tree → LogRecord → Option Bool
holds expr entry = truth_of (answers expr entry)

-- ---- rows: the entries that an act without groups makes of one; none where it can't be done, or not without groups

-- a row says that there is a fault, and not which
abbrev pub changed : Outcome → Option (List LogRecord)
changed (Ok entry) = Some (entry ∷ [])
changed (Err _) = None

-- one entry, where it is made
abbrev pub alone : Option LogRecord → Option (List LogRecord)
alone made = option_map (λ entry. entry ∷ []) made

abbrev pub filtered : Option Bool → LogRecord → Option (List LogRecord)
filtered (Some true) entry = Some []
filtered (Some false) entry = Some (entry ∷ [])
filtered None entry = None

abbrev pub row : Act → LogRecord → Option (List LogRecord)
row noop entry = Some (entry ∷ [])
row (container format by_path) entry = None
row (move from to) entry = changed (rows.moved from to entry)
row (copy from to) entry = changed (rows.copied from to entry)
row (add field value) entry = changed (rows.added field value entry)
row (remove field) entry = changed (rows.removed field entry)
row (flatten parent name) entry = changed (rows.flattened parent name entry)
row (retain fields) entry = Some (rows.retained fields entry ∷ [])
row (parse parsing) entry = alone (parsed parsing entry)
row (stamp told) entry = alone (if_made (timed told.from told.kind entry))
row (grade grading) entry = alone (if_made (graded grading entry))
row (syslog protocol from to) entry = alone (syslogged protocol from to entry)
row (filter expr) entry = filtered (holds expr entry) entry
row (recombine joining mark source) entry = None

-- ---- operators with one output

-- what is kept from then on, and the entries that are sent on
pub record Made : Type 0 where
  pub kept : Kept
  pub sent : List LogRecord

-- whether an act holds groups
abbrev pub holds_groups : Act → Bool
holds_groups (container format by_path) = true
holds_groups (recombine joining mark source) = true
holds_groups act = false

-- what an act that holds groups makes of these and an entry; none where it can't be done
abbrev pub joined : Act → List Group → LogRecord → Option join.Made
joined (container format by_path) open_now entry = contained format by_path open_now entry
joined (recombine joining mark source) open_now entry = joined_by joining open_now (source_of source entry) entry (holds mark entry)
joined act open_now entry = None

abbrev pub with_groups : join.Made → Made
with_groups made = record { kept = groups made.groups; sent = made.sent }

abbrev pub sending : Kept → List LogRecord → Made
sending kept sent = record { kept = kept; sent = sent }

-- what an act makes of an entry; none where it can't be done
abbrev pub done : Act → Kept → LogRecord → Option Made
done act kept entry = if holds_groups act then option_map with_groups (joined act (open_groups kept) entry) else option_map (sending kept) (row act entry)

-- what it sends on at the end of a run: all groups that are open
abbrev pub closing : Act → Kept → List LogRecord
closing (container format by_path) kept = entries_of parts_joined (open_groups kept)
closing (recombine joining mark source) kept = entries_of joining (open_groups kept)
closing act kept = []

-- an entry for which the condition isn't true goes on unchanged
abbrev pub guarded : Option Bool → Kept → LogRecord → Option Made → Option Made
guarded (Some true) kept entry made = made
guarded (Some false) kept entry made = Some (record { kept = kept; sent = entry ∷ [] })
guarded None kept entry made = None

abbrev pub made : Option Tree → Act → Kept → LogRecord → Option Made
made None act kept entry = done act kept entry
made (Some condition) act kept entry = guarded (holds condition entry) kept entry (done act kept entry)

-- on an error the entry is dropped, or sent on unchanged, and what was kept is kept
abbrev pub or_unchanged : Bool → Kept → LogRecord → Option Made → Made
or_unchanged drops_faulty kept entry (Some made) = made
or_unchanged drops_faulty kept entry None = record { kept = kept; sent = if drops_faulty then [] else entry ∷ [] }

-- entries on the one output
abbrev pub on_one_port : List LogRecord → List (ℕ × LogRecord)
on_one_port entries = map {B = ℕ × LogRecord} (λ entry. (0, entry)) entries

-- ---- routers

-- a fault counts as not true
abbrev pub is_true : Tree → LogRecord → Bool
is_true expr entry = unwrap_or (holds expr entry) false

-- the port of the first route that is true, of those from the n-th port on, or else that of the default
abbrev pub route_port : ℕ → List Tree → Bool → LogRecord → Option ℕ
route_port n [] has_default entry = if has_default then Some n else None
route_port n (route ∷ routes) has_default entry = if is_true route entry then Some n else route_port (suc n) routes has_default entry

abbrev pub routed : Option ℕ → LogRecord → List (ℕ × LogRecord)
routed None entry = []
routed (Some port) entry = (port, entry) ∷ []

-- ---- any operator

abbrev pub has_groups : Operator → Bool
has_groups (conditional condition act drops_faulty) = holds_groups act
has_groups (router routes has_default) = false

-- what an operator keeps behind an entry
abbrev pub after : Operator → Kept → LogRecord → Kept
after (conditional condition act drops_faulty) kept entry = (or_unchanged drops_faulty kept entry (made condition act kept entry)).kept
after (router routes has_default) kept entry = kept

-- what is emitted, each with its port
abbrev pub emitted : Operator → Kept → LogRecord → List (ℕ × LogRecord)
emitted (conditional condition act drops_faulty) kept entry = on_one_port (or_unchanged drops_faulty kept entry (made condition act kept entry)).sent
emitted (router routes has_default) kept entry = routed (route_port 0 routes has_default entry) entry

-- what is emitted at the end of a run
abbrev pub closed : Operator → Kept → List (ℕ × LogRecord)
closed (conditional condition act drops_faulty) kept = on_one_port (closing act kept)
closed (router routes has_default) kept = []

abbrev pub behavior_of : Operator → Behavior Kept LogRecord
behavior_of operator = record {
  first = fresh_kept (has_groups operator);
  after = after operator;
  emitted = emitted operator;
  closed = closed operator;
}
