-- What a parser makes of an entry.
use Rattle.std.specs.Prelude.{Option, None, Some, Result, Ok, Err}
use Rattle.entry_model.specs.Datum.{Datum, Members}
use Rattle.entry_model.specs.LogRecord.{LogRecord}
use Rattle.field_ops.specs.Rows.{merged}
use Rattle.field_paths.specs.Place.{Place}
use Rattle.field_paths.specs.ValueAt.{datum_at}
use Rattle.op_kinds.specs.Said.{Reader, said}
use Rattle.time_severity.specs.Gradings.{Grading, graded}
use Rattle.time_severity.specs.Times.{timed}
use Rattle.time_severity.specs.declared.time_op.TimeKind.{TimeKind}

-- the time that the value at a place tells
pub record Stamp : Type 0 where
  pub from : Place
  pub kind : TimeKind

pub record Parsing : Type 0 where
  pub reader : Reader
  pub from : Place
  pub to : Place
  pub timestamp : Option Stamp
  pub severity : Option Grading

abbrev pub stamp : Place → TimeKind → Stamp
stamp from kind = record { from = from; kind = kind }

abbrev pub parsing : Reader → Place → Place → Option Stamp → Option Grading → Parsing
parsing reader from to timestamp severity = record { reader = reader; from = from; to = to; timestamp = timestamp; severity = severity }

-- an entry that is made, whatever the fault is where there is none
abbrev pub if_made : {F : Type 0} → Result LogRecord F → Option LogRecord
if_made (Ok entry) = Some entry
if_made (Err _) = None

abbrev pub then_so : {A : Type 0} → Option A → (A → Option LogRecord) → Option LogRecord
then_so None next = None
then_so (Some x) next = next x

-- what the value at a place says; none where there is none
abbrev pub said_at : Reader → Option Datum → Option Members
said_at reader None = None
said_at reader (Some value) = said reader value

-- with the members that the value at `from` says put in at `to`, each in the place of one with its name
unfoldable pub with_said : Parsing → LogRecord → Option LogRecord
with_said parsing entry = then_so (said_at parsing.reader (datum_at parsing.from entry)) (λ members. if_made (merged parsing.to members entry))

abbrev pub timed_by : Option Stamp → LogRecord → Option LogRecord
timed_by None entry = Some entry
timed_by (Some stamp) entry = if_made (timed stamp.from stamp.kind entry)

abbrev pub graded_by : Option Grading → LogRecord → Option LogRecord
graded_by None entry = Some entry
graded_by (Some grading) entry = if_made (graded grading entry)

-- first the time, then the severity
unfoldable pub stamped : Option Stamp → Option Grading → LogRecord → Option LogRecord
stamped timestamp severity entry = then_so (timed_by timestamp entry) (graded_by severity)

-- What is said is put in, and then the entry is stamped, out of what was put in too. None where any of it can't be done.
abbrev pub parsed : Parsing → LogRecord → Option LogRecord
parsed parsing entry = then_so (with_said parsing entry) (stamped parsing.timestamp parsing.severity)
