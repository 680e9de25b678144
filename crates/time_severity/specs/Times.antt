-- The time that a value tells, and the entry that is stamped with it.
use Rattle.std.specs.Prelude.{ℕ, List, Bool, ◌&&◌, nat_le, int_le, if◌then◌else◌, ℤ, pos, ◌*ℤ◌, nat_abs, Option, None, Some, Ok, Err}
use Rattle.std.specs.Int.{is_in_range}
use Rattle.entry_model.specs.Datum.{Datum, null, boolean, int, text, list, fields}
use Rattle.entry_model.specs.LogRecord.{LogRecord}
use Rattle.field_paths.specs.Place.{Place}
use Rattle.field_paths.specs.ValueAt.{datum_at}
use Rattle.jiff_core.specs.Calendar.{days_in_month}
use Rattle.time_layout.specs.Atoms.{Reading}
use Rattle.time_layout.specs.Epoch.{unit_of, epoch_read, IsEpochTimeOf}
use Rattle.time_layout.specs.Instant.{nanos_of, IsCounted, IsTimeOf}
use Rattle.time_layout.specs.Parts.{layout_read}
use Rattle.time_layout.specs.declared.parts.Said.{Said}
use Rattle.time_severity.specs.Outcome.{Outcome, where_found}
use Rattle.time_severity.specs.declared.fault.StampFault.TheVariants.{NotTime}
use Rattle.time_severity.specs.declared.time_op.TimeKind.{TimeKind}
use Rattle.time_severity.specs.declared.time_op.TimeKind.TheVariants.{Layout, Epoch}

-- ---- as a relation: the texts of a layout, and counts

-- the value tells this instant, in nanoseconds since 1970-01-01T00:00:00Z
abbrev pub TellsTime : TimeKind → Datum → ℕ → Type 0
TellsTime (Layout layout) null instant = ⊥
TellsTime (Layout layout) (boolean b) instant = ⊥
TellsTime (Layout layout) (int z) instant = ⊥
TellsTime (Layout layout) (text bytes) instant = IsTimeOf (layout_read layout.parts layout.location bytes) (Ok instant)
TellsTime (Layout layout) (list items) instant = ⊥
TellsTime (Layout layout) (fields under) instant = ⊥
TellsTime (Epoch kind) null instant = ⊥
TellsTime (Epoch kind) (boolean b) instant = ⊥
TellsTime (Epoch kind) (int z) instant = IsCounted (z *ℤ pos (unit_of kind)) (Ok instant)
TellsTime (Epoch kind) (text bytes) instant = IsEpochTimeOf (epoch_read kind bytes) (Ok instant)
TellsTime (Epoch kind) (list items) instant = ⊥
TellsTime (Epoch kind) (fields under) instant = ⊥

-- ---- computed

-- an instant has no more than 64 bits
abbrev pub counted : ℤ → Option ℕ
counted nanos = if int_le (pos 0) nanos && int_le nanos (pos 18_446_744_073_709_551_615) then Some (nat_abs nanos) else None

-- the calendar has the day
abbrev pub has_day : Said → Bool
has_day said = nat_le said.year 9999 && (is_in_range 1 12 said.month && is_in_range 1 (days_in_month (pos said.year) said.month) said.day)

abbrev pub instant_said : Said → Option ℕ
instant_said said = if has_day said then counted (nanos_of said) else None

abbrev pub instant_read : Reading Said → Option ℕ
instant_read (Ok read) = instant_said read.0
instant_read (Err fault) = None

abbrev pub count_read : Reading ℕ → Option ℕ
count_read (Ok read) = counted (pos read.0)
count_read (Err fault) = None

abbrev pub time_of_text : TimeKind → List ℕ → Option ℕ
time_of_text (Layout layout) bytes = instant_read (layout_read layout.parts layout.location bytes)
time_of_text (Epoch kind) bytes = count_read (epoch_read kind bytes)

abbrev pub time_of_count : TimeKind → ℤ → Option ℕ
time_of_count (Layout layout) z = None
time_of_count (Epoch kind) z = counted (z *ℤ pos (unit_of kind))

-- the time that a value tells: a text, or a number where the kind counts
abbrev pub time_in : TimeKind → Datum → Option ℕ
time_in kind null = None
time_in kind (boolean b) = None
time_in kind (int z) = time_of_count kind z
time_in kind (text bytes) = time_of_text kind bytes
time_in kind (list items) = None
time_in kind (fields under) = None

abbrev pub timed_at : Option ℕ → LogRecord → Outcome
timed_at None entry = Err NotTime
timed_at (Some instant) entry = Ok (record entry { timestamp = Some instant })

-- the entry with the time that its value at `from` tells; all else stays
abbrev pub timed : Place → TimeKind → LogRecord → Outcome
timed from kind entry = where_found (datum_at from entry) (λ value. timed_at (time_in kind value) entry)
