-- What messages of syslog tell, computed, and what is made of an entry of which a value is one. `laws` has that what they
-- tell is what the grammars of the crate syslog_parser say.
use Rattle.std.specs.Prelude.{ℕ, ◌==◌, nat_le, ◌&&◌, Bool, if◌then◌else◌, List, [], ◌∷◌, length, take, drop, codes, bytes_eq, ℤ, pos, Option, None, Some, option_map, Ok, Err}
use Rattle.std.specs.Char.{is_ascii_digit}
use Rattle.std.specs.Int.{is_in_range}
use Rattle.std.specs.List.{prefix_len}
use Rattle.std.specs.Option.{option_and_then}
use Rattle.std.specs.Result.{result_ok}
use Rattle.case_table.specs.Rows.{first_code}
use Rattle.case_table.specs.Tables.{month_table}
use Rattle.entry_model.specs.Datum.{Datum, null, boolean, int, text, list, fields}
use Rattle.entry_model.specs.LogRecord.{LogRecord}
use Rattle.field_ops.specs.Rows.{merged}
use Rattle.field_paths.specs.Place.{Place}
use Rattle.field_paths.specs.ValueAt.{datum_at}
use Rattle.op_kinds.specs.Parsing.{if_made}
use Rattle.op_kinds.specs.declared.types.syslog_parsing.Protocol.{Protocol}
use Rattle.op_kinds.specs.declared.types.syslog_parsing.Protocol.TheVariants.{Rfc5424, Rfc3164}
use Rattle.syslog_parser.specs.Bytes.{is_not_space}
use Rattle.syslog_parser.specs.Rfc3164 as rfc3164
use Rattle.syslog_parser.specs.Rfc5424 as rfc5424
use Rattle.syslog_parser.specs.Stamps.{day_and_clock, of_month}
use Rattle.syslog_parser.specs.States3164 as states3164
use Rattle.syslog_parser.specs.States5424 as states5424
use Rattle.syslog_parser.specs.Told.{Meaning, meaning_3164, meaning_5424}
use Rattle.time_layout.specs.Atoms.{Reading, value_of}
use Rattle.time_layout.specs.Iso.{rfc3339_parts}
use Rattle.time_layout.specs.Parts.{layout_read, parts_read}
use Rattle.time_layout.specs.declared.parts.Said.{Said}
use Rattle.time_severity.specs.Times.{instant_read, instant_said}

-- the bytes of a kind at the front of a text
abbrev pub run : (ℕ → Bool) → List ℕ → List ℕ
run kind bytes = take (prefix_len kind bytes) bytes

abbrev pub behind_run : (ℕ → Bool) → List ℕ → List ℕ
behind_run kind bytes = drop (prefix_len kind bytes) bytes

-- ---- the heads of messages: what they tell, and what stands behind it

-- one to three digits, and a number that is at most 191
abbrev pub is_priority : List ℕ → Bool
is_priority digits = is_in_range 1 3 (length digits) && nat_le (value_of digits) 191

abbrev pub closed : List ℕ → List ℕ → Option (ℕ × List ℕ)
closed digits [] = None
closed digits (byte ∷ rest) = if (byte == 62) && is_priority digits then Some (value_of digits, rest) else None

-- `<PRI>`
unfoldable pub priority_in : List ℕ → Option (ℕ × List ℕ)
priority_in [] = None
priority_in (byte ∷ rest) = if byte == 60 then closed (run is_ascii_digit rest) (behind_run is_ascii_digit rest) else None

-- behind version 1 and a space
unfoldable pub behind_version : List ℕ → Option (List ℕ)
behind_version [] = None
behind_version (byte ∷ []) = None
behind_version (byte ∷ next ∷ rest) = if (byte == 49) && (next == 32) then Some rest else None

-- a value with a space behind it
abbrev pub spaced : {A : Type 0} → Option A → List ℕ → Option (A × List ℕ)
spaced value [] = None
spaced value (byte ∷ rest) = if byte == 32 then option_map (λ x. (x, rest)) value else None

-- `-`, or a time of RFC 3339
abbrev pub stamp_in : List ℕ → Option (Option ℕ)
stamp_in own = if bytes_eq own (45 ∷ []) then Some None else option_map (λ instant. Some instant) (instant_read (layout_read (rfc3339_parts 6) (pos 0) own))

unfoldable pub stamp_at : List ℕ → Option (Option ℕ × List ℕ)
stamp_at bytes = spaced (stamp_in (run is_not_space bytes)) (behind_run is_not_space bytes)

-- a day and a time of day, which are 12 bytes
abbrev pub clock_read : Reading Said → Option ℕ
clock_read (Ok read) = if read.1 == 12 then instant_said read.0 else None
clock_read (Err fault) = None

abbrev pub date_of : ℕ → ℤ → List ℕ → Option ℕ → Option ℕ
date_of year location clock None = None
date_of year location clock (Some month) = clock_read (parts_read day_and_clock clock 0 (of_month year month location))

-- `Mmm dd hh:mm:ss`, a day of this year
abbrev pub date_in : ℕ → ℤ → List ℕ → Option ℕ
date_in year location own = date_of year location (drop 3 own) (first_code (bytes_eq (take 3 own)) month_table)

unfoldable pub date_at : ℕ → ℤ → List ℕ → Option (ℕ × List ℕ)
date_at year location bytes = spaced (date_in year location (take 15 bytes)) (drop 15 bytes)

-- ---- messages

abbrev pub message_5424 : ℕ → Option ℕ → rfc5424.Tail → rfc5424.Message
message_5424 priority time tail = record { priority = priority; time = time; tail = tail }

abbrev pub message_3164 : ℕ → ℕ → rfc3164.Tail → rfc3164.Message
message_3164 priority time tail = record { priority = priority; time = time; tail = tail }

abbrev pub tail_5424 : ℕ → Option ℕ × List ℕ → Option rfc5424.Message
tail_5424 priority time = option_map (message_5424 priority time.0) (result_ok (states5424.outcome states5424.start time.1))

abbrev pub timed_5424 : ℕ → List ℕ → Option rfc5424.Message
timed_5424 priority bytes = option_and_then (tail_5424 priority) (stamp_at bytes)

abbrev pub versioned_5424 : ℕ × List ℕ → Option rfc5424.Message
versioned_5424 head = option_and_then (timed_5424 head.0) (behind_version head.1)

unfoldable pub read_5424 : List ℕ → Option rfc5424.Message
read_5424 bytes = option_and_then versioned_5424 (priority_in bytes)

abbrev pub tail_3164 : ℕ → ℕ × List ℕ → Option rfc3164.Message
tail_3164 priority time = option_map (message_3164 priority time.0) (result_ok (states3164.outcome (states3164.in_host []) time.1))

abbrev pub dated_3164 : ℕ → ℤ → ℕ × List ℕ → Option rfc3164.Message
dated_3164 year location head = option_and_then (tail_3164 head.0) (date_at year location head.1)

unfoldable pub read_3164 : ℕ → ℤ → List ℕ → Option rfc3164.Message
read_3164 year location bytes = option_and_then (dated_3164 year location) (priority_in bytes)

abbrev pub told_by : Protocol → List ℕ → Option Meaning
told_by Rfc5424 bytes = option_map meaning_5424 (read_5424 bytes)
told_by (Rfc3164 year location) bytes = option_map meaning_3164 (read_3164 year location bytes)

-- what a value tells, which has to be a text
abbrev pub told : Protocol → Datum → Option Meaning
told protocol null = None
told protocol (boolean b) = None
told protocol (int z) = None
told protocol (text bytes) = told_by protocol bytes
told protocol (list items) = None
told protocol (fields under) = None

abbrev pub told_at : Protocol → Option Datum → Option Meaning
told_at protocol None = None
told_at protocol (Some value) = told protocol value

-- ---- entries

-- emerg, alert, crit, err, warning, notice, info and debug as severities of the OpenTelemetry Logs Data Model
abbrev pub severity_number : ℕ → ℕ
severity_number severity =
    if severity == 0 then 21 else (
    if severity == 1 then 19 else (
    if severity == 2 then 18 else (
    if severity == 3 then 17 else (
    if severity == 4 then 13 else (
    if severity == 5 then 10 else (
    if severity == 6 then 9 else 5))))))

abbrev pub severity_name : ℕ → List ℕ
severity_name severity =
    if severity == 0 then codes "emerg" else (
    if severity == 1 then codes "alert" else (
    if severity == 2 then codes "crit" else (
    if severity == 3 then codes "err" else (
    if severity == 4 then codes "warning" else (
    if severity == 5 then codes "notice" else (
    if severity == 6 then codes "info" else codes "debug"))))))

-- an entry keeps its time where the message has none
abbrev pub time_or : Option ℕ → Option ℕ → Option ℕ
time_or None own = own
time_or (Some instant) own = Some instant

-- the entry with the time and the severity of a message
abbrev pub stamped_by : Meaning → LogRecord → LogRecord
stamped_by meaning entry = record entry {
  timestamp = time_or meaning.timestamp entry.timestamp;
  severity = severity_number meaning.severity;
  severity_text = severity_name meaning.severity;
}

abbrev pub with_meaning : Place → LogRecord → Meaning → Option LogRecord
with_meaning to entry meaning = option_map (stamped_by meaning) (if_made (merged to meaning.members entry))

-- The members that the message at `from` tells are put in at `to`, each in the place of one with its name, and the entry has
-- its severity, and its time where it has one. None where there is no message, or where no map can stand at `to`.
unfoldable pub syslogged : Protocol → Place → Place → LogRecord → Option LogRecord
syslogged protocol from to entry = option_and_then (with_meaning to entry) (told_at protocol (datum_at from entry))
