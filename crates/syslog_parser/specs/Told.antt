-- What a message tells, as the members of an entry.
use Rattle.std.specs.Prelude.{ℕ, ◌/◌, ◌%◌, pos, List, [], ◌∷◌, ◌++◌, map, codes, bytes_eq, if◌then◌else◌, Option, None, Some}
use Rattle.std.specs.BTreeMap.{insert_entry}
use Rattle.std.specs.Cmp.Lexicographic.{slice_cmp}
use Rattle.std.specs.Ordering.{nat_cmp}
use Rattle.entry_model.specs.Datum.{Datum, int, text, fields, Members, members_of}
use Rattle.entry_model.specs.Seen.{seen}
use Rattle.syslog_parser.specs.declared.syslog.Syslog.{Syslog}
use Rattle.syslog_parser.specs.Rfc3164 as rfc3164
use Rattle.syslog_parser.specs.Rfc5424 as rfc5424
use Rattle.syslog_parser.specs.Structured.{Param, Element}

-- a name and its value
abbrev pub Member : Type 0
Member = List ℕ × Datum

abbrev pub put : List Member → Member → List Member
put members next = insert_entry (slice_cmp nat_cmp) members next.0 next.1

-- the members with these put in behind them, in byte order of the names; of one name the last value stays
abbrev pub put_all : List Member → List Member → List Member
put_all members [] = members
put_all members (next ∷ rest) = put_all (put members next) rest

-- what contracts see of what was read
pub record Meaning : Type 0 where
  pub members : Members
  -- in nanoseconds since 1970-01-01T00:00:00Z
  pub timestamp : Option ℕ
  -- 0 to 7
  pub severity : ℕ

abbrev pub meaning_of : Syslog → Meaning
meaning_of syslog =
    record { members = members_of (seen syslog.fields.entries); timestamp = syslog.timestamp; severity = syslog.severity }

abbrev pub told_priority : ℕ → List Member
told_priority priority = (codes "priority", int (pos priority)) ∷ (codes "facility", int (pos (priority / 8))) ∷ []

-- a field, unless it is `-`
abbrev pub told_field : rfc5424.Valued → List Member
told_field value = (if bytes_eq value.1 (45 ∷ []) then [] else (value.0, text value.1) ∷ [])

abbrev pub told_fields : List rfc5424.Valued → List Member
told_fields [] = []
told_fields (value ∷ values) = told_field value ++ told_fields values

abbrev pub told_param : Param → Member
told_param param = (param.0, text param.1)

-- the parameters by their names
abbrev pub params_datum : List Param → Datum
params_datum params = fields (members_of (put_all [] (map told_param params)))

abbrev pub told_element : Element → Member
told_element element = (element.0, params_datum element.1)

-- the elements by their ids
abbrev pub elements_datum : List Element → Datum
elements_datum elements = fields (members_of (put_all [] (map told_element elements)))

abbrev pub told_data : List Element → List Member
told_data [] = []
told_data (element ∷ elements) = (codes "structured_data", elements_datum (element ∷ elements)) ∷ []

abbrev pub told_message : List ℕ → List Member
told_message [] = []
told_message (byte ∷ bytes) = (codes "message", text (byte ∷ bytes)) ∷ []

abbrev pub told_process : Option (List ℕ) → List Member
told_process None = []
told_process (Some own) = (codes "proc_id", text own) ∷ []

-- a message of RFC 5424
abbrev pub told_5424 : rfc5424.Message → List Member
told_5424 message =
    told_priority message.priority
    ++ ((codes "version", int (pos 1)) ∷ [])
    ++ told_fields message.tail.values
    ++ told_data message.tail.elements
    ++ told_message message.tail.message

abbrev pub meaning_5424 : rfc5424.Message → Meaning
meaning_5424 message =
    record { members = members_of (put_all [] (told_5424 message)); timestamp = message.time; severity = message.priority % 8 }

-- what stands behind the time of RFC 3164
abbrev pub told_sender : rfc3164.Tail → List Member
told_sender tail =
    (codes "hostname", text tail.host) ∷ (codes "appname", text tail.tag) ∷ (told_process tail.process ++ told_message tail.message)

-- a message of RFC 3164
abbrev pub told_3164 : rfc3164.Message → List Member
told_3164 message = told_priority message.priority ++ told_sender message.tail

abbrev pub meaning_3164 : rfc3164.Message → Meaning
meaning_3164 message =
    record { members = members_of (put_all [] (told_3164 message)); timestamp = Some message.time; severity = message.priority % 8 }
