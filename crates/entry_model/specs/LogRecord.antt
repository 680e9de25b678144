-- What an entry is: the log record of the OpenTelemetry Logs Data Model that it stands for.
use Rattle.std.specs.Prelude.{ℕ, List, [], Option, None}
use Rattle.entry_model.specs.Datum.{Datum, null, boolean, int, text, list, fields, Members, no_members, datum}
use Rattle.entry_model.specs.declared.entry.Entry.{Entry}

pub record LogRecord : Type 0 where
  pub body : Datum
  pub attributes : Members
  pub resource : Members
  -- in nanoseconds since 1970-01-01T00:00:00Z
  pub timestamp : Option ℕ
  -- 0 where none is known
  pub severity : ℕ
  pub severity_text : List ℕ

abbrev pub members_in : Datum → Members
members_in null = no_members
members_in (boolean b) = no_members
members_in (int z) = no_members
members_in (text bytes) = no_members
members_in (list items) = no_members
members_in (fields members) = members

abbrev pub log_record : Entry → LogRecord
log_record entry = record {
  body = datum entry.body;
  attributes = members_in (datum entry.attributes);
  resource = members_in (datum entry.resource);
  timestamp = entry.timestamp;
  severity = entry.severity.number;
  severity_text = entry.severity_text;
}

-- a record with a text as its body, and nothing else
abbrev pub of_text : List ℕ → LogRecord
of_text body = record {
  body = text body;
  attributes = no_members;
  resource = no_members;
  timestamp = None;
  severity = 0;
  severity_text = [];
}
