-- A line in three parts: what it tells of its entry, what the lines of a file share, and what follows from its number on.
use Rattle.std.specs.Prelude.{ℕ, List, ◌++◌, Option, codes, decimal}
use Rattle.entry_model.specs.Datum.{Members}
use Rattle.entry_model.specs.LogRecord.{LogRecord}
use Rattle.otlp_json.specs.RecordText.{attributes_text, body_text, severity_number_text, severity_name_text, observed_text, time_text}

-- the record from its first member's value on, without the closing brace
unfoldable pub record_members : Option ℕ → LogRecord → List ℕ
record_members observed entry =
    attributes_text entry.attributes
    ++ body_text entry.body
    ++ observed_text observed
    ++ severity_number_text entry.severity
    ++ severity_name_text entry.severity_text
    ++ time_text entry.timestamp

-- up to the record's closing brace
unfoldable pub entry_text : Option ℕ → LogRecord → List ℕ
entry_text observed entry =
    codes "{\"resourceLogs\":[{\"resource\":{\"attributes\":" ++ attributes_text entry.resource
    ++ codes "},\"scopeLogs\":[{\"logRecords\":[{\"attributes\":" ++ record_members observed entry

-- up to the value of the record's first member, for the members of the resource
unfoldable pub resource_text : Members → List ℕ
resource_text resource =
    codes "{\"resourceLogs\":[{\"resource\":{\"attributes\":" ++ attributes_text resource
    ++ codes "},\"scopeLogs\":[{\"logRecords\":[{\"attributes\":"

-- from the record's closing brace up to the line's number
unfoldable pub scope_text : ℕ → List ℕ
scope_text id =
    codes "}],\"scope\":{\"attributes\":[{\"key\":\"agent.file\",\"value\":{\"intValue\":\"" ++ decimal id
    ++ codes "\"}},{\"key\":\"agent.line\",\"value\":{\"intValue\":\""

abbrev pub end_text : ℕ → List ℕ
end_text number = decimal number ++ codes "\"}}],\"name\":\"stanza_agent\"}}]}]}\n"
