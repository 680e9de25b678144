-- The line of an entry: the JSON of an ExportLogsServiceRequest with one record, without blanks and with each
-- object's keys in byte order, and LF.
use Rattle.std.specs.Prelude.{ℕ, List, ◌++◌, Option, codes, decimal}
use Rattle.entry_model.specs.LogRecord.{LogRecord}
use Rattle.otlp_json.specs.RecordText.{attributes_text, record_text}

-- the resource and the record, with the time at which it was observed where there is one
unfoldable pub line_front : Option ℕ → LogRecord → List ℕ
line_front observed entry =
    codes "{\"resourceLogs\":[{\"resource\":{\"attributes\":" ++ attributes_text entry.resource
    ++ codes "},\"scopeLogs\":[{\"logRecords\":[" ++ record_text observed entry
    ++ codes "],\"scope\":{\"attributes\":[{\"key\":"

-- the scope from its first key on: the file's id and the number of the line among that file's lines
unfoldable pub line_tail : ℕ → ℕ → List ℕ
line_tail id number =
    codes "\"agent.file\",\"value\":{\"intValue\":\"" ++ decimal id
    ++ codes "\"}},{\"key\":\"agent.line\",\"value\":{\"intValue\":\"" ++ decimal number
    ++ codes "\"}}],\"name\":\"stanza_agent\"}}]}]}\n"

unfoldable pub output_line : ℕ → ℕ → Option ℕ → LogRecord → List ℕ
output_line id number observed entry = line_front observed entry ++ line_tail id number
