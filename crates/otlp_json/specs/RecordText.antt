-- The JSON of a LogRecord (opentelemetry/proto/logs/v1/logs.proto), with its keys in byte order.
use Rattle.std.specs.Prelude.{ℕ, List, [], ◌∷◌, ◌++◌, ◌==◌, if◌then◌else◌, Option, None, Some, codes, decimal}
use Rattle.entry_model.specs.Datum.{Datum, null, Members}
use Rattle.entry_model.specs.LogRecord.{LogRecord}
use Rattle.otlp_json.specs.Escaped.{escaped}
use Rattle.otlp_json.specs.ValueText.{value_text, members_text}

-- a list of KeyValue
abbrev pub attributes_text : Members → List ℕ
attributes_text members = codes "[" ++ members_text [] members ++ codes "]"

-- the same without the bracket that ends it
abbrev pub opened_attributes : Members → List ℕ
opened_attributes members = codes "[" ++ members_text [] members

-- the member `body`, left out where there is none
abbrev pub body_text : Datum → List ℕ
body_text null = []
body_text body = codes ",\"body\":" ++ value_text body

-- the member `severityNumber`, left out where it is 0
abbrev pub severity_number_text : ℕ → List ℕ
severity_number_text severity = (if severity == 0 then [] else codes ",\"severityNumber\":" ++ decimal severity)

-- the member `severityText`, left out where it is empty
abbrev pub severity_name_text : List ℕ → List ℕ
severity_name_text [] = []
severity_name_text (first ∷ rest) = codes ",\"severityText\":\"" ++ escaped (first ∷ rest) ++ codes "\""

-- a member that is a 64-bit integer, behind the text that opens it, left out where there is none
abbrev pub nanoseconds_text : List ℕ → Option ℕ → List ℕ
nanoseconds_text opening None = []
nanoseconds_text opening (Some nanoseconds) = opening ++ decimal nanoseconds ++ codes "\""

-- the member `observedTimeUnixNano`, and what opens it
abbrev pub observed_opening : List ℕ
observed_opening = codes ",\"observedTimeUnixNano\":\""

abbrev pub observed_text : Option ℕ → List ℕ
observed_text observed = nanoseconds_text observed_opening observed

-- the member `timeUnixNano`
abbrev pub time_text : Option ℕ → List ℕ
time_text time = nanoseconds_text (codes ",\"timeUnixNano\":\"") time

-- `observed` is when the record was read, where that is told
unfoldable pub record_text : Option ℕ → LogRecord → List ℕ
record_text observed entry =
    codes "{\"attributes\":" ++ attributes_text entry.attributes
    ++ body_text entry.body
    ++ observed_text observed
    ++ severity_number_text entry.severity
    ++ severity_name_text entry.severity_text
    ++ time_text entry.timestamp
    ++ codes "}"
