-- The operators of the settings, or their one refusal.
use Rattle.std.specs.Prelude.{ℕ, List, [], ◌∷◌, ◌++◌, codes, nat_lt, if◌then◌else◌, Bool, false, ◌||◌, Option, Some, None, Result, Ok, Err}
use Rattle.std.specs.Str.{bytes_eq}
use Rattle.serde_json.specs.Data.{Data, Items}
use Rattle.serde_json.specs.Events.{items_len}
use Rattle.serde_json.specs.Find.{as_array, as_object}
use Rattle.settings_text.specs.declared.fault.SettingsFault.{SettingsFault}
use Rattle.settings_text.specs.declared.fault.SettingsFault.TheVariants.{WrongKind, OutOfRange}
use Rattle.settings_text.specs.declared.settings.OnError.{OnError}
use Rattle.settings_text.specs.declared.settings.OnError.TheVariants.{Send, Drop, SendQuiet, DropQuiet}
use Rattle.settings_text.specs.declared.settings.OpKind.{OpKind}
use Rattle.settings_text.specs.declared.settings.OpKind.TheVariants as kind
use Rattle.settings_text.specs.declared.settings.OpSpec.{OpSpec}
use Rattle.settings_text.specs.declared.operators.Draft.{Draft}
use Rattle.settings_text.specs.declared.operators.OpType.{OpType}
use Rattle.settings_text.specs.declared.operators.OpType.TheVariants.{Noop, Container, Move, Copy, Add, Remove, Flatten, Retain, Filter, Csv, Json, KeyValue, Regex, Time, Severity, Syslog, Router, Recombine}
use Rattle.settings_text.specs.Ids.{default_id}
use Rattle.settings_text.specs.Kinds.{Kind, must, may, known, each, given, name, text, text_or_texts}
use Rattle.settings_text.specs.Outcome.{◌>>=◌, or_fault}
use Rattle.settings_text.specs.Place.{item_place}
use Rattle.settings_text.specs.Types.ContainerReading as container_reading
use Rattle.settings_text.specs.Types.Moving as moving
use Rattle.settings_text.specs.Types.Copying as copying
use Rattle.settings_text.specs.Types.Adding as adding
use Rattle.settings_text.specs.Types.Removing as removing
use Rattle.settings_text.specs.Types.Flattening as flattening
use Rattle.settings_text.specs.Types.Retaining as retaining
use Rattle.settings_text.specs.Types.Filtering as filtering
use Rattle.settings_text.specs.Types.CsvParsing as csv_parsing
use Rattle.settings_text.specs.Types.JsonParsing as json_parsing
use Rattle.settings_text.specs.Types.KeyValueParsing as key_value_parsing
use Rattle.settings_text.specs.Types.RegexParsing as regex_parsing
use Rattle.settings_text.specs.Types.TimeParsing as time_parsing
use Rattle.settings_text.specs.Types.SeverityParsing as severity_parsing
use Rattle.settings_text.specs.Types.SyslogParsing as syslog_parsing
use Rattle.settings_text.specs.Types.Routing as routing
use Rattle.settings_text.specs.Types.Recombining as recombining

-- ---- the table of types

abbrev pub type_named : List ℕ → Option OpType
type_named name =
    if bytes_eq name (codes "noop") then Some Noop else (
    if bytes_eq name (codes "container") then Some Container else (
    if bytes_eq name (codes "move") then Some Move else (
    if bytes_eq name (codes "copy") then Some Copy else (
    if bytes_eq name (codes "add") then Some Add else (
    if bytes_eq name (codes "remove") then Some Remove else (
    if bytes_eq name (codes "flatten") then Some Flatten else (
    if bytes_eq name (codes "retain") then Some Retain else (
    if bytes_eq name (codes "filter") then Some Filter else (
    if bytes_eq name (codes "csv_parser") then Some Csv else (
    if bytes_eq name (codes "json_parser") then Some Json else (
    if bytes_eq name (codes "key_value_parser") then Some KeyValue else (
    if bytes_eq name (codes "regex_parser") then Some Regex else (
    if bytes_eq name (codes "time_parser") then Some Time else (
    if bytes_eq name (codes "severity_parser") then Some Severity else (
    if bytes_eq name (codes "syslog_parser") then Some Syslog else (
    if bytes_eq name (codes "router") then Some Router else (
    if bytes_eq name (codes "recombine") then Some Recombine else None)))))))))))))))))

-- the keys that an object of a type may have beside those that it shares with others
abbrev pub is_own_key : OpType → Data → List ℕ → Bool
is_own_key Noop d name = false
is_own_key Container d name = container_reading.is_key name
is_own_key Move d name = moving.is_key name
is_own_key Copy d name = copying.is_key name
is_own_key Add d name = adding.is_key name
is_own_key Remove d name = removing.is_key name
is_own_key Flatten d name = flattening.is_key name
is_own_key Retain d name = retaining.is_key name
is_own_key Filter d name = filtering.is_key name
is_own_key Csv d name = csv_parsing.is_key name
is_own_key Json d name = json_parsing.is_key name
is_own_key KeyValue d name = key_value_parsing.is_key name
is_own_key Regex d name = regex_parsing.is_key name
is_own_key Time d name = time_parsing.is_key name
is_own_key Severity d name = severity_parsing.is_key name
is_own_key Syslog d name = syslog_parsing.is_key d name
is_own_key Router d name = routing.is_key name
is_own_key Recombine d name = recombining.is_key name

-- what its own keys say
abbrev pub kind_of : OpType → List ℕ → Data → Result OpKind SettingsFault
kind_of Noop at d = Ok kind.Noop
kind_of Container at d = container_reading.read at d
kind_of Move at d = moving.read at d
kind_of Copy at d = copying.read at d
kind_of Add at d = adding.read at d
kind_of Remove at d = removing.read at d
kind_of Flatten at d = flattening.read at d
kind_of Retain at d = retaining.read at d
kind_of Filter at d = filtering.read at d
kind_of Csv at d = csv_parsing.read at d
kind_of KeyValue at d = key_value_parsing.read at d
kind_of Json at d = json_parsing.read at d
kind_of Regex at d = regex_parsing.read at d
kind_of Time at d = time_parsing.read at d
kind_of Severity at d = severity_parsing.read at d
kind_of Syslog at d = syslog_parsing.read at d
kind_of Router at d = routing.read at d
kind_of Recombine at d = recombining.read at d

-- the keys of all types
abbrev pub is_common_key : List ℕ → Bool
is_common_key name = bytes_eq name (codes "type") || bytes_eq name (codes "id") || bytes_eq name (codes "on_error")

-- all types but the router have one output, and a condition
abbrev pub is_shared_key : OpType → List ℕ → Bool
is_shared_key Router name = is_common_key name
is_shared_key _ name = is_common_key name || bytes_eq name (codes "output") || bytes_eq name (codes "if")

abbrev pub is_key_of : OpType → Data → List ℕ → Bool
is_key_of op_type d name = is_shared_key op_type name || is_own_key op_type d name

-- ---- one operator

abbrev pub on_error_named : List ℕ → Option OnError
on_error_named name =
    if bytes_eq name (codes "send") then Some Send else (
    if bytes_eq name (codes "drop") then Some Drop else (
    if bytes_eq name (codes "send_quiet") then Some SendQuiet else (
    if bytes_eq name (codes "drop_quiet") then Some DropQuiet else None)))

-- what stands before the keys of the n-th operator
unfoldable pub front : ℕ → List ℕ
front n = item_place (codes "operators") n ++ codes "."

-- an operator before its id is settled
unfoldable pub draft : ℕ → Data → Result Draft SettingsFault
draft n d = do
  members ← or_fault (WrongKind (item_place (codes "operators") n)) (as_object d)
  type_name ← must (front n) (codes "type") text d
  op_type ← or_fault (OutOfRange (front n ++ codes "type")) (type_named type_name)
  _ ← known (is_key_of op_type d) (front n) members
  id ← may (front n) (codes "id") (given text) None d
  output ← may (front n) (codes "output") (given text_or_texts) None d
  condition ← may (front n) (codes "if") (given text) None d
  on_error ← may (front n) (codes "on_error") (name on_error_named) Send d
  kind ← kind_of op_type (front n) d
  Ok (record { type_name = type_name; id = id; output = output; condition = condition; on_error = on_error; kind = kind })

-- ---- the list

abbrev pub written_ids : List Draft → List (List ℕ)
written_ids [] = []
written_ids (d ∷ ds) = elim d.id [ None ↦ written_ids ds | Some id ↦ id ∷ written_ids ds ]

abbrev pub id_of : List (List ℕ) → Draft → List ℕ
id_of taken d = elim d.id [ None ↦ default_id d.type_name taken | Some id ↦ id ]

abbrev pub with_id : List ℕ → Draft → OpSpec
with_id id d = record { id = id; condition = d.condition; on_error = d.on_error; output = d.output; kind = d.kind }

abbrev pub settled : List (List ℕ) → Draft → OpSpec
settled taken d = with_id (id_of taken d) d

-- The operators with their ids. Taken are all ids that are written, and those of the operators before.
unfoldable pub with_ids : List (List ℕ) → List Draft → List OpSpec
with_ids taken [] = []
with_ids taken (d ∷ ds) = settled taken d ∷ with_ids (taken ++ id_of taken d ∷ []) ds

abbrev pub at_most_64 : List ℕ → Items → Result Items SettingsFault
at_most_64 place ds = if nat_lt 64 (items_len ds) then Err (OutOfRange place) else Ok ds

abbrev pub operators : Kind (List OpSpec)
operators place d = do
  all ← or_fault (WrongKind place) (as_array d)
  few ← at_most_64 place all
  drafts ← each draft 0 few
  Ok (with_ids (written_ids drafts) drafts)
