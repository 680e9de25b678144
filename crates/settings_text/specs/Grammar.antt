-- The settings of a text, or its one refusal.
use Rattle.std.specs.Prelude.{ℕ, List, [], codes, length, Bool, true, false, ◌||◌, nat_lt, if◌then◌else◌, Option, Some, None, Result, Ok, Err}
use Rattle.std.specs.Str.{bytes_eq, is_utf8}
use Rattle.serde_json.specs.Data.{Data}
use Rattle.serde_json.specs.Find.{as_object}
use Rattle.serde_json.specs.Read as json
use Rattle.entry_model.specs.Datum.{no_members}
use Rattle.settings_text.specs.declared.fault.SettingsFault.{SettingsFault}
use Rattle.settings_text.specs.declared.fault.SettingsFault.TheVariants.{NotJson, TooLong}
use Rattle.settings_text.specs.declared.settings.StartAt.{StartAt}
use Rattle.settings_text.specs.declared.settings.StartAt.TheVariants.{Beginning, End}
use Rattle.settings_text.specs.Kinds.{must, may, known, flag, name, whole, texts, some_texts, fields}
use Rattle.settings_text.specs.Multilines.{multiline}
use Rattle.settings_text.specs.Outcome.{◌>>=◌, or_fault}
use Rattle.settings_text.specs.Operators as operators
use Rattle.settings_text.specs.declared.Flags.{Flags}
use Rattle.settings_text.specs.declared.settings.Multiline.TheVariants.{Lines}
use Rattle.settings_text.specs.declared.settings.Settings.{Settings}

abbrev pub start_named : List ℕ → Option StartAt
start_named name = if bytes_eq name (codes "beginning") then Some Beginning else (if bytes_eq name (codes "end") then Some End else None)

abbrev pub is_top_key : List ℕ → Bool
is_top_key name =
    bytes_eq name (codes "include") || bytes_eq name (codes "exclude") || bytes_eq name (codes "start_at")
    || bytes_eq name (codes "fingerprint_size") || bytes_eq name (codes "max_log_size") || bytes_eq name (codes "multiline")
    || bytes_eq name (codes "preserve_leading_whitespaces") || bytes_eq name (codes "preserve_trailing_whitespaces")
    || bytes_eq name (codes "include_file_name") || bytes_eq name (codes "include_file_path") || bytes_eq name (codes "include_file_record_number")
    || bytes_eq name (codes "attributes") || bytes_eq name (codes "resource") || bytes_eq name (codes "operators")
    || bytes_eq name (codes "include_observed_time") || bytes_eq name (codes "flush_after_polls")

-- Each line has a key, its kind and its default.
unfoldable pub flags_of : Data → Result Flags SettingsFault
flags_of d = do
  preserve_leading_whitespaces ← may [] (codes "preserve_leading_whitespaces") flag false d
  preserve_trailing_whitespaces ← may [] (codes "preserve_trailing_whitespaces") flag false d
  include_file_name ← may [] (codes "include_file_name") flag true d
  include_file_path ← may [] (codes "include_file_path") flag false d
  include_file_record_number ← may [] (codes "include_file_record_number") flag false d
  Ok (record {
    preserve_leading_whitespaces = preserve_leading_whitespaces;
    preserve_trailing_whitespaces = preserve_trailing_whitespaces;
    include_file_name = include_file_name;
    include_file_path = include_file_path;
    include_file_record_number = include_file_record_number;
  })

unfoldable pub settings_of : Data → Result Settings SettingsFault
settings_of d = do
  members ← or_fault NotJson (as_object d)
  _ ← known is_top_key [] members
  include ← must [] (codes "include") some_texts d
  exclude ← may [] (codes "exclude") texts [] d
  start_at ← may [] (codes "start_at") (name start_named) End d
  fingerprint_size ← may [] (codes "fingerprint_size") (whole 16 4096) 1000 d
  max_log_size ← may [] (codes "max_log_size") (whole 64 4194304) 1048576 d
  multiline ← may [] (codes "multiline") multiline Lines d
  flags ← flags_of d
  attributes ← may [] (codes "attributes") fields no_members d
  resource ← may [] (codes "resource") fields no_members d
  operators ← may [] (codes "operators") operators.operators [] d
  include_observed_time ← may [] (codes "include_observed_time") flag false d
  flush_after_polls ← may [] (codes "flush_after_polls") (whole 0 1000) 0 d
  Ok (record {
    include = include;
    exclude = exclude;
    start_at = start_at;
    fingerprint_size = fingerprint_size;
    max_log_size = max_log_size;
    multiline = multiline;
    preserve_leading_whitespaces = flags.preserve_leading_whitespaces;
    preserve_trailing_whitespaces = flags.preserve_trailing_whitespaces;
    include_file_name = flags.include_file_name;
    include_file_path = flags.include_file_path;
    include_file_record_number = flags.include_file_record_number;
    attributes = attributes;
    resource = resource;
    operators = operators;
    include_observed_time = include_observed_time;
    flush_after_polls = flush_after_polls;
  })

-- the JSON value of a text in UTF-8
abbrev pub json_of : List ℕ → Option Data
json_of bytes = if is_utf8 bytes then json.read bytes else None

-- A text of more than a MiB is not looked into.
unfoldable pub settings : List ℕ → Result Settings SettingsFault
settings bytes = if nat_lt 1048576 (length bytes) then Err (TooLong (length bytes)) else (or_fault NotJson (json_of bytes) >>= settings_of)
