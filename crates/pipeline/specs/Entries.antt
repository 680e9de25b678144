-- The records that the tokens of a file give.
use Rattle.std.specs.Prelude.{ℕ, ◌+◌, ◌==◌, pos, if◌then◌else◌, Bool, List, [], ◌∷◌, ◌++◌, codes, None}
use Rattle.std.specs.List.{after_last}
use Rattle.entry_model.specs.Datum.{Datum, text, int, Members}
use Rattle.entry_model.specs.LogRecord.{LogRecord}
use Rattle.field_paths.specs.Members.{with_member}
use Rattle.line_splitter.specs.EntryText.{entry_text}
use Rattle.settings_text.specs.declared.settings.Settings.{Settings}

-- the last component of a path
abbrev pub base_name : List ℕ → List ℕ
base_name path = after_last (λ byte. byte == 47) path

abbrev pub with_asked : Bool → List ℕ → Datum → Members → Members
with_asked asked name value members = if asked then with_member name value members else members

-- what each record of a file has beside its own; of a name that stands twice the later value counts
abbrev pub file_attributes : Settings → List ℕ → Members
file_attributes settings path =
    with_asked settings.include_file_path (codes "log.file.path") (text path)
    (with_asked settings.include_file_name (codes "log.file.name") (text (base_name path)) settings.attributes)

-- those of the n-th token's record, from 1
abbrev pub attributes_at : Settings → List ℕ → ℕ → Members
attributes_at settings path n =
    with_asked settings.include_file_record_number (codes "log.file.record_number") (int (pos n)) (file_attributes settings path)

abbrev pub record_with : Settings → List ℕ → ℕ → List ℕ → LogRecord
record_with settings path n body = record {
  body = text body;
  attributes = attributes_at settings path n;
  resource = settings.resource;
  timestamp = None;
  severity = 0;
  severity_text = [];
}

-- an empty text gives no record
abbrev pub records_of : Settings → List ℕ → ℕ → List ℕ → List LogRecord
records_of settings path n [] = []
records_of settings path n (byte ∷ more) = record_with settings path n (byte ∷ more) ∷ []

abbrev pub text_of : Settings → List ℕ → List ℕ
text_of settings token = entry_text settings.preserve_leading_whitespaces settings.preserve_trailing_whitespaces token

-- the records of the tokens that stand behind so many others
abbrev pub records_behind : Settings → List ℕ → ℕ → List (List ℕ) → List LogRecord
records_behind settings path before [] = []
records_behind settings path before (token ∷ tokens) =
    records_of settings path (before + 1) (text_of settings token) ++ records_behind settings path (before + 1) tokens
