-- What the settings of a script say.
use Rattle.std.proofs.Common.{◌≡◌, ℕ, List, [], ◌∷◌, true, false, refl, sym, ◌∙◌}
use Rattle.std.specs.Prelude.{codes, Some, Result, Ok}
use Rattle.std.specs.Str.{chars, is_utf8}
use Rattle.entry_model.specs.Datum.{no_members}
use Rattle.serde_json.proofs.OnLiterals.{serde_json_on_literals}
use Rattle.serde_json.specs.Data.{Data, array, object, string, no_items, item, no_members as no_data, member}
use Rattle.demo_run.specs.Script.{settings_text}
use Rattle.settings_text.specs.Grammar as grammar
use Rattle.settings_text.specs.Grammar.{flags_of, json_of}
use Rattle.settings_text.specs.Kinds.{each, known}
use Rattle.settings_text.specs.declared.fault.SettingsFault.{SettingsFault}
use Rattle.settings_text.specs.declared.settings.Multiline.TheVariants.{Lines}
use Rattle.settings_text.specs.declared.settings.Settings.{Settings}
use Rattle.settings_text.specs.declared.settings.StartAt.TheVariants.{Beginning}

abbrev pub glob_text : List ℕ
glob_text = codes "d*.log*"

abbrev pub script_settings : Settings
script_settings = record {
  include = glob_text ∷ [];
  exclude = [];
  start_at = Beginning;
  fingerprint_size = 1000;
  max_log_size = 1048576;
  multiline = Lines;
  preserve_leading_whitespaces = false;
  preserve_trailing_whitespaces = false;
  include_file_name = true;
  include_file_path = false;
  include_file_record_number = false;
  attributes = no_members;
  resource = no_members;
  operators = [];
  include_observed_time = false;
  flush_after_polls = 0;
}

abbrev script_json : Data
script_json = object (member (codes "include") (array (item (string glob_text) no_items)) (member (codes "start_at") (string (codes "beginning")) no_data))

is_json : json_of settings_text ≡ Some script_json
unfolding is_utf8 chars serde_json_on_literals
is_json = refl

read : grammar.settings_of script_json ≡ Ok script_settings
unfolding grammar.settings_of flags_of each known
read = refl

pub said : grammar.settings settings_text ≡ Ok script_settings
unfolding grammar.settings
said = rw is_json read

pub settings_are : (settings : Settings) → grammar.settings settings_text ≡ Ok settings → settings ≡ script_settings
settings_are settings is =
    let same : ◌≡◌ {A = Result Settings SettingsFault} (Ok settings) (Ok script_settings) = sym is ∙ said in
    cc
