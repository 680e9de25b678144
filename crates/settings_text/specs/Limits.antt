-- The limits of what settings say: under these the layers above work.
use Rattle.std.specs.Prelude.{◌≡◌, ⊤, ℕ, ◌≤◌, length, Some, slice_get}
use Rattle.settings_text.specs.declared.settings.OpKind.{OpKind}
use Rattle.settings_text.specs.declared.settings.OpKind.TheVariants.{Noop, Container, Move, Copy, Add, Remove, Flatten, Retain, Filter, Csv, Json, KeyValue, Regex, Time, Severity, Syslog, Router, Recombine}
use Rattle.settings_text.specs.declared.settings.OpSpec.{OpSpec}
use Rattle.settings_text.specs.declared.settings.Settings.{Settings}
use Rattle.settings_text.specs.Kinds.{IsSomeIfWritten}
use Rattle.settings_text.specs.Types.Adding as adding
use Rattle.settings_text.specs.Types.CsvParsing as csv_parsing
use Rattle.settings_text.specs.Types.KeyValueParsing as key_value_parsing
use Rattle.settings_text.specs.Types.Retaining as retaining
use Rattle.settings_text.specs.Types.Routing as routing
use Rattle.settings_text.specs.Types.Recombining as recombining

-- how many routes an operator has
abbrev pub route_count : OpKind → ℕ
route_count (Router routes default) = length routes
route_count _ = 0

abbrev pub KindKeepsLimits : OpKind → Type 0
KindKeepsLimits Noop = ⊤
KindKeepsLimits (Container format adds) = ⊤
KindKeepsLimits (Move from to) = ⊤
KindKeepsLimits (Copy from to) = ⊤
KindKeepsLimits (Add field value) = adding.KeepsLimits value
KindKeepsLimits (Remove field) = ⊤
KindKeepsLimits (Flatten field) = ⊤
KindKeepsLimits (Retain fields) = retaining.KeepsLimits fields
KindKeepsLimits (Filter expr) = ⊤
KindKeepsLimits (Csv delimiter header parser) = csv_parsing.KeepsLimits delimiter
KindKeepsLimits (KeyValue delimiter pair_delimiter parser) = key_value_parsing.KeepsLimits delimiter pair_delimiter
KindKeepsLimits (Json parser) = ⊤
KindKeepsLimits (Regex regex parser) = ⊤
KindKeepsLimits (Time time) = ⊤
KindKeepsLimits (Severity severity) = ⊤
KindKeepsLimits (Syslog year location parser) = ⊤
KindKeepsLimits (Router routes default) = routing.KeepsLimits routes default
KindKeepsLimits (Recombine field first mark with_text most newest source) = recombining.KeepsLimits most

pub record OperatorKeepsLimits (operator : OpSpec) : Type 0 where
  pub output : IsSomeIfWritten operator.output
  pub kind : KindKeepsLimits operator.kind

pub record KeepsLimits (said : Settings) : Type 0 where
  pub some_include : 1 ≤ length said.include
  pub fingerprint_size_from : 16 ≤ said.fingerprint_size
  pub fingerprint_size_to : said.fingerprint_size ≤ 4096
  pub max_log_size_from : 64 ≤ said.max_log_size
  pub max_log_size_to : said.max_log_size ≤ 4194304
  pub flush_after_polls_to : said.flush_after_polls ≤ 1000
  pub few_operators : length said.operators ≤ 64
  pub few_routes : (place : ℕ) (operator : OpSpec) → slice_get said.operators place ≡ Some operator → route_count operator.kind ≤ 65534
  pub operators : (place : ℕ) (operator : OpSpec) → slice_get said.operators place ≡ Some operator → OperatorKeepsLimits operator
