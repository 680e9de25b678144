-- Of which settings an operator can be made, where each text in them can be read. What settings say is within these limits.
use Rattle.std.specs.Prelude.{⊤, ◌<◌, ◌≤◌}
use Rattle.settings_text.specs.Limits.{route_count}
use Rattle.settings_text.specs.Types.KeyValueParsing as key_value_parsing
use Rattle.settings_text.specs.Types.Recombining as recombining
use Rattle.settings_text.specs.declared.settings.OpKind.{OpKind}
use Rattle.settings_text.specs.declared.settings.OpKind.TheVariants as kind

-- what parts the fields of a record is a character of ASCII, and no text that parts keys, values and pairs is empty
abbrev pub HasDelimiters : OpKind → Type 0
HasDelimiters (kind.Csv delimiter header parser) = delimiter < 128
HasDelimiters (kind.KeyValue delimiter pair_delimiter parser) = key_value_parsing.KeepsLimits delimiter pair_delimiter
HasDelimiters _ = ⊤

-- groups have some entries, and not too many
abbrev pub HasBatches : OpKind → Type 0
HasBatches (kind.Recombine field first mark between most newest source) = recombining.KeepsLimits most
HasBatches _ = ⊤

-- there is a port for each route
pub record IsCompilable (kind : OpKind) : Type 0 where
  pub few_routes : route_count kind ≤ 65534
  pub delimiters : HasDelimiters kind
  pub batches : HasBatches kind
