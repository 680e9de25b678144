-- What settings say can be compiled.
use Rattle.std.proofs.Common.{◌≤◌, arith}
use Rattle.op_kinds.specs.Compilable.{IsCompilable}
use Rattle.settings_text.specs.Limits.{KindKeepsLimits}
use Rattle.settings_text.specs.declared.settings.OpKind.{OpKind}
use Rattle.settings_text.specs.declared.settings.OpKind.TheVariants as kind

none_fit : 0 ≤ 65534
none_fit = omega arith

pub compilable : (kind : OpKind) → KindKeepsLimits kind → IsCompilable kind
compilable kind.Noop keeps = record { few_routes = none_fit; delimiters = tt; batches = tt }
compilable (kind.Container format by_path) keeps = record { few_routes = none_fit; delimiters = tt; batches = tt }
compilable (kind.Move from to) keeps = record { few_routes = none_fit; delimiters = tt; batches = tt }
compilable (kind.Copy from to) keeps = record { few_routes = none_fit; delimiters = tt; batches = tt }
compilable (kind.Add field value) keeps = record { few_routes = none_fit; delimiters = tt; batches = tt }
compilable (kind.Remove field) keeps = record { few_routes = none_fit; delimiters = tt; batches = tt }
compilable (kind.Flatten field) keeps = record { few_routes = none_fit; delimiters = tt; batches = tt }
compilable (kind.Retain fields) keeps = record { few_routes = none_fit; delimiters = tt; batches = tt }
compilable (kind.Filter expr) keeps = record { few_routes = none_fit; delimiters = tt; batches = tt }
compilable (kind.Csv delimiter header parser) keeps = record { few_routes = none_fit; delimiters = keeps; batches = tt }
compilable (kind.Json parser) keeps = record { few_routes = none_fit; delimiters = tt; batches = tt }
compilable (kind.KeyValue delimiter pair_delimiter parser) keeps = record { few_routes = none_fit; delimiters = keeps; batches = tt }
compilable (kind.Regex regex parser) keeps = record { few_routes = none_fit; delimiters = tt; batches = tt }
compilable (kind.Time time) keeps = record { few_routes = none_fit; delimiters = tt; batches = tt }
compilable (kind.Severity severity) keeps = record { few_routes = none_fit; delimiters = tt; batches = tt }
compilable (kind.Syslog year location parser) keeps = record { few_routes = none_fit; delimiters = tt; batches = tt }
compilable (kind.Router routes default) keeps = record { few_routes = keeps.few; delimiters = tt; batches = tt }
compilable (kind.Recombine field first mark between most newest source) keeps = record { few_routes = none_fit; delimiters = tt; batches = keeps }
