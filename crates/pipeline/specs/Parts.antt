-- What a pipeline was built of.
use Rattle.std.specs.Prelude.{◌≡◌, ℕ, List, Bool, length, map}
use Rattle.entry_model.specs.LogRecord.{LogRecord}
use Rattle.graph_core.specs.Traces.{Network, network_of}
use Rattle.op_kinds.specs.Operator.{behavior_of, has_groups}
use Rattle.op_kinds.specs.Kept.{Kept, keeps_groups}
use Rattle.pipeline.specs.declared.Pipeline.{Pipeline}
use Rattle.settings_text.specs.declared.settings.Settings.{Settings}

abbrev pub settings_of : Pipeline → Settings
settings_of pipeline = pipeline.settings

abbrev pub network : Pipeline → Network Kept LogRecord
network pipeline = network_of behavior_of pipeline.graph

-- how many operators there are, each with a state
abbrev pub node_count : Pipeline → ℕ
node_count pipeline = length pipeline.graph

-- which of the operators hold groups
abbrev pub kinds_of : Pipeline → List Bool
kinds_of pipeline = map (λ node. has_groups node.op) pipeline.graph

-- there is a state for each operator, of its kind
abbrev pub HaveKinds : Pipeline → List Kept → Type 0
HaveKinds pipeline states = map keeps_groups states ≡ kinds_of pipeline
