-- What feeding does, from any state.
use Rattle.std.specs.Prelude.{◌≡◌, ℕ, ◌+◌, List, [], ◌++◌, length}
use Rattle.entry_model.specs.LogRecord.{LogRecord}
use Rattle.graph_core.specs.Traces.{Network, inputs, Served}
use Rattle.op_kinds.specs.Kept.{Kept}
use Rattle.otlp_json.specs.OutputLines.{output_lines}
use Rattle.pipeline.specs.Entries.{records_behind}
use Rattle.pipeline.specs.GraphOutput.{graph_output, StandsFor}
use Rattle.pipeline.specs.Origin.{Origin}
use Rattle.pipeline.specs.declared.state.FileState.{FileState}
use Rattle.settings_text.specs.declared.settings.Settings.{Settings}

-- The records of these tokens went through the network, and the lines of what came out were appended.
pub record Fed (settings : Settings) (network : Network Kept LogRecord) (origin : Origin) (tokens : List (List ℕ)) (before after : FileState) (out_before out_after : List ℕ) : Type 0 where
  pub made : List LogRecord
  pub served : Served network before.states.items [] (inputs network (records_behind settings origin.path before.records tokens)) after.states.items made
  pub records : after.records ≡ before.records + length tokens
  pub lines : after.lines ≡ before.lines + length made
  pub written : out_after ≡ out_before ++ output_lines origin.id (before.lines + 1) origin.time made

-- From a state that stands for some tokens, the lines past theirs were appended.
pub record GoesOn (settings : Settings) (network : Network Kept LogRecord) (origin : Origin) (earlier tokens : List (List ℕ)) (after : FileState) (out_before out_after : List ℕ) : Type 0 where
  pub stands : StandsFor settings network origin.path (earlier ++ tokens) after
  pub made : List LogRecord
  pub past : graph_output settings network origin.path (earlier ++ tokens) ≡ graph_output settings network origin.path earlier ++ made
  pub written : out_after ≡ out_before ++ output_lines origin.id (length (graph_output settings network origin.path earlier) + 1) origin.time made
