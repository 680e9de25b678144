-- What comes out for the tokens of a file.
use Rattle.std.specs.Prelude.{◌≡◌, ℕ, List, length}
use Rattle.entry_model.specs.LogRecord.{LogRecord}
use Rattle.graph_core.specs.Traces.{Network, start_states, states_after, outputs, inputs}
use Rattle.op_kinds.specs.Kept.{Kept}
use Rattle.pipeline.specs.Entries.{records_behind}
use Rattle.pipeline.specs.declared.state.FileState.{FileState}
use Rattle.settings_text.specs.declared.settings.Settings.{Settings}

-- what each operator keeps, and the records that come out, once the tokens that stand behind so many others went through the
-- network from these states
abbrev pub kept_from : Settings → Network Kept LogRecord → List ℕ → ℕ → List Kept → List (List ℕ) → List Kept
kept_from settings network path before states tokens = states_after network states (inputs network (records_behind settings path before tokens))

abbrev pub given_from : Settings → Network Kept LogRecord → List ℕ → ℕ → List Kept → List (List ℕ) → List LogRecord
given_from settings network path before states tokens = outputs network states (inputs network (records_behind settings path before tokens))

-- the records of the output's trace
abbrev pub graph_output : Settings → Network Kept LogRecord → List ℕ → List (List ℕ) → List LogRecord
graph_output settings network path tokens = outputs network (start_states network) (inputs network (records_behind settings path 0 tokens))

-- the state of a file of which these tokens were taken
pub record StandsFor (settings : Settings) (network : Network Kept LogRecord) (path : List ℕ) (tokens : List (List ℕ)) (state : FileState) : Type 0 where
  pub states : state.states.items ≡ states_after network (start_states network) (inputs network (records_behind settings path 0 tokens))
  pub records : state.records ≡ length tokens
  pub lines : state.lines ≡ length (graph_output settings network path tokens)
