-- What comes out at the end of a file's run, and of bytes behind which none come any more.
use Rattle.std.specs.Prelude.{◌≡◌, ℕ, ◌+◌, List, [], ◌++◌, length, drop, Option}
use Rattle.entry_model.specs.LogRecord.{LogRecord}
use Rattle.graph_core.specs.Traces.{Network, start_states, closings, Served}
use Rattle.idle_flush.specs.Rests.{rest_cuts}
use Rattle.line_splitter.specs.Cuts.{texts}
use Rattle.op_kinds.specs.Kept.{Kept}
use Rattle.otlp_json.specs.OutputLines.{output_lines}
use Rattle.pipeline.specs.Fed.{Fed}
use Rattle.pipeline.specs.Origin.{Origin}
use Rattle.pipeline.specs.Parts.{settings_of, network}
use Rattle.pipeline.specs.Tokens.{tokens_of, used_of}
use Rattle.pipeline.specs.declared.Pipeline.{Pipeline}
use Rattle.pipeline.specs.declared.state.FileState.{FileState}
use Rattle.settings_text.specs.declared.settings.Settings.{Settings}

-- Each operator was closed, and the lines of what came out were appended.
pub record Closed (network : Network Kept LogRecord) (id : ℕ) (time : Option ℕ) (before after : FileState) (out_before out_after : List ℕ) : Type 0 where
  pub made : List LogRecord
  pub served : Served network before.states.items [] (closings network) after.states.items made
  pub fresh : after.states.items ≡ start_states network
  pub records : after.records ≡ before.records
  pub lines : after.lines ≡ before.lines + length made
  pub written : out_after ≡ out_before ++ output_lines id (before.lines + 1) time made

-- the tokens of the bytes, and then those of what they left
abbrev pub last_tokens : Settings → List ℕ → List (List ℕ)
last_tokens settings b = tokens_of settings b ++ texts (rest_cuts settings.max_log_size (drop (used_of settings b) b))

-- All tokens of the last bytes were taken, and then the operators were closed. Before and after stand a state and an output.
pub record Finished (pipeline : Pipeline) (origin : Origin) (bytes : List ℕ) (before after : FileState × List ℕ) : Type 0 where
  pub between : FileState
  pub out_between : List ℕ
  pub fed : Fed (settings_of pipeline) (network pipeline) origin (last_tokens (settings_of pipeline) bytes) before.0 between before.1 out_between
  pub closed : Closed (network pipeline) origin.id origin.time between after.0 out_between after.1
