-- How far a stream was taken.
use Rattle.std.specs.Prelude.{◌≡◌, ℕ, ◌+◌, ◌≤◌, List, Option, length, drop}
use Rattle.file_pass.specs.Full.{lines_text}
use Rattle.pipeline.specs.GraphOutput.{StandsFor}
use Rattle.pipeline.specs.Parts.{settings_of, network, HaveKinds}
use Rattle.pipeline.specs.Tokens.{tokens_of, used_of}
use Rattle.pipeline.specs.declared.Pipeline.{Pipeline}
use Rattle.stream_lines.specs.Limits.{most_printed}
use Rattle.stream_lines.specs.StreamLines.{open_lines, stream_path}
use Rattle.stream_lines.specs.declared.stream.Stream.{Stream}

-- These bytes were taken: their tokens went through the operators, what they left waits, and their lines were counted.
pub record HasTaken (pipeline : Pipeline) (observed : Option ℕ) (given : List ℕ) (stream : Stream) : Type 0 where
  pub stands : StandsFor (settings_of pipeline) (network pipeline) stream_path (tokens_of (settings_of pipeline) given) stream.state
  pub waits : stream.waiting.items ≡ drop (used_of (settings_of pipeline) given) given
  pub printed : stream.printed ≡ length (lines_text (open_lines pipeline observed given))

-- The numbers keep to each other, where so many bytes were taken, and there is a state for each operator.
pub record IsSane (pipeline : Pipeline) (stream : Stream) (many : ℕ) : Type 0 where
  pub states : HaveKinds pipeline stream.state.states.items
  pub lines : stream.state.lines ≤ stream.printed
  pub within : stream.printed ≤ most_printed
  pub records : stream.state.records + length stream.waiting.items ≤ many
