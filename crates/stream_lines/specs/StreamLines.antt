-- The lines of the bytes of a stream, which are those of file 1 with the path `stdin`. They all have one time, or none.
use Rattle.std.specs.Prelude.{ℕ, List, ◌++◌, Option, Bool, if◌then◌else◌, codes}
use Rattle.entry_model.specs.LogRecord.{LogRecord}
use Rattle.graph_core.specs.Traces.{closings, outputs, start_states}
use Rattle.pipeline.specs.Closed.{last_tokens}
use Rattle.pipeline.specs.GraphOutput.{graph_output, kept_from}
use Rattle.pipeline.specs.Origin.{Origin, origin_of}
use Rattle.pipeline.specs.Parts.{settings_of, network}
use Rattle.pipeline.specs.Tokens.{tokens_of}
use Rattle.pipeline.specs.declared.Pipeline.{Pipeline}
use Rattle.standing.specs.Marks.{Mark, numbered}

abbrev pub stream_path : List ℕ
stream_path = codes "stdin"

abbrev pub stream_origin : Option ℕ → Origin
stream_origin observed = origin_of 1 stream_path observed

-- what comes out for these tokens
abbrev pub given_for : Pipeline → List (List ℕ) → List LogRecord
given_for pipeline tokens = graph_output (settings_of pipeline) (network pipeline) stream_path tokens

-- what each operator keeps once they were taken, and what comes out when it is closed then
abbrev pub held_back : Pipeline → List (List ℕ) → List LogRecord
held_back pipeline tokens =
    outputs (network pipeline) (kept_from (settings_of pipeline) (network pipeline) stream_path 0 (start_states (network pipeline)) tokens) (closings (network pipeline))

-- of bytes behind which more may come: those of the tokens that these can't change
abbrev pub open_records : Pipeline → List ℕ → List LogRecord
open_records pipeline given = given_for pipeline (tokens_of (settings_of pipeline) given)

-- of all bytes: those of their tokens, of the tokens of the rest, and at the end what the operators held back
abbrev pub whole_records : Pipeline → List ℕ → List LogRecord
whole_records pipeline given = given_for pipeline (last_tokens (settings_of pipeline) given) ++ held_back pipeline (last_tokens (settings_of pipeline) given)

abbrev pub open_lines : Pipeline → Option ℕ → List ℕ → List Mark
open_lines pipeline observed given = numbered 1 1 observed (open_records pipeline given)

abbrev pub whole_lines : Pipeline → Option ℕ → List ℕ → List Mark
whole_lines pipeline observed given = numbered 1 1 observed (whole_records pipeline given)

-- the whole lines where the stream has ended, else the open ones
abbrev pub lines_of : Pipeline → Option ℕ → Bool → List ℕ → List Mark
lines_of pipeline observed ended given = if ended then whole_lines pipeline observed given else open_lines pipeline observed given
