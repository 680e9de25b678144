-- The lines of a file's records, which are numbered one after another and have one observed time, or none.
use Rattle.std.specs.Prelude.{ℕ, ◌+◌, List, [], ◌∷◌, ◌++◌, Option}
use Rattle.entry_model.specs.LogRecord.{LogRecord}
use Rattle.otlp_json.specs.OutputLine.{output_line}

-- `number` is the first record's
unfoldable pub output_lines : ℕ → ℕ → Option ℕ → List LogRecord → List ℕ
output_lines id number observed [] = []
output_lines id number observed (first ∷ rest) = output_line id number observed first ++ output_lines id (number + 1) observed rest
