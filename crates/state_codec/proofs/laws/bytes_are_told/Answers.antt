use Rattle.std.proofs.Common.{ℕ, ◌<◌, ◌^◌, List, length}
use Rattle.state_codec.specs.Spelling.{bytes_spelling}
use Rattle.state_codec.specs.Reading.{bytes_at}
use Rattle.state_codec.proofs.GetLemmas.{told_apart}
use Rattle.state_codec.proofs.Readers.{bytes_reader}
use Rattle.state_codec.proofs.laws.bytes_are_told.Goals as goal

pub returns : goal.returns
returns c = told_apart bytes_spelling (λ (bytes : List ℕ). length bytes < 2 ^ 32) bytes_at bytes_reader
