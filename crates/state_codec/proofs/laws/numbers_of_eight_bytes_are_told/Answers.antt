use Rattle.std.proofs.Common.{ℕ, ◌<◌, ◌^◌}
use Rattle.std.specs.Int.{w64, to_be_bytes}
use Rattle.state_codec.specs.Reading.{number_at}
use Rattle.state_codec.proofs.GetLemmas.{told_apart}
use Rattle.state_codec.proofs.Readers.{u64_reader}
use Rattle.state_codec.proofs.laws.numbers_of_eight_bytes_are_told.Goals as goal

pub returns : goal.returns
returns c = told_apart (to_be_bytes w64) (λ (n : ℕ). n < 2 ^ 64) (number_at w64) u64_reader
