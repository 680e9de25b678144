use Rattle.state_codec.specs.Spelling.{entry_spelling}
use Rattle.state_codec.specs.Rules.{IsReadable}
use Rattle.state_codec.specs.Reading.{entry_at}
use Rattle.state_codec.proofs.GetLemmas.{told_apart}
use Rattle.state_codec.proofs.Readers.{entry_reader}
use Rattle.state_codec.proofs.laws.entries_are_told.Goals as goal

pub returns : goal.returns
returns c = told_apart entry_spelling IsReadable entry_at entry_reader
