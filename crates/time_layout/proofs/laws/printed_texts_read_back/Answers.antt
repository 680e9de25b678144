use Rattle.time_layout.proofs.Prints.{prints_back}
use Rattle.time_layout.proofs.laws.printed_texts_read_back.Goals as goal

pub returns : goal.returns
returns c = prints_back
