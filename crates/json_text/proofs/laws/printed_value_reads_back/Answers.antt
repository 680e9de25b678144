use Rattle.json_text.proofs.ReadsBack.{reads_back}
use Rattle.json_text.proofs.laws.printed_value_reads_back.Goals as goal

pub returns : goal.returns
returns c = reads_back
