use Rattle.time_layout.proofs.GoReference.{reads_own_text}
use Rattle.time_layout.proofs.laws.go_layouts_read_their_own_text.Goals as goal

pub returns : goal.returns
returns c = reads_own_text
