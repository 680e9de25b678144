use Rattle.time_layout.proofs.SoundParts.{reads_exactly}
use Rattle.time_layout.proofs.laws.texts_of_the_parts_are_read.Goals as goal

pub returns : goal.returns
returns c = reads_exactly
