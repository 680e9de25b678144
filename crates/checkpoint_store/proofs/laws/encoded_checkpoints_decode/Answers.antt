use Rattle.checkpoint_store.proofs.Told.{decoded_again}
use Rattle.checkpoint_store.proofs.laws.encoded_checkpoints_decode.Goals as goal

pub returns : goal.returns
returns c = decoded_again
