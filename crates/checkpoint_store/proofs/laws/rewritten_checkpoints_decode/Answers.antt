use Rattle.checkpoint_store.proofs.Older.{rewritten_again}
use Rattle.checkpoint_store.proofs.laws.rewritten_checkpoints_decode.Goals as goal

pub returns : goal.returns
returns c = rewritten_again
