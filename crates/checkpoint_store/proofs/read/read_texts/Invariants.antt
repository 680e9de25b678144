use Rattle.std.proofs.Common.{◌≡◌, ◌-◌}
use Rattle.state_codec.proofs.Fronts.{with_front}
use Rattle.checkpoint_store.specs.Reading.{texts_at}
use Rattle.checkpoint_store.proofs.read.read_texts.Given as goal

abbrev pub invariant-loop-done : goal.invariant-loop-done
invariant-loop-done l = with_front l.texts.items (texts_at (l.count - l._done) l.rest) ≡ texts_at l.count l.bytes
