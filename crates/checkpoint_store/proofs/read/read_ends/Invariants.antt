use Rattle.std.proofs.Common.{◌≡◌, ◌-◌}
use Rattle.state_codec.proofs.Fronts.{with_front}
use Rattle.checkpoint_store.specs.Reading.{ends_at}
use Rattle.checkpoint_store.proofs.read.read_ends.Given as goal

abbrev pub invariant-loop-done : goal.invariant-loop-done
invariant-loop-done l = with_front l.ends.items (ends_at l.last l.to (l.count - l._done) l.rest) ≡ ends_at l.fn.from l.to l.count l.bytes
