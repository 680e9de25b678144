use Rattle.std.proofs.Common.{◌≡◌, ◌-◌}
use Rattle.state_codec.proofs.Fronts.{with_front}
use Rattle.checkpoint_store.specs.Reading.{ascending_at}
use Rattle.checkpoint_store.proofs.read.read_ascending.Given as goal

abbrev pub invariant-loop-done : goal.invariant-loop-done
invariant-loop-done l =
    with_front l.rows.items (ascending_at l.beside l.low (l.next - 1) (l.count - l.done) l.rest) ≡ ascending_at l.beside 1 (l.next - 1) l.count l.bytes
