use Rattle.std.proofs.Common.{◌≡◌, ℕ, ◌<◌, ◌≤◌, length, get_or}
use Rattle.container_parser.proofs.stream.common.Given as goal

abbrev pub invariant-loop-i : goal.invariant-loop-i
invariant-loop-i l = (l.i ≤ length l.bytes) × ((k : ℕ) → k < l.i → get_or l.bytes k 0 ≡ get_or l.word k 0)
