use Rattle.std.proofs.Common.{length}
use Rattle.whole_runs.proofs.ascending.+sorted.Given as goal

abbrev pub decreases-sorted : goal.decreases-sorted
decreases-sorted g l = length l.calls.items
