use Rattle.std.proofs.Common.{length, ◌+◌, ◌*◌}
use Rattle.field_paths.proofs.take.+cut.Given as goal

abbrev pub decreases-cut : goal.decreases-cut
decreases-cut l = 2 * length l.names.now + 1

abbrev pub decreases-cut_member : goal.decreases-cut_member
decreases-cut_member l = 2 * length l.names.now
