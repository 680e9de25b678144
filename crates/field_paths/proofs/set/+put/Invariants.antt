use Rattle.std.proofs.Common.{length, ◌+◌, ◌*◌}
use Rattle.field_paths.proofs.set.+put.Given as goal

abbrev pub decreases-put : goal.decreases-put
decreases-put l = 2 * length l.names.now

abbrev pub decreases-put_member : goal.decreases-put_member
decreases-put_member l = 2 * length l.names.now + 1
