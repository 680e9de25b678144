use Rattle.std.proofs.Common.{length}
use Rattle.field_paths.proofs.set.+within_maps.Given as goal

abbrev pub decreases-within_maps : goal.decreases-within_maps
decreases-within_maps l = length l.names.now
