use Rattle.mem_world.specs.TreeNames.{names_of}
use Rattle.mem_world.proofs.TreeListings.{TakesDown}
use Rattle.mem_world.proofs.tree.listing.list.Given as goal

abbrev pub invariant-loop-place : goal.invariant-loop-place
invariant-loop-place l = TakesDown l.folder (names_of l.names.items) l.items.items l.place
