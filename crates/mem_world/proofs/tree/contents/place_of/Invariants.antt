use Rattle.std.proofs.Common.{◌≡◌, ◌+◌, drop}
use Rattle.mem_world.specs.TreeContents.{place_in}
use Rattle.mem_world.proofs.tree.contents.place_of.Given as goal

abbrev pub invariant-loop-place : goal.invariant-loop-place
invariant-loop-place l = place_in l.contents l.file ≡ l.place + place_in (drop l.place l.contents) l.file
