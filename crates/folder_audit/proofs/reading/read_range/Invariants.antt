use Rattle.std.proofs.Common.{◌≡◌, ◌≤◌, ◌-◌, length}
use Rattle.outside.specs.World.{Told}
use Rattle.folder_audit.specs.Open.{GoesOn}
use Rattle.folder_audit.proofs.ReadLemmas.{SoFar}
use Rattle.folder_audit.proofs.reading.read_range.Given as goal

abbrev pub invariant-loop-filled : goal.invariant-loop-filled
invariant-loop-filled g l =
    let trees = g.T.Tree.meaning in
    record {
      within : l.filled ≤ length l.buffer;
      long : length l.buffer ≡ length l.fn.buffer;
      goes_on : GoesOn trees l.fn.tree l.tree;
      far : Told (SoFar l.handle.0 l.from l.buffer l.filled) (trees.world l.fn.tree) (trees.world l.tree);
    }

abbrev pub decreases-loop-filled : goal.decreases-loop-filled
decreases-loop-filled g l = l.size - l.filled
