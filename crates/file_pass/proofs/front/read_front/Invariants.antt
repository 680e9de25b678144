use Rattle.std.proofs.Common.{◌≡◌, ◌≤◌, ◌-◌, length, take}
use Rattle.outside.specs.World.{Told}
use Rattle.file_pass.specs.Reads.{Reads, piece_at}
use Rattle.file_pass.specs.TreeTerms.{KeepsTree}
use Rattle.file_pass.specs.declared.ending.Ending.TheVariants.{Whole}
use Rattle.file_pass.proofs.front.read_front.Given as goal

abbrev pub invariant-loop-filled : goal.invariant-loop-filled
invariant-loop-filled g l =
    let trees = g.T.Tree.meaning in
    record {
      within : l.filled ≤ length l.front;
      long : length l.front ≡ length l.fn.front;
      world : Told (Reads (piece_at l.file.handle.0 0 (length l.fn.front) (take l.filled l.front) Whole)) (trees.world l.fn.tree) (trees.world l.tree);
      cause : trees.faults l.tree ≡ trees.faults l.fn.tree;
      keeps : KeepsTree trees (length l.fn.front) l.filled l.fn.tree l.tree;
    }

abbrev pub decreases-loop-filled : goal.decreases-loop-filled
decreases-loop-filled g l = l.size - l.filled
