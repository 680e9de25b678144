use Rattle.std.proofs.Common.{take}
use Rattle.folder_audit.specs.Findings.{HasFound}
use Rattle.folder_audit.specs.Inner.Tried.{FindsWalked}
use Rattle.folder_audit.specs.Open.{GoesOn}
use Rattle.folder_audit.proofs.looking.look_at_all.Given as goal

abbrev pub invariant-loop-path : goal.invariant-loop-path
invariant-loop-path g l =
    let trees = g.T.Tree.meaning in
    record {
      found : HasFound l.kept l.found.items (trees.world l.fn.tree) (trees.world l.tree);
      walked : FindsWalked trees l.kept l.found.items (take l.path-index l.paths) l.fn.tree l.tree;
      tree : GoesOn trees l.fn.tree l.tree;
    }
