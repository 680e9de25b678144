use Rattle.std.proofs.Common.{◌≤◌, length}
use Rattle.entry_model.proofs.Places.{AreAbove}
use Rattle.entry_model.proofs.fields.search_back.Given as goal

abbrev pub invariant-loop-at : goal.invariant-loop-at
invariant-loop-at g l = record {
  within : l.at ≤ length l.members;
  above : AreAbove l.name l.members l.at;
}

abbrev pub decreases-loop-at : goal.decreases-loop-at
decreases-loop-at g l = l.at
