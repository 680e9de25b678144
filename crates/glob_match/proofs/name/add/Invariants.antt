use Rattle.std.proofs.Common.{◌≡◌, ℕ, ◌<◌, ◌≤◌, ◌||◌, false, get_or}
use Rattle.glob_match.proofs.name.add.Given as goal

abbrev pub invariant-loop-at : goal.invariant-loop-at
invariant-loop-at l = record {
  below : (k : ℕ) → k < l.at → get_or l.marks k false ≡ (get_or l.fn.marks k false || get_or l.more k false);
  above : (k : ℕ) → l.at ≤ k → get_or l.marks k false ≡ get_or l.fn.marks k false;
}
