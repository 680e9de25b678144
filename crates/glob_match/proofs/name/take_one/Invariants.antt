use Rattle.std.proofs.Common.{◌≡◌, ℕ, ◌+◌, ◌<◌, ◌&&◌, false, get_or}
use Rattle.glob_match.specs.Inner.TakesOne.{takes_one}
use Rattle.glob_match.proofs.name.take_one.Given as goal

abbrev pub invariant-loop-at : goal.invariant-loop-at
invariant-loop-at l = record {
  before : l.before ≡ get_or l.fn.reached l.at false;
  first : get_or l.reached 0 false ≡ false;
  below : (k : ℕ) → k < l.at → get_or l.reached (k + 1) false ≡ (get_or l.fn.reached k false && takes_one l.unit (get_or l.characters k 0));
  above : (k : ℕ) → l.at < k → get_or l.reached k false ≡ get_or l.fn.reached k false;
}
