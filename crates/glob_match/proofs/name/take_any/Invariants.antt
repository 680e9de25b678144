use Rattle.std.proofs.Common.{◌≡◌, ℕ, ◌+◌, ◌<◌, ◌≤◌, false, get_or, take}
use Rattle.std.specs.List.{list_any}
use Rattle.glob_match.proofs.name.take_any.Given as goal

abbrev pub invariant-loop-mark : goal.invariant-loop-mark
invariant-loop-mark l = record {
  behind : l.is_behind ≡ list_any (λ mark. mark) (take l.mark-index l.fn.reached);
  below : (k : ℕ) → k < l.mark-index → get_or l.reached k false ≡ list_any (λ mark. mark) (take (k + 1) l.fn.reached);
  above : (k : ℕ) → l.mark-index ≤ k → get_or l.reached k false ≡ get_or l.fn.reached k false;
}
