use Rattle.std.proofs.Common.{◌≡◌, ◌++◌, map, take}
use Rattle.graph_core.proofs.walk.hand_to_each.Given as goal

abbrev pub invariant-loop-to : goal.invariant-loop-to
invariant-loop-to g l = l.queue.items ≡ l.initial.queue.items ++ map (λ to. (to, l.item)) (take l.to-index l.others)
