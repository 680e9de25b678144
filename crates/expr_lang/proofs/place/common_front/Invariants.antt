use Rattle.std.proofs.Common.{◌≡◌, ◌+◌, drop}
use Rattle.expr_lang.specs.Longest.{common}
use Rattle.expr_lang.proofs.place.common_front.Given as goal

abbrev pub invariant-loop-index : goal.invariant-loop-index
invariant-loop-index l = common l.spelling l.bytes ≡ l.index + common (drop l.index l.spelling) (drop l.index l.bytes)
