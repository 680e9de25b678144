use Rattle.std.proofs.Common.{◌≡◌, ◌+◌, drop, false}
use Rattle.expr_lang.specs.Inner.BrokenWords.{quoted_length}
use Rattle.expr_lang.proofs.place.quoted_length.Given as goal

abbrev pub invariant-loop-index : goal.invariant-loop-index
invariant-loop-index l = quoted_length l.quote false l.inner ≡ l.index + quoted_length l.quote l.behind (drop l.index l.inner)
