use Rattle.std.proofs.Common.{◌≡◌, ◌++◌, vec_len}
use Rattle.settings_text.specs.Operators.{with_ids}
use Rattle.settings_text.proofs.operators.settle_all.Given as goal

abbrev pub decreases-settling : goal.decreases-settling
decreases-settling l = vec_len l.drafts

abbrev pub invariant-settling : goal.invariant-settling
invariant-settling l = l.settled.items ++ with_ids l.taken.items l.drafts.items ≡ with_ids l.initial.taken.items l.initial.drafts.items
