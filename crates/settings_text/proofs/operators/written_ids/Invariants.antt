use Rattle.std.proofs.Common.{◌≡◌, ◌++◌, drop}
use Rattle.settings_text.specs.Operators.{written_ids}
use Rattle.settings_text.proofs.operators.written_ids.Given as goal

abbrev pub invariant-loop-draft : goal.invariant-loop-draft
invariant-loop-draft l = l.ids.items ++ written_ids (drop l.draft-index l.drafts) ≡ written_ids l.drafts
