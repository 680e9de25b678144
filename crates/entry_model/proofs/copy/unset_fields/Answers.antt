use Rattle.std.proofs.Common.{ℕ, List, ap, ◌∙◌}
use Rattle.std.proofs.lemmas.List.{take_all}
use Rattle.entry_model.specs.declared.value.Value.{Value}
use Rattle.entry_model.specs.Seen.{seen, unset_of}
use Rattle.entry_model.proofs.Ends.{unset_ascend}
use Rattle.entry_model.proofs.copy.unset_fields.Goals as goal

pub from_ascending-requires : goal.from_ascending-requires
from_ascending-requires c =
    let items = c.members-key-items.result.now in
    unset_ascend c.loop-key.unset.items c.args.fields.now.entries
    (c.loop-key.invariant ∙ ap (λ (es : List (List ℕ × Value)). unset_of (seen es)) (take_all c.loop-key.key-index items c.loop-key-test.false ∙ c.members-key-items.ensures.members))
    c.members-key-items.ensures.ordered
