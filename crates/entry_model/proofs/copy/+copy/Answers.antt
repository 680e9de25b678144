use Rattle.std.proofs.Common.{ℕ, List, ap, ◌∙◌, arith}
use Rattle.std.proofs.lemmas.List.{take_all}
use Rattle.entry_model.specs.declared.value.Value.{Value, size-Value}
use Rattle.entry_model.specs.Seen.{seen}
use Rattle.entry_model.proofs.Ends.{copies_ascend}
use Rattle.entry_model.proofs.Places.{lighter}
use Rattle.entry_model.proofs.copy.+copy.Goals as goal

pub copy_members-copy_value-requires : goal.copy_members-copy_value-requires
copy_members-copy_value-requires t c =
    let light = lighter size-Value c.members-key-items.result.now c.args.fields.now.entries c.loop-key.key-index c.loop-key-item.result c.members-key-items.ensures.members c.loop-key-test.true c.loop-key-item.is in
    (omega (arith, light, c.decreases), tt)

pub copy_members-from_ascending-requires : goal.copy_members-from_ascending-requires
copy_members-from_ascending-requires t c =
    let items = c.members-key-items.result.now in
    copies_ascend c.loop-key.copies.items c.args.fields.now.entries
    (c.loop-key.invariant ∙ ap (λ (es : List (List ℕ × Value)). seen es) (take_all c.loop-key.key-index items c.loop-key-test.false ∙ c.members-key-items.ensures.members))
    c.members-key-items.ensures.ordered
