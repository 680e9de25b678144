use Rattle.std.proofs.Common.{arith}
use Rattle.entry_model.specs.declared.value.Value.{size-Value}
use Rattle.entry_model.proofs.Places.{lighter}
use Rattle.expr_lang.proofs.values.+same.Goals as goal

pub are_same_maps-are_same-requires : goal.are_same_maps-are_same-requires
are_same_maps-are_same-requires t c =
    let light = lighter size-Value c.members-key-items.result.now c.args.one.now.entries c.loop-key.key-index c.loop-key-item.result c.members-key-items.ensures.members c.loop-key-test.true c.loop-key-item.is in
    omega (arith, light, c.decreases)
