use Rattle.std.proofs.Common.{arith}
use Rattle.entry_model.specs.declared.value.Value.{size-Value}
use Rattle.entry_model.proofs.Places.{lighter}
use Rattle.settings_cases.proofs.values.+show.Goals as goal

pub show_fields-show_value-requires : goal.show_fields-show_value-requires
show_fields-show_value-requires t c =
    let light = lighter size-Value c.members-key-items.result.now c.args.fields.now.entries c.loop-key.key-index c.loop-key-item.result c.members-key-items.ensures.members c.loop-key-test.true c.loop-key-item.is in
    omega (arith, light, c.decreases)
