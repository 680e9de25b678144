use Rattle.std.proofs.Common.{arith}
use Rattle.entry_model.specs.declared.value.Value.{size-Value}
use Rattle.entry_model.proofs.Places.{lighter}
use Rattle.parser_cases.proofs.shown.+write.Goals as goal

pub write_members-write_value-requires : goal.write_members-write_value-requires
write_members-write_value-requires t c =
    let light = lighter size-Value c.members-name-items.result.now c.args.members.now.entries c.loop-name.name-index c.loop-name-item.result c.members-name-items.ensures.members c.loop-name-test.true c.loop-name-item.is in
    omega (arith, light, c.decreases)
