use Rattle.std.proofs.Common.{arith}
use Rattle.entry_model.specs.declared.value.Value.{size-Value}
use Rattle.entry_model.proofs.Places.{lighter}
use Rattle.otlp_json.proofs.integers.+integers.Goals as goal

pub members_have_integers-value_has_integers-requires : goal.members_have_integers-value_has_integers-requires
members_have_integers-value_has_integers-requires t c =
    let light = lighter size-Value c.members-key-items.result.now c.args.fields.now.entries c.loop-key._key-index c.loop-key-item.result c.members-key-items.ensures.members c.loop-key-test.true c.loop-key-item.is in
    omega (arith, light, c.decreases)
