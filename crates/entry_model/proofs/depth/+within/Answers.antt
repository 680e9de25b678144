use Rattle.std.proofs.Common.{arith}
use Rattle.entry_model.specs.declared.value.Value.{size-Value}
use Rattle.entry_model.proofs.Nesting.{keys_ascend}
use Rattle.entry_model.proofs.Places.{lighter}
use Rattle.entry_model.proofs.depth.+within.Goals as goal

pub fields_within-value_within-requires : goal.fields_within-value_within-requires
fields_within-value_within-requires t c =
    let light = lighter size-Value c.members-key-items.result.now c.args.fields.now.entries c.loop-key.key-index c.loop-key-item.result c.members-key-items.ensures.members c.loop-key-test.true c.loop-key-item.is in
    (omega (arith, light, c.decreases), tt)

pub fields_within-returns-then-not-value_within-clause-ascend : goal.fields_within-returns-then-not-value_within-clause-ascend
fields_within-returns-then-not-value_within-clause-ascend t c = keys_ascend c.args.fields.now.entries c.members-key-items.ensures.ordered

pub fields_within-returns-clause-ascend : goal.fields_within-returns-clause-ascend
fields_within-returns-clause-ascend t c = keys_ascend c.args.fields.now.entries c.members-key-items.ensures.ordered
