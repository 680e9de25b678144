use Rattle.std.proofs.Common.{arith}
use Rattle.checkpoint_store.specs.Parts.{change_of_parts}
use Rattle.checkpoint_store.proofs.SizeLemmas.{changes_long}
use Rattle.checkpoint_store.proofs.sizes.change_size.Goals as goal

pub flagged_size-requires : goal.flagged_size-requires
flagged_size-requires c = omega (arith, c.requires, changes_long (change_of_parts c.args.change.now))

pub overflow_add-result : goal.overflow_add-result
overflow_add-result c = omega (arith, c.flagged_size.ensures, c.requires, changes_long (change_of_parts c.args.change.now))

pub returns : goal.returns
returns c = omega (arith, c.flagged_size.ensures, changes_long (change_of_parts c.args.change.now))
