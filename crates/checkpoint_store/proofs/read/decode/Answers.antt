use Rattle.std.proofs.Common.{arith}
use Rattle.checkpoint_store.proofs.CheckpointEnds.{whole_takes, spells_none}
use Rattle.checkpoint_store.proofs.read.decode.Goals as goal

pub returns-in-Ok : goal.returns-in-Ok
returns-in-Ok c = whole_takes c.args.bytes.now c.in-Ok.checkpoint (λ i. omega (arith, c.type_inv.bytes i)) c.in-Ok.ensures

pub returns-in-Err-Malformed : goal.returns-in-Err-Malformed
returns-in-Err-Malformed c =
    spells_none c.args.bytes.now c.in-Err-Malformed.left c.saturating_sub.result (λ i. omega (arith, c.type_inv.bytes i)) (rw c.in-Err-Malformed.field-0-is at c.in-Err-Malformed.ensures) c.saturating_sub.ensures
