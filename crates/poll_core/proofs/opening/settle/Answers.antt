use Rattle.std.proofs.Common.{arith}
use Rattle.poll_core.proofs.CallLemmas.{calls_then}
use Rattle.poll_core.proofs.opening.settle.Goals as goal

pub returns-in_err-sync-2-clause-calls : goal.returns-in_err-sync-2-clause-calls
returns-in_err-sync-2-clause-calls g c = calls_then 1 1 3 (omega arith) c.sync.ensures.calls c.sync-2.ensures.calls

pub returns-in_err-sync-3-clause-calls : goal.returns-in_err-sync-3-clause-calls
returns-in_err-sync-3-clause-calls g c =
    calls_then 2 1 3 (omega arith) (calls_then 1 1 2 (omega arith) c.sync.ensures.calls c.sync-2.ensures.calls) c.sync-3.ensures.calls

pub returns-clause-calls : goal.returns-clause-calls
returns-clause-calls g c =
    calls_then 2 1 3 (omega arith) (calls_then 1 1 2 (omega arith) c.sync.ensures.calls c.sync-2.ensures.calls) c.sync-3.ensures.calls
