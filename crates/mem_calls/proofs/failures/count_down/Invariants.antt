use Rattle.std.proofs.Common.{◌≡◌, ◌++◌, take, drop}
use Rattle.mem_calls.specs.CallFailures.{after_call}
use Rattle.mem_calls.proofs.failures.count_down.Given as goal

abbrev pub invariant-loop-calls : goal.invariant-loop-calls
invariant-loop-calls l = l.ahead ≡ after_call (take l.calls-index l.initial.ahead) ++ drop l.calls-index l.initial.ahead
