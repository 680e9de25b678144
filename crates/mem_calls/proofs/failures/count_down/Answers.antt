use Rattle.std.proofs.Common.{ℕ, ◌-◌, ◌<◌, length, get_or, arith}
use Rattle.std.proofs.lemmas.List.{get_or_default}
use Rattle.std.proofs.lemmas.List.Edits.{map_over_more}
use Rattle.mem_calls.proofs.failures.count_down.Goals as goal

pub loop-calls-preserved : goal.loop-calls-preserved
loop-calls-preserved c =
    let within : c.loop-calls.calls-index < length c.args.ahead.now = omega arith in
    let there : c.loop-calls.calls-index < length c.loop-calls.ahead = omega arith in
    let here = get_or c.loop-calls.ahead c.loop-calls.calls-index 0 in
    rw c.saturating_sub.ensures (map_over_more (λ (calls : ℕ). calls - 1) c.args.ahead.now c.loop-calls.ahead c.loop-calls.calls-index here within c.loop-calls.invariant (get_or_default c.loop-calls.ahead c.loop-calls.calls-index 0 here there))
