use Rattle.std.proofs.Common.{rules, ◌<◌, length}
use Rattle.mem_world.proofs.TreeFails.{going_more}
use Rattle.mem_world.proofs.tree.failures.count_down.Goals as goal

pub loop-call-preserved : goal.loop-call-preserved
loop-call-preserved c =
    let within : c.loop-call.call-index < length c.loop-call.calls = search rules in
    going_more c.args.calls.now c.loop-call.calls c.loop-call.call-index c.saturating_sub.result c.loop-call.invariant within c.saturating_sub.ensures
