use Rattle.mem_calls.proofs.Bounds.{fail_within}
use Rattle.mem_calls.proofs.plans.Plans.fail.Goals as goal

pub invariant_of-self : goal.invariant_of-self
invariant_of-self c =
    let plans = c.args.self.now in
    record { within = rw c.set.ensures.faults (fail_within c.set.result plans.fuse plans.base plans.failures.faults c.args.call plans.failures.ahead.items c.set.new.self.ahead.items c.set.ensures.ok c.set.ensures.err plans.within) }
