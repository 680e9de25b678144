use Rattle.std.proofs.Common.{◌≡◌, if◌then◌else◌}
use Rattle.outside.specs.Count.{raised}
use Rattle.mem_calls.specs.CallPlans.{fate, failed}
use Rattle.mem_calls.proofs.Bounds.{count_within}
use Rattle.mem_calls.proofs.plans.Plans.count.Goals as goal

pub invariant_of-self-in_default : goal.invariant_of-self-in_default
invariant_of-self-in_default c =
    let plans = c.args.self.now in
    let ahead = plans.failures.ahead.items in
    let rises : c.count.new.self.faults ≡ (if failed (fate plans.fuse ahead) then raised plans.failures.faults 1 else plans.failures.faults) = rw (← c.fate-fate.ensures, ← c.fails.ensures) c.count.ensures.faults in
    record { within = rw c.count.ensures.ahead (count_within plans.fuse plans.base plans.failures.faults c.count.new.self.faults ahead rises plans.within) }
