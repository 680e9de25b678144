use Rattle.std.proofs.Common.{◌<◌, sym, subst}
use Rattle.mem_world.specs.TreeEvents.{event_seen}
use Rattle.mem_world.specs.TreePlan.{last_call, own_since}
use Rattle.mem_world.specs.TreePlanned.{PlannedWorld}
use Rattle.mem_world.specs.TreePlannedInside.{IsPaced}
use Rattle.mem_world.proofs.TreePacing.{paced_own, paced_same, paced_within, paced_follows, seen_own}
use Rattle.mem_world.proofs.tree.planned.Planned.observe.Goals as goal
use Rattle.mem_world.proofs.tree.planned.Planned.observe.Goals.{In_ok-observe}

paced : (c : In_ok-observe) → IsPaced c.observe.new.self c.self.inside.steps.items c.self.inside.calls c.self.inside.since
paced c =
    let P : PlannedWorld → Type 0 = λ w. w.calls < last_call → own_since w.plan w.history < w.calls in
    paced_own c.observe.new.self (event_seen c.args.seen) (seen_own c.args.seen) c.self.invariant (subst P (sym c.self.view_is) c.requires.counted) c.in_ok-observe.ensures.ok c.observe.ensures.room c.observe.ensures.rooms

pub invariant_of-self-2 : goal.invariant_of-self-2
invariant_of-self-2 c = paced (goal.at.invariant_of-self-2 c).In_ok-observe

pub returns-in_err-observe-clause-followed : goal.returns-in_err-observe-clause-followed
returns-in_err-observe-clause-followed c =
    let same = paced_same c.observe.new.self c.self.invariant c.in_err-observe.ensures.err c.observe.ensures.room c.observe.ensures.rooms in
    (paced_within same, paced_follows same)

pub returns-clause-followed : goal.returns-clause-followed
returns-clause-followed c =
    let grown = paced (goal.at.returns-clause-followed c).In_ok-observe in
    (paced_within grown, paced_follows grown)
