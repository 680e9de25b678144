use Rattle.lifetimes.proofs.LifeLemmas.{plan_came}
use Rattle.mem_world.specs.WorldSteps.{event_of}
use Rattle.lifetimes.proofs.life.Life.plan.Goals as goal

pub returns-clause-ready : goal.returns-clause-ready
returns-clause-ready c = c.requires

pub returns-clause-came : goal.returns-clause-came
returns-clause-came c = λ rules events at. plan_came rules events c.args.self.now at c.args.calls c.args.step.now (event_of c.in_ok-step.step) c.later.new.self c.in_ok-step.ensures c.in_ok-later.ensures.ok
