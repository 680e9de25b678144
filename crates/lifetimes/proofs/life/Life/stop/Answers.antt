use Rattle.std.proofs.Common.{refl}
use Rattle.lifetimes.proofs.LifeLemmas.{stop_came}
use Rattle.lifetimes.proofs.life.Life.stop.Goals as goal

pub returns-clause-ready : goal.returns-clause-ready
returns-clause-ready c = c.requires

pub returns-clause-came : goal.returns-clause-came
returns-clause-came c = λ rules events at. stop_came rules events c.args.self.now at c.args.calls c.args.outcome (record { calls = c.args.calls; outcome = c.args.outcome }) refl
