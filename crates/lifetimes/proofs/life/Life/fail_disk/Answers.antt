use Rattle.lifetimes.proofs.LifeLemmas.{disk_failing_came, ready_still}
use Rattle.lifetimes.proofs.life.Life.fail_disk.Goals as goal

pub returns-clause-ready : goal.returns-clause-ready
returns-clause-ready c = ready_still c.args.self.now.session c.args.self.now.disk c.fail.new.self c.fail.ensures.history c.requires

pub returns-clause-came : goal.returns-clause-came
returns-clause-came c = λ rules events at. disk_failing_came rules events c.args.self.now at c.args.call c.fail.new.self c.in_ok-fail.ensures.bound c.fail.ensures.faults c.fail.ensures.history
