use Rattle.lifetimes.proofs.LifeLemmas.{tree_failing_came}
use Rattle.lifetimes.proofs.life.Life.fail_tree.Goals as goal

pub returns-clause-ready : goal.returns-clause-ready
returns-clause-ready c = c.requires

pub returns-clause-came : goal.returns-clause-came
returns-clause-came c = λ rules events at. tree_failing_came rules events c.args.self.now at c.args.call c.fail.new.self c.in_ok-fail.ensures.ok
