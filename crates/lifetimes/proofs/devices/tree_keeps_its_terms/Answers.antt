use Rattle.lifetimes.proofs.devices.tree_keeps_its_terms.Goals as goal

pub returns-clause-lawful : goal.returns-clause-lawful
returns-clause-lawful g c = g.met.T.Tree.lawful c.args.tree.now

pub returns-clause-followed : goal.returns-clause-followed
returns-clause-followed g c = g.met.T.Tree.followed c.args.tree.now

pub returns-clause-bound : goal.returns-clause-bound
returns-clause-bound g c = g.met.T.Tree.within_bound c.args.tree.now
