use Rattle.lifetimes.proofs.devices.disk_keeps_its_terms.Goals as goal

pub returns-clause-bound : goal.returns-clause-bound
returns-clause-bound g c = g.met.D.Disk.within_bound c.args.disk.now

pub returns-clause-limit : goal.returns-clause-limit
returns-clause-limit g c = g.met.D.Disk.within_limit c.args.disk.now
