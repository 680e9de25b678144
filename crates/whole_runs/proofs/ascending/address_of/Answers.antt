use Rattle.whole_runs.proofs.ascending.address_of.Goals as goal

pub returns : goal.returns
returns g c = record { call = c.index-call.result.now; is = c.index-call.ensures; address = c.at.ensures }
