use Rattle.std.proofs.Common.{◌∙◌}
use Rattle.whole_runs.proofs.Taking.{is_earlier}
use Rattle.whole_runs.proofs.ascending.is_before.Goals as goal

pub returns : goal.returns
returns c = c.is_lt.ensures ∙ is_earlier c.args.at.now c.args.other.now c.cmp.result c.cmp.ensures
