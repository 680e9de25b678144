use Rattle.time_layout.proofs.PlainTimes.{pair_read}
use Rattle.time_layout.proofs.atoms.number_at.Goals as goal

pub returns-clause-is : goal.returns-clause-is
returns-clause-is c = pair_read c.args.low c.args.high c.args.at c.in_ok-value.value c.args.text.now c.requires c.in_ok-value.ensures.is c.if-value-low.false c.if-high-value.false
