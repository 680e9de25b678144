use Rattle.std.proofs.Common.{rules}
use Rattle.time_layout.proofs.Instants.{instant_is}
use Rattle.time_layout.proofs.calendar.instant_of.Goals as goal

pub returns-in-Some : goal.returns-in-Some
returns-in-Some c = instant_is c.args.said c.in-Some.day c.nanoseconds_since.result c.counted.result c.in-Some.ensures.some.0 c.in-Some.ensures.some.1 (search rules) (search rules)
