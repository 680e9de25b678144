use mir.Syntax.{w32}
use Rattle.std.proofs.Common.{ℤ, subst}
use Rattle.std.proofs.lemmas.Int.{to_z-of_z}
use Rattle.op_kinds.proofs.Syslog.{told_3164}
use Rattle.op_kinds.proofs.types.syslog_parsing.by_3164.Goals as goal
use Rattle.syslog_parser.specs.Faults.{Tells3164}
use Rattle.syslog_parser.specs.Told.{meaning_of}

pub returns-in-Ok-clause-ok : goal.returns-in-Ok-clause-ok
returns-in-Ok-clause-ok c =
    told_3164 c.args.year c.args.location c.args.text.now (meaning_of c.in-Ok.syslog)
    (subst (λ (z : ℤ). Tells3164 c.args.year z c.args.text.now (meaning_of c.in-Ok.syslog)) (to_z-of_z w32 c.args.location c.ranges.location) c.in-Ok.ensures.ok)
