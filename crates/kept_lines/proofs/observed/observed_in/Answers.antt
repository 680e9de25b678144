use Rattle.std.specs.Prelude.{None}
use Rattle.entry_model.specs.LogRecord.{log_record}
use Rattle.kept_lines.proofs.Times.{not_made, none_found}
use Rattle.kept_lines.proofs.observed.observed_in.Goals as goal

pub returns-in_default : goal.returns-in_default
returns-in_default c =
    not_made c.args.id c.args.number c.args.stamped (log_record c.args.entry.now) c.args.line.now c.line_tells_its_time.ensures None c.in_default.ensures.told (λ time e f. none_found time e f)
