use Rattle.kept_lines.proofs.Texts.{whose_none}
use Rattle.kept_lines.proofs.splitting.file_of.Goals as goal

pub returns-in_default : goal.returns-in_default
returns-in_default c = whose_none c.args.line.now c.in_default.ensures
