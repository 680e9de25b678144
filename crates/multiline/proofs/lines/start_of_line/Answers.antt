use Rattle.multiline.proofs.LineLemmas.{line_start-behind, line_start-front}
use Rattle.multiline.proofs.lines.start_of_line.Goals as goal

pub returns-in-Some-clause-start : goal.returns-in-Some-clause-start
returns-in-Some-clause-start c = line_start-behind c.args.bytes.now c.args.place c.in-Some.before c.requires c.in-Some.ensures

pub returns-in-None-clause-start : goal.returns-in-None-clause-start
returns-in-None-clause-start c = line_start-front c.args.bytes.now c.args.place c.requires c.in-None.ensures
