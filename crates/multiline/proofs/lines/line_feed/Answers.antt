use Rattle.multiline.proofs.LineLemmas.{none_in_part, none_before_in_part}
use Rattle.multiline.proofs.lines.line_feed.Goals as goal

pub returns-in-Some-clause-before : goal.returns-in-Some-clause-before
returns-in-Some-clause-before c = none_before_in_part c.args.bytes.now c.args.from c.args.to c.in-Some.place c.in-Some.ensures

pub returns-in-None-clause-none : goal.returns-in-None-clause-none
returns-in-None-clause-none c = none_in_part c.args.bytes.now c.args.from c.args.to c.requires.within c.in-None.ensures
