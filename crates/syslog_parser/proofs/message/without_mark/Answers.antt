use Rattle.syslog_parser.proofs.Marks.{mark_cut, no_mark}
use Rattle.syslog_parser.proofs.message.without_mark.Goals as goal

pub returns-in-Some : goal.returns-in-Some
returns-in-Some c = let s = c.in-Some.ensures.cases in mark_cut c.args.text.now c.in-Some.rest.now s.0 s.1 s.2

pub returns-in-None : goal.returns-in-None
returns-in-None c = no_mark c.args.text.now c.in-None.ensures.cases
