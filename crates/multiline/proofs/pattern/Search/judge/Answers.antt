use Rattle.regex.specs.Strings.{regex_source}
use Rattle.multiline.proofs.LineLemmas.{judged_marked, judged_none, judged_before}
use Rattle.multiline.proofs.pattern.Search.judge.Goals as goal

pub returns-in_ok-marks-in-Some-clause-judged : goal.returns-in_ok-marks-in-Some-clause-judged
returns-in_ok-marks-in-Some-clause-judged c =
    judged_marked c.args.boundary (regex_source c.args.self.now.pattern.now.regex) c.args.max c.args.bytes.now c.args.place _ c.in_ok-marks-in-Some.field-0 c.in-Start.is c.in-Some.ensures.some c.in_ok-marks-in-Some.ensures.marked

pub returns-in-None-clause-judged : goal.returns-in-None-clause-judged
returns-in-None-clause-judged c =
    judged_none c.args.boundary (regex_source c.args.self.now.pattern.now.regex) c.args.max c.args.bytes.now c.args.place c.in-Start.is c.in-None.ensures.none

pub returns-in_ok-marks-in-End-clause-judged : goal.returns-in_ok-marks-in-End-clause-judged
returns-in_ok-marks-in-End-clause-judged c =
    judged_before c.args.boundary (regex_source c.args.self.now.pattern.now.regex) c.args.max c.args.bytes.now c.args.place c.start_of_line-start.result c.text_of.result.now c.in_ok-marks-in-End.field-0
    c.in-End.is c.start_of_line-start.ensures.start c.start_of_line-start.ensures.within c.text_of.ensures.text c.in_ok-marks-in-End.ensures.marked
