use Rattle.std.proofs.Common.{◌∙◌, ap, sym}
use Rattle.std.proofs.lemmas.Str.{utf8_lossy-IsUtf8}
use Rattle.regex.specs.Strings.{regex_source}
use Rattle.multiline.specs.Patterns.{is_found}
use Rattle.multiline.specs.Cutting.{is_marked}
use Rattle.multiline.proofs.pattern.Search.marks.Goals as goal

pub returns-in-Ok-clause-marked : goal.returns-in-Ok-clause-marked
unfolding is_marked
returns-in-Ok-clause-marked c =
    let source = regex_source c.args.self.now.pattern.now.regex in
    c.is_in.ensures.found ∙ ap (is_found source) (c.in-Ok.ensures.cases.0 ∙ sym (utf8_lossy-IsUtf8 c.args.line.now c.in-Ok.ensures.cases.1))

pub returns-clause-marked : goal.returns-clause-marked
unfolding is_marked
returns-clause-marked c =
    let source = regex_source c.args.self.now.pattern.now.regex in
    c.is_in-2.ensures.found ∙ ap (is_found source) (c.as_str.ensures.value ∙ c.in_ok-text.ensures.lossy)
