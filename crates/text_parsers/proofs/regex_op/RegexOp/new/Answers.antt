use Rattle.std.proofs.Common.{◌∙◌, ap, sym}
use Rattle.std.proofs.lemmas.Bool.{false≢true}
use Rattle.text_parsers.specs.Groups.{named_groups}
use Rattle.text_parsers.proofs.Matching.{names_are_read}
use Rattle.text_parsers.proofs.regex_op.RegexOp.new.Goals as goal

pub returns-then-is_empty-clause-fault : goal.returns-then-is_empty-clause-fault
returns-then-is_empty-clause-fault c =
    let names = names_are_read c.in-Ok.pattern.regex c.in-Ok.pattern.read c.args.pattern.now c.in-Ok.ensures.source in
    (c.in-Ok.ensures.read, ap named_groups (sym names) ∙ sym c.in_ok-groups.ensures ∙ c.is_empty.ensures.0 c.if-is_empty.true)

pub returns-clause-named : goal.returns-clause-named
returns-clause-named c = λ e.
    (let names = names_are_read c.in-Ok.pattern.regex c.in-Ok.pattern.read c.args.pattern.now c.in-Ok.ensures.source in
    false≢true (sym c.if-is_empty.false ∙ c.is_empty.ensures.1 (c.in_ok-groups.ensures ∙ ap named_groups names ∙ e)))
