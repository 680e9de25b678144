use Rattle.std.proofs.Common.{◌∙◌, sym}
use Rattle.json_text.proofs.Steps.{plain_string}
use Rattle.json_text.proofs.strings.string.Goals as goal

pub returns-then-stands : goal.returns-then-stands
returns-then-stands c =
    plain_string c.args.text.now c.args.at c.plain_end-end.result c.in_ok-content.content c.requires.0 c.plain_end-end.ensures (sym c.stands.ensures ∙ c.if-stands.true)
    (c.in_ok-content.ensures ∙ c.range.ensures.value)
