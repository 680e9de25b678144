use Rattle.std.proofs.Common.{◌∙◌, sym}
use Rattle.json_text.proofs.Steps.{expect_ok, expect_fault}
use Rattle.json_text.proofs.bytes.expect.Goals as goal

pub returns-then-stands-clause-ok : goal.returns-then-stands-clause-ok
returns-then-stands-clause-ok c =
    expect_ok c.args.text.now c.args.at c.args.wanted c.skip_blanks-at.result c.requires c.skip_blanks-at.ensures (sym c.stands.ensures ∙ c.if-stands.true)

pub returns-clause-fault : goal.returns-clause-fault
returns-clause-fault c =
    expect_fault c.args.text.now c.args.at c.args.wanted c.skip_blanks-at.result c.requires c.skip_blanks-at.ensures (sym c.stands.ensures ∙ c.if-stands.false)
