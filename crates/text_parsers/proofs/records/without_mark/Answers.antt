use Rattle.std.proofs.Common.{◌∙◌, sym}
use Rattle.std.proofs.lemmas.List.{take_rest}
use Rattle.text_parsers.proofs.ReadRecords.{behind_mark, no_mark}
use Rattle.text_parsers.proofs.records.without_mark.Goals as goal

pub returns-then-starts_with : goal.returns-then-starts_with
returns-then-starts_with c = take_rest c.args.bytes.now 3 ∙ sym (behind_mark c.args.bytes.now (sym c.starts_with.ensures.value ∙ c.if-starts_with.true))

pub returns : goal.returns
returns c = sym (no_mark c.args.bytes.now (sym c.starts_with.ensures.value ∙ c.if-starts_with.false))
