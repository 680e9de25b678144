use Rattle.std.proofs.Common.{sym, ◌∙◌, arith, length}
use Rattle.std.proofs.lemmas.List.{take_all}
use Rattle.idle_flush.proofs.RestLemmas.{line_end_cut, no_line_end}
use Rattle.idle_flush.proofs.rests.last_text_end.Goals as goal

pub returns-then-bytes-last-eq10-clause-text : goal.returns-then-bytes-last-eq10-clause-text
returns-then-bytes-last-eq10-clause-text c = c.text_end.ensures.text ∙ sym (line_end_cut c.args.bytes.now c.if-bytes-last-eq10.true)

pub returns-else-bytes-last-eq10-clause-text : goal.returns-else-bytes-last-eq10-clause-text
returns-else-bytes-last-eq10-clause-text c = take_all (length c.args.bytes.now) c.args.bytes.now (omega arith) ∙ sym (no_line_end c.args.bytes.now c.if-bytes-last-eq10.false)
