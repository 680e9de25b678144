-- The part that stays is empty exactly where the text is.
use Rattle.std.proofs.Common.{sym, ◌∙◌}
use Rattle.line_splitter.proofs.EntryLemmas.{entry_text_is, entry_text_empty, entry_text_some}
use Rattle.line_splitter.proofs.texts.entry_text.Goals as goal

pub returns-then-from-to-clause-none : goal.returns-then-from-to-clause-none
returns-then-from-to-clause-none c =
    entry_text_empty c.args.leading c.args.trailing c.args.token.now c.trim-from.result.0 c.trim-from.result.1 c.trim-from.ensures.from c.trim-from.ensures.to c.if-from-to.true

pub returns-clause-some : goal.returns-clause-some
returns-clause-some c =
    c.in_ok-text_of.ensures
    ∙ sym (entry_text_is c.args.leading c.args.trailing c.args.token.now c.trim-from.result.0 c.trim-from.result.1 c.trim-from.ensures.from c.trim-from.ensures.to)

pub returns-clause-not_empty : goal.returns-clause-not_empty
returns-clause-not_empty c =
    entry_text_some c.args.leading c.args.trailing c.args.token.now c.trim-from.result.0 c.trim-from.result.1 c.trim-from.ensures.from c.trim-from.ensures.to c.if-from-to.false
