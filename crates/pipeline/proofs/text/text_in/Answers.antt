use Rattle.std.proofs.Common.{slice_range, sym, ◌∙◌}
use Rattle.std.proofs.lemmas.Str.{utf8_lossy-IsUtf8}
use Rattle.line_splitter.proofs.EntryLemmas.{entry_text_is}
use Rattle.pipeline.proofs.text.text_in.Goals as goal

pub returns-in-Ok-clause-text : goal.returns-in-Ok-clause-text
returns-in-Ok-clause-text c =
    let token = c.args.token.now in
    let from = c.trim-from.result.0 in
    let to = c.trim-from.result.1 in
    c.in-Ok.ensures.cases.0
    ∙ sym (utf8_lossy-IsUtf8 (slice_range token from to) c.in-Ok.ensures.cases.1)
    ∙ sym (entry_text_is c.args.leading c.args.trailing token from to c.trim-from.ensures.from c.trim-from.ensures.to)
