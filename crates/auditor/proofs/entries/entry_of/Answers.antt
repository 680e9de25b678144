use Rattle.std.specs.Prelude.{string_bytes}
use Rattle.std.proofs.Common.{◌≡◌, ◌<◌, [], ◌∷◌, length, sym, ap, ◌∙◌}
use Rattle.entry_model.specs.LogRecord.{LogRecord}
use Rattle.pipeline.specs.Entries.{record_with, text_of}
use Rattle.auditor.proofs.Taking.{one_record}
use Rattle.auditor.proofs.entries.entry_of.Goals as goal

pub returns : goal.returns
returns c = λ path shared.
    let settings = c.args.settings.now in
    let text : string_bytes c.in-Some.body ≡ text_of settings c.args.token.now = rw c.in-Some.is at c.in_ok-body.ensures.some in
    let some : 0 < length (text_of settings c.args.token.now) = rw c.in-Some.is at c.in_ok-body.ensures.not_empty in
    let is = c.in_ok-record.ensures ∙ c.in_ok-entry.ensures path shared ∙ ap (record_with settings path c.args.number) text in
    ap (λ (r : LogRecord). r ∷ []) is ∙ sym (one_record settings path c.args.number (text_of settings c.args.token.now) some)
