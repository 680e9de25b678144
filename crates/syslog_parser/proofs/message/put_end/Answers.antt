use Rattle.std.proofs.Common.{◌∙◌, List, ℕ, ap, sym, length, eqb-true}
use Rattle.std.proofs.lemmas.List.{nil_from_length}
use Rattle.entry_model.specs.Seen.{seen}
use Rattle.syslog_parser.specs.Told.{put_all, told_message}
use Rattle.syslog_parser.proofs.Marks.{no_message_put, message_put}
use Rattle.syslog_parser.proofs.Words.{first_is}
use Rattle.syslog_parser.proofs.message.put_end.Goals as goal

pub returns-then-is_empty-clause-ok : goal.returns-then-is_empty-clause-ok
returns-then-is_empty-clause-ok c =
    no_message_put c.args.text.now (seen c.args.members.now.entries)
    (nil_from_length c.args.text.now (eqb-true (length c.args.text.now) 0 (sym c.is_empty.ensures ∙ c.if-is_empty.true)))

pub returns-clause-ok : goal.returns-clause-ok
returns-clause-ok c =
    message_put c.args.text.now c.cut.result.1.now (seen c.args.members.now.entries) (seen c.put_message.new.members.entries)
    (first_is c.args.text.now c.cut.result.1.now 32 (sym c.stands.ensures ∙ c.if-not-stands.false) c.cut.ensures.behind)
    (c.in_ok-put_message.ensures ∙ ap (λ (l : List ℕ). put_all (seen c.args.members.now.entries) (told_message l)) c.without_mark.ensures)
