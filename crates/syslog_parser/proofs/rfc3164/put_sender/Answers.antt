use Rattle.std.proofs.Common.{◌≡◌, ◌∙◌, List, ℕ, ap, codes}
use Rattle.entry_model.specs.Datum.{text}
use Rattle.entry_model.specs.Seen.{seen}
use Rattle.syslog_parser.specs.Inner.Senders.{tail_of}
use Rattle.syslog_parser.specs.Told.{put, put_all, told_message, told_sender}
use Rattle.syslog_parser.proofs.Stops.{on_ok}
use Rattle.syslog_parser.proofs.Tops.{sender_told}
use Rattle.syslog_parser.proofs.rfc3164.put_sender.Goals as goal

pub returns : goal.returns
returns c =
    on_ok (seen c.put_message.new.members.entries ≡ put_all (seen c.put_process.new.members.entries) (told_message c.args.sender.message.now))
    (seen c.put_message.new.members.entries ≡ put_all (seen c.args.members.now.entries) (told_sender (tail_of c.args.sender)))
    (sender_told (tail_of c.args.sender) (seen c.args.members.now.entries) (seen c.put_text.new.members.entries) (seen c.put_text-2.new.members.entries)
    (seen c.put_process.new.members.entries) (seen c.put_message.new.members.entries)
    (c.in_ok-put_text.ensures ∙ ap (λ (v : List ℕ). put (seen c.args.members.now.entries) (codes "hostname", text v)) c.in_ok-from_str.ensures)
    (c.in_ok-put_text-2.ensures ∙ ap (λ (v : List ℕ). put (seen c.put_text.new.members.entries) (codes "appname", text v)) c.in_ok-from_str-2.ensures)
    c.in_ok-put_process.ensures)
    c.put_message.result c.put_message.ensures
