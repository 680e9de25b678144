use Rattle.std.proofs.Common.{ℕ, List, ◌∙◌, ap, sym, codes}
use Rattle.entry_model.specs.Datum.{fields, members_of}
use Rattle.entry_model.specs.Seen.{seen}
use Rattle.entry_model.specs.declared.value.Value.{Value}
use Rattle.syslog_parser.specs.Inner.Reads.{StopsInElement, StopsInData}
use Rattle.syslog_parser.specs.Told.{put}
use Rattle.syslog_parser.proofs.ReadingData.{dash_read, data_fault, data_read}
use Rattle.syslog_parser.proofs.Stops.{stops_so}
use Rattle.syslog_parser.proofs.Words.{first_is}
use Rattle.syslog_parser.proofs.data.put_data.Goals as goal

pub returns-then-stands-clause-ok : goal.returns-then-stands-clause-ok
returns-then-stands-clause-ok c =
    dash_read c.args.text.now c.cut.result.1.now (seen c.args.members.now.entries)
    (first_is c.args.text.now c.cut.result.1.now 45 (sym c.stands.ensures ∙ c.if-stands.true) c.cut.ensures.behind)

pub returns-in-Err-clause-fault : goal.returns-in-Err-clause-fault
returns-in-Err-clause-fault c =
    stops_so (StopsInElement c.args.text.now) (StopsInData c.args.text.now) (data_fault c.args.text.now (sym c.stands.ensures ∙ c.if-stands.false)) c.in-Err.stop c.in-Err.ensures.fault

pub returns-clause-ok : goal.returns-clause-ok
returns-clause-ok c =
    data_read c.args.text.now (sym c.stands.ensures ∙ c.if-stands.false) c.in-Ok.rest.now
    (seen c.new-elements.result.entries) (seen c.put_elements.new.members.entries) (seen c.args.members.now.entries) (seen c.put_map.new.members.entries)
    (ap seen c.new-elements.ensures) c.in-Ok.ensures.ok
    (c.in_ok-put_map.ensures ∙ ap (λ (es : List (List ℕ × Value)). put (seen c.args.members.now.entries) (codes "structured_data", fields (members_of (seen es)))) c.in_ok-finish.ensures)
