use Rattle.std.proofs.Common.{ℕ, List, ◌∙◌, ap, sym}
use Rattle.entry_model.specs.Datum.{fields, members_of}
use Rattle.entry_model.specs.Seen.{seen}
use Rattle.entry_model.specs.declared.value.Value.{Value}
use Rattle.syslog_parser.specs.Bytes.{is_name_byte}
use Rattle.syslog_parser.specs.Inner.Reads.{HasNoWord, ends_id, StopsInParams, StopsInElement}
use Rattle.syslog_parser.specs.Told.{put}
use Rattle.syslog_parser.proofs.ReadingData.{bracket_fault, id_fault, params_fault, element_read}
use Rattle.syslog_parser.proofs.Stops.{stops_so}
use Rattle.syslog_parser.proofs.Words.{first_is}
use Rattle.syslog_parser.proofs.data.put_element.Goals as goal

pub returns-then-not-stands-clause-fault : goal.returns-then-not-stands-clause-fault
returns-then-not-stands-clause-fault c = bracket_fault c.args.text.now (sym c.stands.ensures ∙ c.if-not-stands.true)

pub returns-in-Err-clause-fault : goal.returns-in-Err-clause-fault
returns-in-Err-clause-fault c =
    stops_so (HasNoWord is_name_byte 32 ends_id c.cut.result.1.now) (StopsInElement c.args.text.now)
    (id_fault c.args.text.now c.cut.result.1.now (first_is c.args.text.now c.cut.result.1.now 91 (sym c.stands.ensures ∙ c.if-not-stands.false) c.cut.ensures.behind))
    c.in-Err.stop c.in-Err.ensures.fault

pub returns-in-Err-put_params-clause-fault : goal.returns-in-Err-put_params-clause-fault
returns-in-Err-put_params-clause-fault c =
    stops_so (StopsInParams c.in-Ok.read.1.now) (StopsInElement c.args.text.now)
    (params_fault c.args.text.now c.cut.result.1.now (first_is c.args.text.now c.cut.result.1.now 91 (sym c.stands.ensures ∙ c.if-not-stands.false) c.cut.ensures.behind)
    c.in-Ok.read.0.now c.in-Ok.read.1.now c.in-Ok.ensures.ok)
    c.in-Err-put_params.stop c.in-Err-put_params.ensures.fault

pub returns-clause-ok : goal.returns-clause-ok
returns-clause-ok c =
    element_read c.args.text.now c.cut.result.1.now (first_is c.args.text.now c.cut.result.1.now 91 (sym c.stands.ensures ∙ c.if-not-stands.false) c.cut.ensures.behind)
    c.in-Ok.read.0.now c.in-Ok.read.1.now c.in-Ok.ensures.ok c.in-Ok-put_params.rest.now
    (seen c.new-params.result.entries) (seen c.put_params.new.members.entries) (seen c.args.members.now.entries) (seen c.put_map.new.members.entries)
    (ap seen c.new-params.ensures) c.in-Ok-put_params.ensures.ok
    (c.in_ok-put_map.ensures ∙ ap (λ (es : List (List ℕ × Value)). put (seen c.args.members.now.entries) (c.in-Ok.read.0.now, fields (members_of (seen es)))) c.in_ok-finish.ensures)
