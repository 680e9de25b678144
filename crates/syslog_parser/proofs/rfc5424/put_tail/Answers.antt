use Rattle.entry_model.specs.Seen.{seen}
use Rattle.syslog_parser.specs.Inner.Reads.{HasNoEnd, StopsInData}
use Rattle.syslog_parser.proofs.ReadingData.{tail_fault, tail_read}
use Rattle.syslog_parser.proofs.Stops.{stops_so}
use Rattle.syslog_parser.proofs.rfc5424.put_tail.Goals as goal

pub returns-in-Ok-put_end-clause-ok : goal.returns-in-Ok-put_end-clause-ok
returns-in-Ok-put_end-clause-ok c =
    tail_read c.args.text.now c.in-Ok.rest.now (seen c.args.members.now.entries) (seen c.put_data.new.members.entries) (seen c.put_end.new.members.entries) c.in-Ok.ensures.ok c.in-Ok-put_end.ensures.ok

pub returns-in-Err-put_end-clause-fault : goal.returns-in-Err-put_end-clause-fault
returns-in-Err-put_end-clause-fault c =
    stops_so (HasNoEnd c.in-Ok.rest.now) (StopsInData c.args.text.now)
    (λ left found. tail_fault c.args.text.now c.in-Ok.rest.now (seen c.args.members.now.entries) (seen c.put_data.new.members.entries) left c.in-Ok.ensures.ok found)
    c.in-Err-put_end.stop c.in-Err-put_end.ensures.fault
