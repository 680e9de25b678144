use Rattle.std.proofs.Common.{ℕ, List, None, ap, sym, subst}
use Rattle.entry_model.specs.Seen.{seen}
use Rattle.entry_model.specs.declared.value.Value.{Value}
use Rattle.syslog_parser.specs.declared.fault.SyslogFault.{SyslogFault}
use Rattle.syslog_parser.specs.Faults.{IsFault5424}
use Rattle.syslog_parser.specs.Inner.Reads.{PutsTail}
use Rattle.syslog_parser.proofs.Tops.{no_time, header_within, header_faulty, data_within, data_faulty, tells_5424}
use Rattle.syslog_parser.proofs.rfc5424.read_5424.Goals as goal

pub returns-in_default-read_version-clause-fault : goal.returns-in_default-read_version-clause-fault
returns-in_default-read_version-clause-fault c =
    record { priority = c.in-Some.priority; rest = c.in-Some.versioned.now; priority_is = c.in-Some.ensures.some; none = c.in_default-read_version.ensures.none }

pub returns-in_default-read_time-clause-fault : goal.returns-in_default-read_time-clause-fault
returns-in_default-read_time-clause-fault c =
    no_time c.args.text.now c.in-Some.versioned.now c.in-Some-read_version.timed.now c.in-Some-read_version.timed.now c.in-Some.priority None c.in-Some.ensures.some
    c.in-Some-read_version.ensures.some c.in_default-read_time.ensures.none

pub in_header-requires : goal.in_header-requires
in_header-requires c =
    header_within c.args.text.now c.in-Some.versioned.now c.in-Some-read_version.timed.now c.in-Some-read_time.named.now c.in-Some.priority c.in-Some-read_time.timestamp c.in-Some.ensures.some c.in-Some-read_version.ensures.some c.in-Some-read_time.ensures.some
    c.in-Err.stop c.in-Err.ensures.fault

pub returns-in-Err-clause-fault : goal.returns-in-Err-clause-fault
returns-in-Err-clause-fault c =
    subst (λ (f : SyslogFault). IsFault5424 c.args.text.now f) (sym c.in_header.ensures)
    (header_faulty c.args.text.now c.in-Some.versioned.now c.in-Some-read_version.timed.now c.in-Some-read_time.named.now c.in-Some.priority c.in-Some-read_time.timestamp c.in-Some.ensures.some c.in-Some-read_version.ensures.some c.in-Some-read_time.ensures.some
    c.in-Err.stop c.in-Err.ensures.fault)

pub in_structured-requires : goal.in_structured-requires
in_structured-requires c =
    data_within c.args.text.now c.in-Some.versioned.now c.in-Some-read_version.timed.now c.in-Some-read_time.named.now c.in-Some.priority c.in-Some-read_time.timestamp c.in-Some.ensures.some c.in-Some-read_version.ensures.some c.in-Some-read_time.ensures.some
    c.in-Ok.rest.now c.in-Ok.ensures.ok.values c.in-Ok.ensures.ok.fields c.in-Err-put_tail.stop c.in-Err-put_tail.ensures.fault

pub returns-in_ok-finish-in-Ok-put_tail-clause-ok : goal.returns-in_ok-finish-in-Ok-put_tail-clause-ok
returns-in_ok-finish-in-Ok-put_tail-clause-ok c =
    tells_5424 c.args.text.now c.in-Some.versioned.now c.in-Some-read_version.timed.now c.in-Some-read_time.named.now c.in-Some.priority c.in-Some-read_time.timestamp c.in-Some.ensures.some c.in-Some-read_version.ensures.some c.in-Some-read_time.ensures.some
    c.in-Ok.rest.now c.in-Ok.ensures.ok.values c.in-Ok.ensures.ok.fields
    (seen c.new-fields.result.entries) (seen c.put_priority.new.members.entries) (seen c.put_number.new.members.entries) (seen c.put_header.new.members.entries) (seen c.in_ok-finish-in-Ok-put_tail.field-0.entries)
    (ap seen c.new-fields.ensures) c.in_ok-put_priority.ensures c.in_ok-put_number.ensures c.in-Ok.ensures.ok.told
    (subst (λ (es : List (List ℕ × Value)). PutsTail c.in-Ok.rest.now (seen c.put_header.new.members.entries) (seen es)) (sym c.in_ok-finish-in-Ok-put_tail.ensures) c.in-Ok-put_tail.ensures.ok)

pub returns-in-Err-put_tail-clause-fault : goal.returns-in-Err-put_tail-clause-fault
returns-in-Err-put_tail-clause-fault c =
    subst (λ (f : SyslogFault). IsFault5424 c.args.text.now f) (sym c.in_structured.ensures)
    (data_faulty c.args.text.now c.in-Some.versioned.now c.in-Some-read_version.timed.now c.in-Some-read_time.named.now c.in-Some.priority c.in-Some-read_time.timestamp c.in-Some.ensures.some c.in-Some-read_version.ensures.some c.in-Some-read_time.ensures.some
    c.in-Ok.rest.now c.in-Ok.ensures.ok.values c.in-Ok.ensures.ok.fields c.in-Err-put_tail.stop c.in-Err-put_tail.ensures.fault)
