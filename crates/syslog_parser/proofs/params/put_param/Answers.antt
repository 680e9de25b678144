use Rattle.std.proofs.Common.{◌∙◌, sym}
use Rattle.syslog_parser.specs.Bytes.{is_name_byte}
use Rattle.syslog_parser.specs.Inner.Reads.{HasNoWord, is_equals_sign, StopsInValue, StopsInParam}
use Rattle.syslog_parser.proofs.ReadingParams.{name_fault, quote_fault, value_fault, param_read}
use Rattle.syslog_parser.proofs.Stops.{stops_so}
use Rattle.syslog_parser.proofs.Words.{first_is}
use Rattle.syslog_parser.proofs.params.put_param.Goals as goal

pub returns-in-Err-clause-fault : goal.returns-in-Err-clause-fault
returns-in-Err-clause-fault c =
    stops_so (HasNoWord is_name_byte 32 is_equals_sign c.args.text.now) (StopsInParam c.args.text.now) (name_fault c.args.text.now) c.in-Err.stop c.in-Err.ensures.fault

pub returns-then-not-stands-clause-fault : goal.returns-then-not-stands-clause-fault
returns-then-not-stands-clause-fault c =
    quote_fault c.args.text.now c.in-Ok.read.0.now c.in-Ok.read.1.now c.in-Ok.ensures.ok (sym c.stands.ensures ∙ c.if-not-stands.true)

pub returns-in-Err-read_value-clause-fault : goal.returns-in-Err-read_value-clause-fault
returns-in-Err-read_value-clause-fault c =
    stops_so (StopsInValue c.cut.result.1.now) (StopsInParam c.args.text.now)
    (λ left stop. value_fault c.args.text.now c.in-Ok.read.0.now c.in-Ok.read.1.now c.cut.result.1.now left c.in-Ok.ensures.ok
    (first_is c.in-Ok.read.1.now c.cut.result.1.now 34 (sym c.stands.ensures ∙ c.if-not-stands.false) c.cut.ensures.behind) stop)
    c.in-Err-read_value.stop c.in-Err-read_value.ensures.fault

pub returns-clause-ok : goal.returns-clause-ok
returns-clause-ok c = record {
  param = (c.in-Ok.read.0.now, c.in-Ok-read_value.read.0);
  spelled =
      param_read c.args.text.now c.in-Ok.read.0.now c.in-Ok.read.1.now c.cut.result.1.now c.in-Ok-read_value.read.0 c.in-Ok-read_value.read.1.now c.in-Ok.ensures.ok
      (first_is c.in-Ok.read.1.now c.cut.result.1.now 34 (sym c.stands.ensures ∙ c.if-not-stands.false) c.cut.ensures.behind) c.in-Ok-read_value.ensures.ok;
  told = c.in_ok-put_text.ensures;
}
