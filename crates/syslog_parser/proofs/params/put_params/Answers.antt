use Rattle.std.proofs.Common.{rules, ◌∙◌, sym}
use Rattle.entry_model.specs.Seen.{seen}
use Rattle.syslog_parser.specs.Inner.Reads.{StopsInParam, StopsInParams}
use Rattle.syslog_parser.proofs.Lengths.{param_less, less_behind}
use Rattle.syslog_parser.proofs.ReadingParams.{no_params_read, params_done, params_fault_here, params_fault_in, params_more}
use Rattle.syslog_parser.proofs.Stops.{stops_so}
use Rattle.syslog_parser.proofs.Words.{first_is}
use Rattle.syslog_parser.proofs.params.put_params.Goals as goal

pub params-init : goal.params-init
params-init c = record { utf8 = c.utf8.text; read = no_params_read c.args.text.now (seen c.args.members.now.entries) }

pub returns-then-stands-clause-ok : goal.returns-then-stands-clause-ok
returns-then-stands-clause-ok c =
    params_done c.args.text.now c.params.rest.now (seen c.args.members.now.entries) (seen c.params.members.entries) c.params.invariant.read c.cut.result.1.now
    (first_is c.params.rest.now c.cut.result.1.now 93 (sym c.stands.ensures ∙ c.if-stands.true) c.cut.ensures.behind)

pub returns-then-not-stands-clause-fault : goal.returns-then-not-stands-clause-fault
returns-then-not-stands-clause-fault c =
    params_fault_here c.args.text.now c.params.rest.now (seen c.args.members.now.entries) (seen c.params.members.entries) c.params.invariant.read
    (sym c.stands.ensures ∙ c.if-stands.false) (sym c.stands-in-params.ensures ∙ c.if-not-stands.true)

pub returns-in-Err-clause-fault : goal.returns-in-Err-clause-fault
returns-in-Err-clause-fault c =
    stops_so (StopsInParam c.cut-in-params.result.1.now) (StopsInParams c.args.text.now)
    (params_fault_in c.args.text.now c.params.rest.now (seen c.args.members.now.entries) (seen c.params.members.entries) c.params.invariant.read c.cut-in-params.result.1.now
    (first_is c.params.rest.now c.cut-in-params.result.1.now 32 (sym c.stands-in-params.ensures ∙ c.if-not-stands.false) c.cut-in-params.ensures.behind))
    c.in-Err.stop c.in-Err.ensures.fault

pub params-smaller : goal.params-smaller
params-smaller c =
    less_behind c.params.rest.now c.cut-in-params.result.1.now c.in-Ok.next.now 32
    (first_is c.params.rest.now c.cut-in-params.result.1.now 32 (sym c.stands-in-params.ensures ∙ c.if-not-stands.false) c.cut-in-params.ensures.behind)
    (param_less c.in-Ok.ensures.ok.spelled)

pub params-preserved : goal.params-preserved
params-preserved c = record {
  utf8 = search rules;
  read =
      params_more c.args.text.now c.params.rest.now (seen c.args.members.now.entries) (seen c.params.members.entries) c.params.invariant.read c.cut-in-params.result.1.now
      (first_is c.params.rest.now c.cut-in-params.result.1.now 32 (sym c.stands-in-params.ensures ∙ c.if-not-stands.false) c.cut-in-params.ensures.behind)
      (seen c.put_param.new.members.entries) c.in-Ok.next.now c.in-Ok.ensures.ok;
}
