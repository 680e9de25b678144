use Rattle.std.proofs.Common.{arith}
use Rattle.std.proofs.lemmas.Result.{err_from_is_err_and}
use Rattle.poll_core.proofs.CallLemmas.{calls_then}
use Rattle.poll_core.proofs.OpenLemmas.{reopens_then, late_refusal, call_refusal_late}
use Rattle.poll_core.proofs.session.Session.open.Goals as goal

pub returns-in_err-session-clause-of_settings : goal.returns-in_err-session-clause-of_settings
returns-in_err-session-clause-of_settings g c =
    let p = err_from_is_err_and c.from_residual-in_err-session.result c.from_residual-in_err-session.ensures.1 in
    rw (p.1, p.2) (late_refusal c.args.settings.now c.in_ok-pipeline.pipeline _ c.in_ok-pipeline.ensures.made c.in_err-session.ensures.late)

pub returns-in_err-cut_behind-clause-of_settings : goal.returns-in_err-cut_behind-clause-of_settings
returns-in_err-cut_behind-clause-of_settings g c =
    let p = err_from_is_err_and c.from_residual-in_err-cut_behind.result c.from_residual-in_err-cut_behind.ensures.1 in
    rw (p.1, p.2) (call_refusal_late c.args.settings.now c.in_ok-pipeline.pipeline _ c.in_ok-pipeline.ensures.made)

pub returns-in_err-cut_behind-clause-crash : goal.returns-in_err-cut_behind-clause-crash
returns-in_err-cut_behind-clause-crash g c = reopens_then c.found_on.ensures.crash c.cut_behind.ensures.crash

pub returns-in_err-cut_behind-clause-calls : goal.returns-in_err-cut_behind-clause-calls
returns-in_err-cut_behind-clause-calls g c = calls_then 3 4 7 (omega arith) c.found_on.ensures.calls c.cut_behind.ensures.calls

pub returns-clause-crash : goal.returns-clause-crash
returns-clause-crash g c = reopens_then c.found_on.ensures.crash c.cut_behind.ensures.crash

pub returns-clause-calls : goal.returns-clause-calls
returns-clause-calls g c = calls_then 3 4 7 (omega arith) c.found_on.ensures.calls c.cut_behind.ensures.calls
