use Rattle.std.proofs.lemmas.Result.{err_from_is_err_and}
use Rattle.op_kinds.specs.Readings.{own_readings, condition_readings}
use Rattle.op_kinds.proofs.Compiled.{work_is_read}
use Rattle.op_kinds.proofs.Readings.{caused_behind}
use Rattle.op_kinds.proofs.compiling.compile.Goals as goal

pub returns-in_err-condition-in-Ok-clause-cause : goal.returns-in_err-condition-in-Ok-clause-cause
returns-in_err-condition-in-Ok-clause-cause c =
    let p = err_from_is_err_and c.from_residual.result c.from_residual.ensures.1 in
    rw (p.1, p.2) (caused_behind (own_readings c.args.spec.now.kind) (condition_readings c.args.spec.now.condition) _ (work_is_read c.args.spec.now.kind c.in-Ok.work c.in-Ok.ensures.ok) c.in_err-condition-in-Ok.ensures.cause)

pub returns-in-Err-clause-cause : goal.returns-in-Err-clause-cause
returns-in-Err-clause-cause c = c.refusal.ensures (own_readings c.args.spec.now.kind) c.in-Err.ensures.cause
