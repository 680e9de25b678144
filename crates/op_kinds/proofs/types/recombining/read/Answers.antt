use Rattle.std.proofs.Common.{[], ◌∷◌}
use Rattle.std.proofs.lemmas.Result.{err_from_is_err_and}
use Rattle.op_kinds.specs.Readings.{path, expression, paths_if_any}
use Rattle.op_kinds.proofs.Compiled.{path_if_any_is_read}
use Rattle.op_kinds.proofs.Readings.{one_is_read, all_are_read, field_cause, source_cause, caused_behind}
use Rattle.op_kinds.proofs.types.recombining.read.Goals as goal

pub returns-in_err-field-clause-cause : goal.returns-in_err-field-clause-cause
returns-in_err-field-clause-cause c =
    let p = err_from_is_err_and c.from_residual.result c.from_residual.ensures.1 in
    rw (p.1, p.2) (field_cause c.args.field.now c.args.mark.now c.args.source.now _ c.in_err-field.ensures.cause)

pub returns-in_err-source-clause-cause : goal.returns-in_err-source-clause-cause
returns-in_err-source-clause-cause c =
    let p = err_from_is_err_and c.from_residual-in_err-source.result c.from_residual-in_err-source.ensures.1 in
    rw (p.1, p.2) (source_cause c.args.field.now c.args.mark.now c.args.source.now _
    (one_is_read (path c.args.field.now) (λ none. none c.in_ok-field.field c.in_ok-field.ensures.ok)) c.in_err-source.ensures.cause)

pub returns-in_err-mark-clause-cause : goal.returns-in_err-mark-clause-cause
returns-in_err-mark-clause-cause c =
    let p = err_from_is_err_and c.from_residual-in_err-mark.result c.from_residual-in_err-mark.ensures.1 in
    rw (p.1, p.2)
    (caused_behind (path c.args.field.now ∷ paths_if_any c.args.source.now) (expression c.args.mark.now ∷ []) _
    (all_are_read (path c.args.field.now ∷ []) (paths_if_any c.args.source.now) (one_is_read (path c.args.field.now) (λ none. none c.in_ok-field.field c.in_ok-field.ensures.ok))
    (path_if_any_is_read c.args.source.now c.in_ok-source.source c.in_ok-source.ensures.ok)) c.in_err-mark.ensures.cause)
