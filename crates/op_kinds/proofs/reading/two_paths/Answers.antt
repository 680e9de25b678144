use Rattle.std.proofs.lemmas.Result.{err_from_is_err_and}
use Rattle.op_kinds.proofs.Readings.{first_path, second_path, one_is_read}
use Rattle.op_kinds.specs.Readings.{path}
use Rattle.op_kinds.proofs.reading.two_paths.Goals as goal

pub returns-in_err-first-clause-cause : goal.returns-in_err-first-clause-cause
returns-in_err-first-clause-cause c =
    let p = err_from_is_err_and c.from_residual.result c.from_residual.ensures.1 in
    rw (p.1, p.2) (first_path c.args.from.now c.args.to.now _ c.in_err-first.ensures.cause)

pub returns-in_err-second-clause-cause : goal.returns-in_err-second-clause-cause
returns-in_err-second-clause-cause c =
    let p = err_from_is_err_and c.from_residual-in_err-second.result c.from_residual-in_err-second.ensures.1 in
    rw (p.1, p.2) (second_path c.args.from.now c.args.to.now _ (one_is_read (path c.args.from.now) (λ none. none c.in_ok-first.first c.in_ok-first.ensures.ok)) c.in_err-second.ensures.cause)
