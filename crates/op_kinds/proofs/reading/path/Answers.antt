use Rattle.std.proofs.lemmas.Result.{err_from_is_err_and}
use Rattle.op_kinds.proofs.Readings.{no_path_of}
use Rattle.op_kinds.proofs.reading.path.Goals as goal

pub returns-in_err-read-clause-cause : goal.returns-in_err-read-clause-cause
returns-in_err-read-clause-cause c =
    let p = err_from_is_err_and c.from_residual.result c.from_residual.ensures.1 in
    rw (p.1, p.2) (no_path_of c.args.text.now _ (rw c.as_str.ensures at c.in_err-read.ensures.fault))
