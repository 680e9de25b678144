use Rattle.std.proofs.Common.{sym, take}
use Rattle.std.proofs.lemmas.Result.{err_from_is_err_and}
use Rattle.op_kinds.proofs.Compiled.{one_more_path_at, paths_are_read}
use Rattle.op_kinds.proofs.Readings.{path_at}
use Rattle.op_kinds.proofs.types.retaining.paths.Goals as goal

pub returns-in_err-path-clause-cause : goal.returns-in_err-path-clause-cause
returns-in_err-path-clause-cause c =
    let p = err_from_is_err_and c.from_residual.result c.from_residual.ensures.1 in
    rw (p.1, p.2) (path_at c.args.texts.now c.loop-text.text-index _ _ c.loop-text-test.true (sym c.text-item.is)
    (paths_are_read (take c.loop-text.text-index c.args.texts.now) c.loop-text.paths.items c.loop-text.invariant) c.in_err-path.ensures.cause)

pub loop-text-preserved : goal.loop-text-preserved
loop-text-preserved c =
    rw c.in_ok-push.ensures.items (one_more_path_at c.args.texts.now c.loop-text.text-index c.loop-text.paths.items _ _ c.loop-text-test.true (sym c.text-item.is) c.loop-text.invariant c.in_ok-path.ensures.ok)
