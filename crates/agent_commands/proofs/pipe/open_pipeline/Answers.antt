use Rattle.std.proofs.Common.{ℕ, sym, subst}
use Rattle.std.proofs.lemmas.Result.{err_from_is_err_and}
use Rattle.std.specs.Prelude.{Err}
use Rattle.poll_core.specs.OpenCause.{HasOpenCause}
use Rattle.agent_commands.proofs.pipe.open_pipeline.Goals as goal

pub returns-in_err-pipeline-clause-cause : goal.returns-in_err-pipeline-clause-cause
returns-in_err-pipeline-clause-cause g c =
    let made = err_from_is_err_and c.from_residual-in_err-pipeline.result c.from_residual-in_err-pipeline.ensures.1 in
    let fault = c.in_err-pipeline.field-0.0 in
    let count : ℕ = g.D.Disk.meaning.faults c.args.disk.now in
    rw (made.1, made.2) (subst (λ (n : ℕ). HasOpenCause {T = ℕ} (Err fault) count n) (sym c.in_ok-settings.ensures.cause) (c.in_err-pipeline.ensures.cause count))
