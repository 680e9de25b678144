use Rattle.std.proofs.Common.{length, ap, ◌∙◌}
use Rattle.std.proofs.lemmas.Result.{err_from_is_err_and}
use Rattle.folder_audit.specs.declared.kept.Kept.{Kept}
use Rattle.folder_audit.proofs.KeptLemmas.{fit_of, kept_of, last_there, output_refused, some_pipes, unfit_refused}
use Rattle.folder_audit.proofs.kept.kept_on.Goals as goal

pub returns-in_err-pipes-clause-refused : goal.returns-in_err-pipes-clause-refused
returns-in_err-pipes-clause-refused g c =
    let p = err_from_is_err_and c.from_residual-in_err-pipes.result c.from_residual-in_err-pipes.ensures.1 in
    rw (p.1, p.2) (λ tells. unfit_refused (g.D.Disk.meaning.images.seen c.args.disk.now) c.in_ok-checkpoint.checkpoint _ (c.in_ok-checkpoint.ensures.has tells) c.in_err-pipes.ensures.unfit)

pub returns-in_err-output-clause-refused : goal.returns-in_err-output-clause-refused
returns-in_err-output-clause-refused g c =
    let image = g.D.Disk.meaning.images.seen c.args.disk.now in
    let checkpoint = c.in_ok-checkpoint.checkpoint in
    let pipes = c.in_ok-pipes.pipes.items in
    let are = c.in_ok-pipes.ensures.operators in
    let last = last_there pipes (some_pipes checkpoint pipes c.in_ok-checkpoint.ensures.lawful are) in
    let only = c.checkpoint_on.ensures.only_read in
    let p = err_from_is_err_and c.from_residual-in_err-output.result c.from_residual-in_err-output.ensures.1 in
    rw (p.1, p.2) (λ tells. output_refused image checkpoint pipes last.0 _ (record { has = c.in_ok-checkpoint.ensures.has tells; made = are.made; is_last = last.1 }) (are.states last.0 last.1)
    ((rw (only.tells, only.seen, c.deref.ensures.value) at c.in_err-output.ensures.none) tells))

pub returns-clause-fit : goal.returns-clause-fit
returns-clause-fit g c =
    let kept : Kept = record { pipes = c.in_ok-pipes.pipes; rows = c.in_ok-into_tracker.field-0; lines = c.in_ok-lines.lines } in
    fit_of kept c.in_ok-checkpoint.checkpoint c.in_ok-checkpoint.ensures.lawful c.in_ok-into_tracker.ensures c.in_ok-pipes.ensures.operators (c.in_ok-lines.ensures.many ∙ ap length c.as_slice.ensures)

pub returns-clause-kept : goal.returns-clause-kept
returns-clause-kept g c =
    let kept : Kept = record { pipes = c.in_ok-pipes.pipes; rows = c.in_ok-into_tracker.field-0; lines = c.in_ok-lines.lines } in
    let image = g.D.Disk.meaning.images.seen c.args.disk.now in
    let only = c.checkpoint_on.ensures.only_read in
    λ tells. kept_of image kept c.in_ok-checkpoint.checkpoint c.in_ok-output.output.items (length c.as_slice.result.now) c.in_ok-checkpoint.ensures.lawful c.in_ok-into_tracker.ensures (c.in_ok-checkpoint.ensures.has tells)
    c.in_ok-pipes.ensures.operators ((rw (only.tells, only.seen, c.deref.ensures.value) at c.in_ok-output.ensures.output) tells) (ap length c.as_slice.ensures) (rw c.deref-2.ensures.value at c.in_ok-lines.ensures)
