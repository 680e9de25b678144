use Rattle.std.proofs.lemmas.Result.{err_from_is_err_and}
use Rattle.checkpoint_store.proofs.Older.{newest_lawful}
use Rattle.folder_audit.proofs.KeptLemmas.{journal_refused}
use Rattle.folder_audit.specs.Refusals.{nothing_kept}
use Rattle.folder_audit.proofs.kept.checkpoint_on.Goals as goal

pub returns-in_err-found-clause-refused : goal.returns-in_err-found-clause-refused
returns-in_err-found-clause-refused g c =
    let p = err_from_is_err_and c.from_residual.result c.from_residual.ensures.1 in
    rw (p.1, p.2) (λ tells. journal_refused (g.D.Disk.meaning.images.seen c.args.disk.now) _ (λ at bad. c.in_err-found.ensures.bad at (cc bad) tells))

pub returns-in-Some-clause-has : goal.returns-in-Some-clause-has
returns-in-Some-clause-has g c = λ tells. (c.in-Some.field-0-0, rw c.in-Some.is at (c.in_ok-found.ensures.found tells))

pub returns-in-Some-clause-lawful : goal.returns-in-Some-clause-lawful
returns-in-Some-clause-lawful g c = newest_lawful c.in-Some.field-0-0.version c.in-Some.checkpoint (rw c.in-Some.is at c.in_ok-found.ensures.lawful)

pub returns-in-None-clause-refused : goal.returns-in-None-clause-refused
returns-in-None-clause-refused g c = λ tells. nothing_kept (rw c.in-None.is at (c.in_ok-found.ensures.found tells))
