use Rattle.std.proofs.Common.{None, subst, ◌∙◌}
use Rattle.std.proofs.lemmas.Result.{err_from_is_err_and}
use Rattle.checkpoint_journal.specs.JournalOf.{FoundIn, IsBadAt}
use Rattle.poll_core.proofs.AdoptRefusals.{journal_unadopted}
use Rattle.poll_core.proofs.MakingLemmas.{found_newest}
use Rattle.poll_core.proofs.adopting.stood_on.Goals as goal
use Rattle.poll_core.specs.AdoptFaults.{nothing_kept}

pub returns-in_err-found-clause-of_kept : goal.returns-in_err-found-clause-of_kept
returns-in_err-found-clause-of_kept g c =
    let p = err_from_is_err_and c.from_residual-in_err-found.result c.from_residual-in_err-found.ensures.1 in
    let seen = g.D.Disk.meaning.images.seen in
    rw (p.1, p.2) (λ tells of_kept text most. journal_unadopted text most (seen c.args.disk.now) _ (λ at bad.
    let told = c.settle.ensures.calls.terms.tells ∙ tells in
    subst (λ image. IsBadAt at image) c.settle.ensures.seen (c.in_err-found.ensures.bad at (cc (bad, c.in_err-found.was)) told)) of_kept)

pub returns-in_ok-size-in-Some-clause-lawful : goal.returns-in_ok-size-in-Some-clause-lawful
returns-in_ok-size-in-Some-clause-lawful g c = rw c.in-Some.is at (found_newest c.in_ok-found.found c.in_ok-found.ensures.lawful)

pub returns-in-None-clause-of_kept : goal.returns-in-None-clause-of_kept
returns-in-None-clause-of_kept g c = λ tells of_kept text most.
    let told = c.settle.ensures.calls.terms.tells ∙ tells in
    let has = rw c.in-None.is at (c.in_ok-found.ensures.found told) in
    nothing_kept (subst (λ image. FoundIn None image) c.settle.ensures.seen has)
