use Rattle.std.proofs.Common.{◌≡◌, length, subst, ap, ◌∙◌}
use Rattle.std.proofs.lemmas.Result.{err_from_is_err_and}
use Rattle.checkpoint_journal.specs.JournalOf.{FoundIn, IsBadAt}
use Rattle.outside.specs.declared.disk.DiskFile.TheVariants.{Output}
use Rattle.poll_core.proofs.DiskLemmas.{settled_still}
use Rattle.poll_core.proofs.MakingLemmas.{found_newest, journal_refused, rejected_refused, short_refused}
use Rattle.poll_core.proofs.session.Session.found_on.Goals as goal

pub of_found-requires-clause-lawful : goal.of_found-requires-clause-lawful
of_found-requires-clause-lawful g c = found_newest c.in_ok-found.found c.in_ok-found.ensures.lawful

pub returns-in_err-found-clause-of_contents : goal.returns-in_err-found-clause-of_contents
returns-in_err-found-clause-of_contents g c =
    let p = err_from_is_err_and c.from_residual-in_err-found.result c.from_residual-in_err-found.ensures.1 in
    let seen = g.D.Disk.meaning.images.seen in
    rw (p.1, p.2) (λ tells of_contents. journal_refused c.args.settings.now (seen c.args.disk.now) _ (λ at bad.
    let told = c.settle.ensures.calls.terms.tells ∙ tells in
    subst (λ image. IsBadAt at image) c.settle.ensures.seen (c.in_err-found.ensures.bad at (cc (bad, c.in_err-found.was)) told)) of_contents)

pub returns-in_err-session-clause-of_contents : goal.returns-in_err-session-clause-of_contents
returns-in_err-session-clause-of_contents g c =
    let p = err_from_is_err_and c.from_residual-in_err-session.result c.from_residual-in_err-session.ensures.1 in
    let seen = g.D.Disk.meaning.images.seen in
    rw (p.1, p.2) (λ tells of_contents.
    let told = c.settle.ensures.calls.terms.tells ∙ tells in
    let has = subst (λ image. FoundIn c.in_ok-found.found image) c.settle.ensures.seen (c.in_ok-found.ensures.found told) in
    rejected_refused c.args.settings.now c.args.pipeline (seen c.args.disk.now) c.in_ok-found.found _ c.requires.made has c.in_err-session.ensures.rejected of_contents)

pub returns-then-size-session-clause-of_contents : goal.returns-then-size-session-clause-of_contents
returns-then-size-session-clause-of_contents g c tells of_contents =
    let seen = g.D.Disk.meaning.images.seen in
    let told = c.settle.ensures.calls.terms.tells ∙ tells in
    let read = c.peek.ensures.only_read in
    let has = subst (λ image. FoundIn c.in_ok-found.found image) c.settle.ensures.seen (c.in_ok-found.ensures.found told) in
    let size_is : c.in_ok-size.size ≡ length (seen c.args.disk.now Output) =
    c.in_ok-size.ensures.length (read.tells ∙ told) ∙ ap (λ image. length (image Output)) (read.seen ∙ c.settle.ensures.seen) in
    short_refused c.args.settings.now c.in_ok-session.session (seen c.args.disk.now) c.in_ok-found.found c.in_ok-size.size
    c.in_ok-session.ensures.session c.in_ok-session.ensures.settings c.in_ok-session.ensures.found has size_is c.if-size-session.true

pub returns-clause-settled : goal.returns-clause-settled
returns-clause-settled g c =
    let read = c.peek.ensures.only_read in
    settled_still (settled_still c.in_ok-settle.ensures.settled read.crash read.seen) c.length.ensures.crash c.length.ensures.seen
