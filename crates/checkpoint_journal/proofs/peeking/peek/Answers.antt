use Rattle.std.proofs.Common.{subst}
use Rattle.std.proofs.lemmas.Result.{err_from_is_err_and}
use Rattle.std.specs.Prelude.{map}
use Rattle.record_log.specs.LogOf.{FoundIn}
use Rattle.checkpoint_journal.proofs.ReadingLemmas.{bad_at}
use Rattle.checkpoint_journal.proofs.peeking.peek.Goals as goal

pub returns-in_err-understood-in-Some-clause-bad : goal.returns-in_err-understood-in-Some-clause-bad
returns-in_err-understood-in-Some-clause-bad g c at bad told =
    let seen = g.D.Disk.meaning.images.seen c.args.disk.now in
    let contents = c.in-Some.contents in
    let fault = err_from_is_err_and c.from_residual-in_err-understood-in-Some.result c.from_residual-in_err-understood-in-Some.ensures.1 in
    let found = subst (λ found. FoundIn found seen) c.in-Some.is (c.in_ok-contents.ensures.found told) in
    bad_at seen contents.log contents.base.items (map (λ payload. payload.items) contents.records.items) at found
    (c.in_err-understood-in-Some.ensures.bad at (cc (bad, fault.1, fault.2)))
