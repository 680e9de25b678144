use Rattle.std.proofs.lemmas.Result.{IfErr-weaker}
use Rattle.poll_core.proofs.session.Session.kept_on.Goals as goal

pub returns-clause-of_kept : goal.returns-clause-of_kept
returns-clause-of_kept g c =
    IfErr-weaker c.of_stood.result _ _
    (λ fault refused tells of_kept text most. refused of_kept (g.D.Disk.meaning.images.seen c.args.disk.now) (c.in_ok-stood.ensures.found tells) (c.in_ok-stood.ensures.size tells) text most)
    c.of_stood.ensures.of_kept
