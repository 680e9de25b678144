use Rattle.std.proofs.Common.{refl}
use Rattle.poll_core.proofs.SessionLemmas.{empty_session}
use Rattle.poll_core.proofs.session.Session.of_found.Goals as goal

pub returns-in_ok-one_era-in-None-clause-session : goal.returns-in_ok-one_era-in-None-clause-session
returns-in_ok-one_era-in-None-clause-session c =
    empty_session c.args.settings.now _ c.requires.made c.requires.limit
    (record { eras = c.in_ok-one_era-in-None.ensures; journal = refl; kept = refl; observed = refl; time = refl; rows = c.new.ensures })
