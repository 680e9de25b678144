use Rattle.std.proofs.Common.{ap}
use Rattle.std.specs.Prelude.{Err}
use Rattle.std.proofs.lemmas.Result.{err_from_is_err_and}
use Rattle.poll_core.proofs.EraLemmas.{session_eras}
use Rattle.agent_commands.proofs.FaultLemmas.{poll_fault}
use Rattle.agent_commands.proofs.GrowLemmas.{poll_grows}
use Rattle.agent_commands.proofs.StandLemmas.{told_holds_all}
use Rattle.agent_commands.proofs.turn.poll.Goals as goal

pub returns-in_err-done-clause-fault : goal.returns-in_err-done-clause-fault
returns-in_err-done-clause-fault g c =
    let p = err_from_is_err_and c.from_residual.result c.from_residual.ensures.1 in
    rw (p.1, p.2) (poll_fault g.T.Tree.meaning c.args.session c.args.tree.now c.poll.new.tree c.in_err-done.field-0.0 (λ size is. c.in_err-done.ensures.full size (ap Err is)) (λ sequence is. (c.in_err-done.ensures.worn sequence (ap Err is)).1))

pub returns-in_err-done-clause-crash : goal.returns-in_err-done-clause-crash
returns-in_err-done-clause-crash g c = poll_grows c.settings_give_one_set_of_rules.ensures.rules g.T.Tree.meaning g.D.Disk.meaning c.args.session c.args.tree.now c.poll.new.tree c.args.disk.now c.poll.new.disk c.requires.session c.requires.stands c.poll.ensures.crash

pub returns-clause-crash : goal.returns-clause-crash
returns-clause-crash g c = poll_grows c.settings_give_one_set_of_rules.ensures.rules g.T.Tree.meaning g.D.Disk.meaning c.args.session c.args.tree.now c.poll.new.tree c.args.disk.now c.poll.new.disk c.requires.session c.requires.stands c.poll.ensures.crash

pub returns-clause-whole : goal.returns-clause-whole
returns-clause-whole g c =
    let own = session_eras c.settings_give_one_set_of_rules.ensures.rules c.args.session c.requires.session c.a_session_polls_by_rules.ensures in
    told_holds_all g.D.Disk.meaning.images (λ disk tells. g.met.D.Disk.shown disk tells) c.a_complete_poll_reaches_all.ensures c.args.session c.requires.session own _ _ c.args.disk.now _ _ c.requires.stands c.poll.ensures.tree.later
