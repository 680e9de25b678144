use Rattle.std.proofs.Common.{inl, inr}
use Rattle.poll_core.proofs.EraLemmas.{SessionEras, session_eras}
use Rattle.poll_core.proofs.StandingLemmas.{stands_on, stands_still}
use Rattle.poll_core.proofs.session.Session.poll.Goals as goal
use Rattle.poll_core.specs.SessionParts.{rules_of_session, settings_of_session}
use Rattle.standing.specs.AreRules.{AreRules}

pub poll_once-requires-clause-session : goal.poll_once-requires-clause-session
poll_once-requires-clause-session g c = c.requires.session

pub poll_once-requires-clause-limits : goal.poll_once-requires-clause-limits
poll_once-requires-clause-limits g c = c.settings_keep_limits.ensures _ _ c.requires.session.made.said

pub poll_once-requires-clause-rules : goal.poll_once-requires-clause-rules
poll_once-requires-clause-rules g c = c.a_pipeline_is_rules.ensures (settings_of_session c.args.self) (c.settings_keep_limits.ensures _ _ c.requires.session.made.said)

pub poll_once-requires-clause-stands : goal.poll_once-requires-clause-stands
poll_once-requires-clause-stands g c = c.requires.stands

pub returns-clause-session : goal.returns-clause-session
returns-clause-session g c = c.poll_once.ensures.session

pub returns-clause-ok : goal.returns-clause-ok
returns-clause-ok g c = c.poll_once.ensures.ok

pub returns-clause-crash : goal.returns-clause-crash
returns-clause-crash g c = c.poll_once.ensures.crash

pub returns-clause-early : goal.returns-clause-early
returns-clause-early g c = c.poll_once.ensures.early

pub returns-clause-standing : goal.returns-clause-standing
returns-clause-standing g c =
    let session = c.args.self in
    let trees = g.T.Tree.meaning in
    let images = g.D.Disk.meaning.images in
    let old = c.args.disk.now in
    let new = c.poll_once.new.disk in
    let laws : AreRules (rules_of_session session) = c.a_pipeline_is_rules.ensures (settings_of_session session) (c.settings_keep_limits.ensures _ _ c.requires.session.made.said) in
    let own : SessionEras session = session_eras c.settings_give_one_set_of_rules.ensures.rules session c.requires.session laws in
    elim c.poll_once.ensures.crash [
      | inl stays ↦ stands_still images old new (λ from image early left. g.met.D.Disk.counts_now old from image early left) session own c.requires.stands.each (trees.world c.args.tree.now) (trees.world c.poll_once.new.tree) c.poll_once.ensures.tree.later stays
      | inr gain ↦ stands_on images old new (λ from image early left. g.met.D.Disk.counts_now old from image early left) session own c.requires.stands.each gain.after gain.added _ (trees.world c.args.tree.now) (trees.world c.poll_once.new.tree) c.poll_once.ensures.tree.later gain.comes gain.pass gain.crash
    ]

pub returns-clause-full : goal.returns-clause-full
returns-clause-full g c = c.poll_once.ensures.full

pub returns-clause-worn : goal.returns-clause-worn
returns-clause-worn g c = c.poll_once.ensures.worn

pub returns-clause-tree : goal.returns-clause-tree
returns-clause-tree g c = c.poll_once.ensures.tree

pub returns-clause-cause : goal.returns-clause-cause
returns-clause-cause g c = c.poll_once.ensures.cause

pub returns-clause-terms : goal.returns-clause-terms
returns-clause-terms g c = c.poll_once.ensures.terms
