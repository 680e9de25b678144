use Rattle.std.proofs.Common.{ℕ, ◌≡◌, sym, ◌∙◌, ap, subst, inl, inr, refl}
use Rattle.std.specs.Prelude.{Err}
use Rattle.file_pass.specs.Moment as pass
use Rattle.outside.specs.World.{Told}
use Rattle.poll_core.specs.Polled.{Polled}
use Rattle.poll_core.specs.SessionParts.{checkpoint_of_session}
use Rattle.poll_core.specs.declared.session.Session.{Session}
use Rattle.agent_commands.specs.Status.{status_of}
use Rattle.agent_commands.proofs.StandLemmas.{holds_since}
use Rattle.agent_commands.proofs.StatusLemmas.{polling_count, some_fault, status_of_poll}
use Rattle.agent_commands.proofs.TimeLemmas.{keeps_at, kept_at, stands_at}
use Rattle.agent_commands.specs.Headline.{HoldsAll, StoodSince}
use Rattle.agent_commands.specs.Turn.{IsPollFault, IsTurnStatus}
use Rattle.agent_commands.proofs.turn.turn.Goals as goal

pub poll-requires-clause-stands : goal.poll-requires-clause-stands
poll-requires-clause-stands g c =
    let at = c.at_reading-session.ensures.at in
    stands_at g.D.Disk.meaning.images c.args.session c.at_reading-session.result at.now at.is c.args.disk.now c.requires.stands

-- ---- the poll failed

pub returns-in-Err-clause-stops : goal.returns-in-Err-clause-stops
returns-in-Err-clause-stops g c =
    let at = c.at_reading-session.ensures.at in
    inr (record {
      now = at.now;
      read = at.read;
      fault = c.in-Err.fault;
      is = c.refuse.ensures.status ∙ ap status_of c.from.ensures;
      cause = subst (λ (s : Session). IsPollFault g.T.Tree.meaning s c.args.tree.now c.poll.new.tree c.in-Err.fault) at.is c.in-Err.ensures.fault;
      told = rw c.from.ensures at c.refuse.ensures.told;
    })

pub returns-in-Err-clause-standing : goal.returns-in-Err-clause-standing
returns-in-Err-clause-standing g c =
    let at = c.at_reading-session.ensures.at in
    kept_at g.D.Disk.meaning.images c.args.session c.at_reading-session.result at.now at.is _ _ _ _ c.poll.ensures.standing

pub returns-in-Err-clause-disk_failed : goal.returns-in-Err-clause-disk_failed
returns-in-Err-clause-disk_failed g c = λ is.
    let seven : c.refuse.result ≡ 7 = cc (is) in
    (polling_count ℕ c.in-Err.fault _ _ c.in-Err.ensures.cause).0 (sym (c.refuse.ensures.status ∙ ap status_of c.from.ensures) ∙ seven)

pub returns-in-Err-clause-disk_stood : goal.returns-in-Err-clause-disk_stood
returns-in-Err-clause-disk_stood g c = λ other. (polling_count ℕ c.in-Err.fault _ _ c.in-Err.ensures.cause).1 (λ is. other (ap Err (c.refuse.ensures.status ∙ ap status_of c.from.ensures ∙ is)))

pub returns-in-Err-clause-report_failed : goal.returns-in-Err-clause-report_failed
returns-in-Err-clause-report_failed g c = λ is.
    let nine : c.refuse.result ≡ 9 = cc (is) in
    absurd ((some_fault c.from.result).0 (sym c.refuse.ensures.status ∙ nine))

pub returns-in-Err-clause-answers : goal.returns-in-Err-clause-answers
returns-in-Err-clause-answers g c = subst (λ status. IsTurnStatus status) (sym (c.refuse.ensures.status ∙ ap status_of c.from.ensures)) (status_of_poll c.in-Err.fault)

-- ---- it came to its end

pub returns-in-Ok-report_summary-clause-turns : goal.returns-in-Ok-report_summary-clause-turns
returns-in-Ok-report_summary-clause-turns g c = λ begun keeps.
    let at = c.at_reading-session.ensures.at in
    let session : Session = c.at_reading-session.result in
    let images = g.D.Disk.meaning.images in
    let world = g.T.Tree.meaning.world in
    let next : Session = c.in-Ok.done.0 in
    record {
      now = at.now;
      read = at.read;
      summary = c.in-Ok.done.1;
      polled = subst (λ (s : Session). Polled (pass.meanings g.T.Tree.meaning g.D.Disk.meaning) s next c.in-Ok.done.1 (pass.moment c.args.tree.now c.args.disk.now) (pass.moment c.poll.new.tree c.poll.new.disk)) at.is c.in-Ok.ensures.polled;
      whole = λ first is.
          subst (λ (s : Session). Told (HoldsAll s (checkpoint_of_session next) c.in-Ok.done.1 (StoodSince images first.history begun.disk c.args.disk.now)) (world c.args.tree.now) (world c.poll.new.tree)) at.is
          (holds_since images (λ disk image since. g.met.D.Disk.only_now disk image since) (λ disk from image early left. g.met.D.Disk.counts_now disk from image early left)
          session (checkpoint_of_session next) c.in-Ok.done.1 begun.disk c.args.disk.now first (world begun.tree) (world c.args.tree.now) _ keeps.later
          (keeps_at images c.args.session session at.now at.is begun.disk c.args.disk.now (world begun.tree) (world c.args.tree.now) keeps.standing) is c.poll.ensures.later c.in-Ok.ensures.whole);
      told = c.in-Ok-report_summary.ensures.ok;
    }

pub returns-in-Ok-report_summary-clause-standing : goal.returns-in-Ok-report_summary-clause-standing
returns-in-Ok-report_summary-clause-standing g c =
    let at = c.at_reading-session.ensures.at in
    kept_at g.D.Disk.meaning.images c.args.session c.at_reading-session.result at.now at.is _ _ _ _ c.poll.ensures.standing

-- ---- but it wasn't told

pub returns-in-Err-Failed-clause-stops : goal.returns-in-Err-Failed-clause-stops
returns-in-Err-Failed-clause-stops g c =
    let at = c.at_reading-session.ensures.at in
    inl (record {
      now = at.now;
      read = at.read;
      next = c.in-Ok.done.0;
      summary = c.in-Ok.done.1;
      polled = subst (λ (s : Session). Polled (pass.meanings g.T.Tree.meaning g.D.Disk.meaning) s c.in-Ok.done.0 c.in-Ok.done.1 (pass.moment c.args.tree.now c.args.disk.now) (pass.moment c.poll.new.tree c.poll.new.disk)) at.is c.in-Ok.ensures.polled;
      is = inl refl;
      told = c.report_summary.ensures.part;
    })

pub returns-in-Err-Failed-clause-standing : goal.returns-in-Err-Failed-clause-standing
returns-in-Err-Failed-clause-standing g c =
    let at = c.at_reading-session.ensures.at in
    kept_at g.D.Disk.meaning.images c.args.session c.at_reading-session.result at.now at.is _ _ _ _ c.poll.ensures.standing

pub returns-clause-stops : goal.returns-clause-stops
returns-clause-stops g c =
    let at = c.at_reading-session.ensures.at in
    inl (record {
      now = at.now;
      read = at.read;
      next = c.in-Ok.done.0;
      summary = c.in-Ok.done.1;
      polled = subst (λ (s : Session). Polled (pass.meanings g.T.Tree.meaning g.D.Disk.meaning) s c.in-Ok.done.0 c.in-Ok.done.1 (pass.moment c.args.tree.now c.args.disk.now) (pass.moment c.poll.new.tree c.poll.new.disk)) at.is c.in-Ok.ensures.polled;
      is = inr refl;
      told = c.report_summary.ensures.part;
    })

pub returns-clause-standing : goal.returns-clause-standing
returns-clause-standing g c =
    let at = c.at_reading-session.ensures.at in
    kept_at g.D.Disk.meaning.images c.args.session c.at_reading-session.result at.now at.is _ _ _ _ c.poll.ensures.standing

pub returns-in-Err-Failed-clause-answers : goal.returns-in-Err-Failed-clause-answers
returns-in-Err-Failed-clause-answers g c = inr (inl refl)

pub returns-clause-answers : goal.returns-clause-answers
returns-clause-answers g c = inr (inr (inl refl))
