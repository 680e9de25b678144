use Rattle.std.proofs.Common.{ℕ, sym, ◌∙◌, ap, arith, refl}
use Rattle.agent_commands.proofs.GrowLemmas.{opened_grows, opening_grows, passes_grow_more}
use Rattle.poll_core.specs.SessionParts.{rules_of_session}
use Rattle.agent_commands.proofs.StandLemmas.{closed_stands, keeps_opened, opened_stands}
use Rattle.agent_commands.proofs.StatusLemmas.{opening_count, some_fault}
use Rattle.agent_commands.specs.Moment.{meanings, moment}
use Rattle.agent_commands.specs.Once.{not_opened, polls, stops}
use Rattle.agent_commands.specs.Status.{status_of}
use Rattle.agent_commands.proofs.once.once.Goals as goal

pub returns-in-Err-clause-ends : goal.returns-in-Err-clause-ends
returns-in-Err-clause-ends g c = not_opened _ (record {
  fault = c.in-Err.fault;
  is = c.refuse.ensures.status ∙ ap status_of c.from.ensures;
  cause = c.in-Err.ensures.fault;
  told = rw c.from.ensures at c.refuse.ensures.told;
  same_tree = refl;
  same_clock = refl;
  untouched = c.in-Err.ensures.untouched;
  crash = opening_grows _ _ c.open_session.ensures.crash;
})

pub returns-in-Err-clause-crash : goal.returns-in-Err-clause-crash
returns-in-Err-clause-crash g c = passes_grow_more 0 1 _ _ (omega arith) (opening_grows _ _ c.open_session.ensures.crash)

pub returns-in-Err-clause-standing : goal.returns-in-Err-clause-standing
returns-in-Err-clause-standing g c = closed_stands g.D.Disk.meaning.images _ _ _ (λ from image early left. g.met.D.Disk.counts_now c.args.disk.now from image early left) c.open_session.ensures.crash

pub returns-in-Err-clause-disk_failed : goal.returns-in-Err-clause-disk_failed
returns-in-Err-clause-disk_failed g c = λ is. (opening_count ℕ c.in-Err.fault _ _ c.in-Err.ensures.cause).0 (sym (c.refuse.ensures.status ∙ ap status_of c.from.ensures) ∙ is)

pub returns-in-Err-clause-disk_stood : goal.returns-in-Err-clause-disk_stood
returns-in-Err-clause-disk_stood g c = λ other. (opening_count ℕ c.in-Err.fault _ _ c.in-Err.ensures.cause).1 (λ is. other (c.refuse.ensures.status ∙ ap status_of c.from.ensures ∙ is))

pub returns-in-Err-clause-report_failed : goal.returns-in-Err-clause-report_failed
returns-in-Err-clause-report_failed g c = λ is. absurd ((some_fault c.from.result).0 (sym c.refuse.ensures.status ∙ is))

pub returns-in-Err-clause-report_stood : goal.returns-in-Err-clause-report_stood
returns-in-Err-clause-report_stood g c = λ is. absurd ((some_fault c.from.result).1 (sym c.refuse.ensures.status ∙ is))

pub returns-in-Err-turn-clause-ends : goal.returns-in-Err-turn-clause-ends
returns-in-Err-turn-clause-ends g c = stops c.in-Err-turn.status (record {
  session = c.in-Ok.session;
  between = c.open_session.new.disk;
  opens = c.in-Ok.ensures.ok;
  stops = c.in-Err-turn.ensures.stops;
})

pub returns-in-Err-turn-clause-crash : goal.returns-in-Err-turn-clause-crash
returns-in-Err-turn-clause-crash g c = opened_grows 1 _ _ _ c.open_session.ensures.crash c.turn.ensures.crash

pub returns-in-Err-turn-clause-standing : goal.returns-in-Err-turn-clause-standing
returns-in-Err-turn-clause-standing g c = opened_stands g.D.Disk.meaning.images c.in-Ok.session c.args.disk.now c.open_session.new.disk c.turn.new.disk (g.T.Tree.meaning.world c.args.tree.now) (g.T.Tree.meaning.world c.turn.new.tree)
    (λ from image early left. g.met.D.Disk.counts_now c.args.disk.now from image early left) c.in-Ok.ensures.ok c.open_session.ensures.crash c.turn.ensures.standing

pub returns-clause-ends : goal.returns-clause-ends
returns-clause-ends g c =
    polls (record {
      session = c.in-Ok.session;
      between = c.open_session.new.disk;
      opens = c.in-Ok.ensures.ok;
      next = c.in_default.field-0;
      turns = c.in_default.ensures.turns (moment c.args.tree.now c.args.disk.now c.args.report.now c.args.clock.now)
          (keeps_opened (meanings g.T.Tree.meaning g.D.Disk.meaning g.K.Sink.meaning g.C.Clock.meaning) (rules_of_session c.in-Ok.session) c.args.tree.now c.args.disk.now c.open_session.new.disk c.args.report.now c.args.clock.now
          (λ from image early left. g.met.D.Disk.counts_now c.args.disk.now from image early left) c.open_session.ensures.crash);
    })

pub returns-clause-crash : goal.returns-clause-crash
returns-clause-crash g c = opened_grows 1 _ _ _ c.open_session.ensures.crash c.turn.ensures.crash

pub returns-clause-standing : goal.returns-clause-standing
returns-clause-standing g c = opened_stands g.D.Disk.meaning.images c.in-Ok.session c.args.disk.now c.open_session.new.disk c.turn.new.disk (g.T.Tree.meaning.world c.args.tree.now) (g.T.Tree.meaning.world c.turn.new.tree)
    (λ from image early left. g.met.D.Disk.counts_now c.args.disk.now from image early left) c.in-Ok.ensures.ok c.open_session.ensures.crash c.turn.ensures.standing
