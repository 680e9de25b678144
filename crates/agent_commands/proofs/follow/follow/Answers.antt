use Rattle.std.proofs.Common.{ℕ, [], refl, sym, ◌∙◌, ap, subst, arith}
use Rattle.outside.proofs.Telling.{told_same}
use Rattle.outside.specs.Count.{Rose}
use Rattle.agent_commands.specs.Control.{max_control, TakesAtMost}
use Rattle.agent_commands.specs.Follow.{not_opened, serves}
use Rattle.agent_commands.specs.Moment.{meanings, moment}
use Rattle.agent_commands.specs.Status.{status_of}
use Rattle.agent_commands.proofs.GrowLemmas.{opened_grows, opening_grows}
use Rattle.poll_core.specs.SessionParts.{rules_of_session}
use Rattle.agent_commands.proofs.StandLemmas.{closed_stands, keeps_opened, opened_stands}
use Rattle.agent_commands.proofs.StatusLemmas.{opening_count, opening_status, some_fault}
use Rattle.agent_commands.proofs.follow.follow.Goals as goal

-- ---- no session was opened

pub returns-in-Err-clause-ends : goal.returns-in-Err-clause-ends
returns-in-Err-clause-ends g c = not_opened (record {
  fault = c.in-Err.fault;
  is = c.refuse.ensures.status ∙ ap status_of c.from.ensures;
  cause = c.in-Err.ensures.fault;
  told = rw c.from.ensures at c.refuse.ensures.told;
  same_tree = refl;
  same_clock = refl;
  untouched = c.in-Err.ensures.untouched;
  crash = opening_grows _ _ c.open_session.ensures.crash;
}) refl

pub returns-in-Err-clause-standing : goal.returns-in-Err-clause-standing
returns-in-Err-clause-standing g c = closed_stands g.D.Disk.meaning.images c.args.disk.now c.open_session.new.disk (g.T.Tree.meaning.world c.args.tree.now) (λ from image early left. g.met.D.Disk.counts_now c.args.disk.now from image early left) c.open_session.ensures.crash

pub returns-in-Err-clause-control_failed : goal.returns-in-Err-clause-control_failed
returns-in-Err-clause-control_failed g c = λ is. absurd ((opening_status c.in-Err.fault).1 (sym (c.refuse.ensures.status ∙ ap status_of c.from.ensures) ∙ is))

pub returns-in-Err-clause-disk_failed : goal.returns-in-Err-clause-disk_failed
returns-in-Err-clause-disk_failed g c = λ is. (opening_count ℕ c.in-Err.fault _ _ c.in-Err.ensures.cause).0 (sym (c.refuse.ensures.status ∙ ap status_of c.from.ensures) ∙ is)

pub returns-in-Err-clause-disk_stood : goal.returns-in-Err-clause-disk_stood
returns-in-Err-clause-disk_stood g c = λ other. (opening_count ℕ c.in-Err.fault _ _ c.in-Err.ensures.cause).1 (λ is. other (c.refuse.ensures.status ∙ ap status_of c.from.ensures ∙ is))

pub returns-in-Err-clause-report_failed : goal.returns-in-Err-clause-report_failed
returns-in-Err-clause-report_failed g c = λ is. absurd ((some_fault c.from.result).0 (sym c.refuse.ensures.status ∙ is))

pub returns-in-Err-clause-report_stood : goal.returns-in-Err-clause-report_stood
returns-in-Err-clause-report_stood g c = λ is. absurd ((some_fault c.from.result).1 (sym c.refuse.ensures.status ∙ is))

pub returns-in-Err-clause-taken : goal.returns-in-Err-clause-taken
returns-in-Err-clause-taken g c = told_same (TakesAtMost max_control) (g.S.Source.meaning.rest c.args.control.now) (λ text. record { taken = []; front = refl; within = omega arith })

pub returns-in-Err-clause-control_long : goal.returns-in-Err-clause-control_long
returns-in-Err-clause-control_long g c = λ is.
    let high = (opening_status c.in-Err.fault).2 in
    absurd (omega (arith, high, c.refuse.ensures.status ∙ ap status_of c.from.ensures, is))

-- ---- one was

pub returns-clause-ends : goal.returns-clause-ends
returns-clause-ends g c =
    let keeps = keeps_opened (meanings g.T.Tree.meaning g.D.Disk.meaning g.K.Sink.meaning g.C.Clock.meaning) (rules_of_session c.in-Ok.session) c.args.tree.now c.args.disk.now c.open_session.new.disk c.args.report.now c.args.clock.now
    (λ from image early left. g.met.D.Disk.counts_now c.args.disk.now from image early left) c.open_session.ensures.crash in
    let served = c.serve.ensures.served (moment c.args.tree.now c.args.disk.now c.args.report.now c.args.clock.now) keeps in
    serves (record {
      session = c.in-Ok.session;
      between = c.open_session.new.disk;
      opens = c.in-Ok.ensures.ok;
      served = served;
      crash = opened_grows served.end.made _ _ _ c.open_session.ensures.crash served.crash;
    })

pub returns-clause-standing : goal.returns-clause-standing
returns-clause-standing g c = opened_stands g.D.Disk.meaning.images c.in-Ok.session c.args.disk.now c.open_session.new.disk c.serve.new.disk (g.T.Tree.meaning.world c.args.tree.now) (g.T.Tree.meaning.world c.serve.new.tree)
    (λ from image early left. g.met.D.Disk.counts_now c.args.disk.now from image early left) c.in-Ok.ensures.ok c.open_session.ensures.crash c.serve.ensures.standing

pub returns-clause-disk_failed : goal.returns-clause-disk_failed
returns-clause-disk_failed g c = λ is. subst (λ (n : ℕ). Rose n (g.D.Disk.meaning.faults c.serve.new.disk)) c.in-Ok.ensures.cause (c.serve.ensures.disk_failed is)

pub returns-clause-disk_stood : goal.returns-clause-disk_stood
returns-clause-disk_stood g c = λ other. c.serve.ensures.disk_stood other ∙ c.in-Ok.ensures.cause
