use Rattle.std.proofs.Common.{rules, ◌≡◌, ◌+◌, ◌-◌, ℕ, [], refl, sym, ◌∙◌, ap, subst, arith}
use Rattle.std.specs.Prelude.{Ok, Err}
use Rattle.outside.proofs.Passing.{passes_none}
use Rattle.outside.proofs.Telling.{told_same}
use Rattle.outside.specs.Count.{HasOneCause, Rose}
use Rattle.outside.specs.World.{Told}
use Rattle.poll_core.specs.SessionParts.{rules_of_session}
use Rattle.poll_core.specs.Since.{KeepsStandingSince}
use Rattle.standing.specs.Rules.{Rules}
use Rattle.agent_commands.specs.Control.{max_control, Asks, Spends}
use Rattle.agent_commands.specs.Follow.{ends, stops}
use Rattle.agent_commands.specs.Headline.{KeepsFrom}
use Rattle.agent_commands.specs.Moment.{meanings, moment}
use Rattle.agent_commands.specs.declared.control.Request.TheVariants.{Poll}
use Rattle.agent_commands.proofs.Controlling.{at_most_told, exactly_both_told, spends_both_told, takes_exactly_told}
use Rattle.agent_commands.proofs.FollowLemmas.{leads_none, leads_on}
use Rattle.agent_commands.proofs.GrowLemmas.{passes_grow_on, same_grows}
use Rattle.agent_commands.proofs.StandLemmas.{keeps_then, told_later_same, told_later_then, told_stands_none, told_stands_then}
use Rattle.agent_commands.proofs.StatusLemmas.{count_of_stop, exhausted_of_status, no_poll_status, other_status}
use Rattle.agent_commands.proofs.follow.serve.Goals as goal

pub loop-report-init : goal.loop-report-init
loop-report-init g c = record {
  session = c.requires.session;
  stands = c.requires.stands;
  rules = refl;
  counted = omega arith;
  within = omega arith;
  leads = λ begun keeps. leads_none _ begun _ _ _;
  crash = same_grows _ _ (passes_none c.args.disk.now);
  standing = told_stands_none g.D.Disk.meaning.images (rules_of_session c.args.session) c.args.disk.now (g.T.Tree.meaning.world c.args.tree.now);
  goes = told_later_same (g.T.Tree.meaning.world c.args.tree.now);
  disk_stood = refl;
  control_stood = refl;
  report_stood = refl;
  spent = told_same (Spends max_control max_control) _ (λ text. record { taken = []; front = refl; counted = omega arith });
}

pub stop-requires : goal.stop-requires
stop-requires g c = search rules

-- ---- the request asks for no poll

pub returns-then-not-is_poll-clause-served : goal.returns-then-not-is_poll-clause-served
returns-then-not-is_poll-clause-served g c = λ begun keeps.
    let now = c.loop-report in
    let next = c.next_request-request in
    record {
      end = record { last = now.number; made = now.number - 1 };
      follows = now.invariant.leads begun keeps _ c.stop.result (g.S.Source.meaning.rest next.new.control) (moment now.tree now.disk c.stop.new.report now.clock)
          (ends now.number now.left next.new.left now.session _ _ next.result (record { asks = next.ensures.asks; spends = next.ensures.spends }) c.stop.ensures.stops refl refl refl refl (omega (arith, now.invariant.counted)));
      crash = now.invariant.crash;
    }

pub returns-then-not-is_poll-clause-standing : goal.returns-then-not-is_poll-clause-standing
returns-then-not-is_poll-clause-standing g c = c.loop-report.invariant.standing

pub returns-then-not-is_poll-clause-control_failed : goal.returns-then-not-is_poll-clause-control_failed
returns-then-not-is_poll-clause-control_failed g c = λ is.
    let next = c.next_request-request in
    subst (λ (n : ℕ). Rose n (g.S.Source.meaning.faults next.new.control)) c.loop-report.invariant.control_stood
    ((count_of_stop c.loop-report.number c.stop.result _ _ next.result _ _ c.stop.ensures.stops next.ensures.cause).0 is)

pub returns-then-not-is_poll-clause-control_stood : goal.returns-then-not-is_poll-clause-control_stood
returns-then-not-is_poll-clause-control_stood g c = λ other.
    let next = c.next_request-request in
    (count_of_stop c.loop-report.number c.stop.result _ _ next.result _ _ c.stop.ensures.stops next.ensures.cause).1 other ∙ c.loop-report.invariant.control_stood

pub returns-then-not-is_poll-clause-disk_failed : goal.returns-then-not-is_poll-clause-disk_failed
returns-then-not-is_poll-clause-disk_failed g c = λ is. absurd ((no_poll_status c.loop-report.number c.stop.result _ _ c.next_request-request.result c.stop.ensures.stops).0 is)

pub returns-then-not-is_poll-clause-disk_stood : goal.returns-then-not-is_poll-clause-disk_stood
returns-then-not-is_poll-clause-disk_stood g c = λ _. c.loop-report.invariant.disk_stood

pub returns-then-not-is_poll-clause-report_failed : goal.returns-then-not-is_poll-clause-report_failed
returns-then-not-is_poll-clause-report_failed g c = λ is. absurd ((no_poll_status c.loop-report.number c.stop.result _ _ c.next_request-request.result c.stop.ensures.stops).1 is)

pub returns-then-not-is_poll-clause-report_stood : goal.returns-then-not-is_poll-clause-report_stood
returns-then-not-is_poll-clause-report_stood g c = λ is. ap g.K.Sink.meaning.faults (c.stop.ensures.stood is) ∙ c.loop-report.invariant.report_stood

pub returns-then-not-is_poll-clause-taken : goal.returns-then-not-is_poll-clause-taken
returns-then-not-is_poll-clause-taken g c = at_most_told max_control _ _ _ (spends_both_told max_control _ _ _ _ _ c.loop-report.invariant.spent c.next_request-request.ensures.spends)

pub returns-then-not-is_poll-clause-control_long : goal.returns-then-not-is_poll-clause-control_long
returns-then-not-is_poll-clause-control_long g c = λ is.
    let now = c.loop-report in
    let next = c.next_request-request in
    let long = exhausted_of_status now.number c.stop.result _ _ next.result c.stop.ensures.stops is in
    exactly_both_told max_control now.left _ _ _ now.invariant.spent
    (takes_exactly_told now.left _ _
    (subst (λ request. Told (Asks now.left request) (g.S.Source.meaning.rest now.control) (g.S.Source.meaning.rest next.new.control)) long next.ensures.asks))

-- ---- it asks for a poll, which ends the command

pub turn-requires-clause-session : goal.turn-requires-clause-session
turn-requires-clause-session g c = c.loop-report.invariant.session

pub turn-requires-clause-stands : goal.turn-requires-clause-stands
turn-requires-clause-stands g c = c.loop-report.invariant.stands

pub returns-in-Err-clause-served : goal.returns-in-Err-clause-served
returns-in-Err-clause-served g c = λ begun keeps.
    let now = c.loop-report in
    let next = c.next_request-request in
    let poll : next.result ≡ Ok Poll = search rules in
    let asks = subst (λ request. Told (Asks now.left request) (g.S.Source.meaning.rest now.control) (g.S.Source.meaning.rest next.new.control)) poll next.ensures.asks in
    record {
      end = record { last = now.number; made = now.number };
      follows = now.invariant.leads begun keeps _ c.in-Err.status (g.S.Source.meaning.rest next.new.control) (moment c.turn.new.tree c.turn.new.disk c.turn.new.report c.turn.new.clock)
          (stops now.number now.left next.new.left now.session _ _ (record { asks = asks; spends = next.ensures.spends }) c.in-Err.ensures.stops refl refl);
      crash = passes_grow_on (now.number - 1) now.number _ _ _ (omega (arith, now.invariant.counted)) now.invariant.crash c.turn.ensures.crash;
    }

pub returns-in-Err-clause-standing : goal.returns-in-Err-clause-standing
returns-in-Err-clause-standing g c =
    let now = c.loop-report in
    let images = g.D.Disk.meaning.images in
    let world = g.T.Tree.meaning.world in
    told_stands_then images (rules_of_session c.args.session) c.args.disk.now now.disk c.turn.new.disk _ _ _ c.turn.ensures.later now.invariant.crash.later now.invariant.standing
    (subst (λ (r : Rules). Told (KeepsStandingSince images r now.disk c.turn.new.disk) (world now.tree) (world c.turn.new.tree)) now.invariant.rules c.turn.ensures.standing)

pub returns-in-Err-clause-control_failed : goal.returns-in-Err-clause-control_failed
returns-in-Err-clause-control_failed g c = λ is. absurd ((other_status c.in-Err.status c.in-Err.ensures.answers).1 is)

pub returns-in-Err-clause-control_stood : goal.returns-in-Err-clause-control_stood
returns-in-Err-clause-control_stood g c = λ _.
    let next = c.next_request-request in
    let poll : next.result ≡ Ok Poll = search rules in
    subst (λ r. HasOneCause r (g.S.Source.meaning.faults c.loop-report.control) (g.S.Source.meaning.faults next.new.control)) poll next.ensures.cause ∙ c.loop-report.invariant.control_stood

pub returns-in-Err-clause-disk_failed : goal.returns-in-Err-clause-disk_failed
returns-in-Err-clause-disk_failed g c = λ is. subst (λ (n : ℕ). Rose n (g.D.Disk.meaning.faults c.turn.new.disk)) c.loop-report.invariant.disk_stood (c.in-Err.ensures.disk_failed (ap Err is))

pub returns-in-Err-clause-disk_stood : goal.returns-in-Err-clause-disk_stood
returns-in-Err-clause-disk_stood g c = λ other. c.in-Err.ensures.disk_stood (λ is. let seven : c.in-Err.status ≡ 7 = cc (is) in other seven) ∙ c.loop-report.invariant.disk_stood

pub returns-in-Err-clause-report_failed : goal.returns-in-Err-clause-report_failed
returns-in-Err-clause-report_failed g c = λ is. subst (λ (n : ℕ). Rose n (g.K.Sink.meaning.faults c.turn.new.report)) c.loop-report.invariant.report_stood (c.in-Err.ensures.report_failed (ap Err is))

pub returns-in-Err-clause-report_stood : goal.returns-in-Err-clause-report_stood
returns-in-Err-clause-report_stood g c = λ is. absurd ((other_status c.in-Err.status c.in-Err.ensures.answers).0 is)

pub returns-in-Err-clause-taken : goal.returns-in-Err-clause-taken
returns-in-Err-clause-taken g c = at_most_told max_control _ _ _ (spends_both_told max_control _ _ _ _ _ c.loop-report.invariant.spent c.next_request-request.ensures.spends)

pub returns-in-Err-clause-control_long : goal.returns-in-Err-clause-control_long
returns-in-Err-clause-control_long g c = λ is. absurd ((other_status c.in-Err.status c.in-Err.ensures.answers).2 is)

-- ---- it is made and told, and the command goes on

pub overflow_add-number : goal.overflow_add-number
overflow_add-number g c = omega (arith, c.loop-report.invariant.within)

pub loop-report-smaller : goal.loop-report-smaller
loop-report-smaller g c =
    let poll : c.next_request-request.result ≡ Ok Poll = search rules in
    c.next_request-request.ensures.fewer poll

pub loop-report-preserved : goal.loop-report-preserved
loop-report-preserved g c =
    let now = c.loop-report in
    let next = c.next_request-request in
    let images = g.D.Disk.meaning.images in
    let world = g.T.Tree.meaning.world in
    let ms = meanings g.T.Tree.meaning g.D.Disk.meaning g.K.Sink.meaning g.C.Clock.meaning in
    let first = moment c.args.tree.now c.args.disk.now c.args.report.now c.args.clock.now in
    let here = moment now.tree now.disk now.report now.clock in
    let still : KeepsFrom ms (rules_of_session now.session) here here = record { later = omega arith; goes = told_later_same (world now.tree); standing = told_stands_none images (rules_of_session now.session) now.disk (world now.tree) } in
    let turned = c.in-Ok.ensures.turns here still in
    let so_far : KeepsFrom ms (rules_of_session c.args.session) first here = record { later = now.invariant.crash.later; goes = now.invariant.goes; standing = now.invariant.standing } in
    let poll : next.result ≡ Ok Poll = search rules in
    let asks = subst (λ request. Told (Asks now.left request) (g.S.Source.meaning.rest now.control) (g.S.Source.meaning.rest next.new.control)) poll next.ensures.asks in
    record {
      session = c.in-Ok.ensures.session;
      stands = turned.polled.stands;
      rules = turned.polled.rules ∙ now.invariant.rules;
      counted = omega arith;
      within = omega (arith, now.invariant.within, next.ensures.fewer poll);
      leads = λ begun keeps. leads_on ms begun c.args.session (g.S.Source.meaning.rest c.args.control.now) (moment c.args.tree.now c.args.disk.now c.args.report.now c.args.clock.now)
          now.number now.left next.new.left now.session c.in-Ok.next _ _ (moment now.tree now.disk now.report now.clock) (moment c.turn.new.tree c.turn.new.disk c.turn.new.report c.turn.new.clock)
          (now.invariant.leads begun keeps) (record { asks = asks; spends = next.ensures.spends }) (c.in-Ok.ensures.turns begun
          (subst (λ (r : Rules). KeepsFrom ms r begun here) (sym now.invariant.rules) (keeps_then ms (rules_of_session c.args.session) begun first here keeps so_far)));
      crash = passes_grow_on (now.number - 1) (now.number + 1 - 1) _ _ _ (omega (arith, now.invariant.counted)) now.invariant.crash c.turn.ensures.crash;
      standing = told_stands_then images (rules_of_session c.args.session) c.args.disk.now now.disk c.turn.new.disk _ _ _ c.turn.ensures.later now.invariant.crash.later now.invariant.standing
          (subst (λ (r : Rules). Told (KeepsStandingSince images r now.disk c.turn.new.disk) (world now.tree) (world c.turn.new.tree)) now.invariant.rules c.turn.ensures.standing);
      goes = told_later_then (world c.args.tree.now) (world now.tree) (world c.turn.new.tree) now.invariant.goes c.turn.ensures.later;
      disk_stood = c.in-Ok.ensures.disk_stood (λ is. let no : Ok c.in-Ok.next ≡ Err 7 = is in cc) ∙ now.invariant.disk_stood;
      control_stood = subst (λ r. HasOneCause r (g.S.Source.meaning.faults now.control) (g.S.Source.meaning.faults next.new.control)) poll next.ensures.cause ∙ now.invariant.control_stood;
      report_stood = c.in-Ok.ensures.report_stood ∙ now.invariant.report_stood;
      spent = spends_both_told max_control _ _ _ _ _ now.invariant.spent next.ensures.spends;
    }
