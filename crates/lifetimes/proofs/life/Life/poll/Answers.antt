use Rattle.std.proofs.Common.{◌≡◌, Option, Some, None, refl, sym, subst, ap, ◌∙◌}
use Rattle.std.specs.Prelude.{IfSome, is_some}
use Rattle.lifetimes.proofs.LifeLemmas.{may_poll, poll_came, stopped_poll_came, with_no_stop, with_no_session}
use Rattle.lifetimes.specs.Inner.Life.{past_of, waits_of}
use Rattle.lifetimes.specs.Inner.Past.{IsReady}
use Rattle.lifetimes.specs.declared.event.Event.TheVariants.{Poll}
use Rattle.poll_core.specs.declared.session.Session.{Session}
use Rattle.lifetimes.proofs.life.Life.poll.Goals as goal

pub returns-in-None-clause-cant : goal.returns-in-None-clause-cant
returns-in-None-clause-cant c = λ text. (refl, (refl, ap (λ (session : Option Session). is_some session) (sym c.take.ensures.value ∙ c.in-None.is)))

pub poll_through-requires : goal.poll_through-requires
poll_through-requires c =
    subst (λ (session : Option Session). IfSome session (λ own. IsReady own c.args.self.now.disk)) (sym c.take.ensures.value ∙ c.in-Some.is) c.requires

pub poll_stopped-requires : goal.poll_stopped-requires
poll_stopped-requires c =
    subst (λ (session : Option Session). IfSome session (λ own. IsReady own c.args.self.now.disk)) (sym c.take.ensures.value ∙ c.in-Some.is) c.requires

pub returns-in_ok-self-in-None-take-clause-came : goal.returns-in_ok-self-in-None-take-clause-came
returns-in_ok-self-in-None-take-clause-came c = λ rules events few at.
    let has : c.args.self.now.session ≡ Some c.in-Some.session = sym c.take.ensures.value ∙ c.in-Some.is in
    let may = may_poll rules events c.args.self.now c.in-Some.session has few at in
    with_no_stop rules events Poll c.args.self.now (record c.args.self.now { tree = c.poll_through.new.tree; disk = c.poll_through.new.disk; session = c.in_ok-self-in-None-take.field-0; polls = c.saturating_add-self.result }) c.take-in-Some.new.self c.take-in-Some.ensures.after
    (poll_came rules events c.args.self.now c.in-Some.session c.poll_through.new.tree c.poll_through.new.disk c.in_ok-self-in-None-take.field-0 c.saturating_add-self.result
    has (sym c.take-in-Some.ensures.value ∙ c.in-None-take.is) c.saturating_add-self.ensures few (c.poll_through.ensures.tree (waits_of events) at.tree)
    (c.in_ok-self-in-None-take.ensures.disk rules (waits_of events) (past_of events c.args.self.now) may) (c.in_ok-self-in-None-take.ensures.goes_on rules (waits_of events) (past_of events c.args.self.now) may) at)

pub returns-in_ok-poll_stopped-in-Some-take-clause-came : goal.returns-in_ok-poll_stopped-in-Some-take-clause-came
returns-in_ok-poll_stopped-in-Some-take-clause-came c = λ rules events few at.
    let has : c.args.self.now.session ≡ Some c.in-Some.session = sym c.take.ensures.value ∙ c.in-Some.is in
    let may = may_poll rules events c.args.self.now c.in-Some.session has few at in
    with_no_session rules events Poll c.args.self.now (record c.args.self.now { tree = c.poll_stopped.new.tree; disk = c.poll_stopped.new.disk; stopping = c.take-in-Some.new.self; polls = c.saturating_add-self.result; stops = c.saturating_add-self-in-Some-take.result }) c.take.new.self c.take.ensures.after
    (with_no_stop rules events Poll c.args.self.now (record c.args.self.now { tree = c.poll_stopped.new.tree; disk = c.poll_stopped.new.disk; session = None; polls = c.saturating_add-self.result; stops = c.saturating_add-self-in-Some-take.result }) c.take-in-Some.new.self c.take-in-Some.ensures.after
    (stopped_poll_came rules events c.args.self.now c.in-Some.session c.poll_stopped.new.tree c.poll_stopped.new.disk c.in-Some-take.stopping c.saturating_add-self.result c.saturating_add-self-in-Some-take.result
    has (sym c.take-in-Some.ensures.value ∙ c.in-Some-take.is) c.saturating_add-self.ensures c.saturating_add-self-in-Some-take.ensures few (c.poll_stopped.ensures.tree (waits_of events) at.tree)
    (c.in_ok-poll_stopped-in-Some-take.ensures.disk rules (waits_of events) (past_of events c.args.self.now) may) c.in_ok-poll_stopped-in-Some-take.ensures.stopped at))
