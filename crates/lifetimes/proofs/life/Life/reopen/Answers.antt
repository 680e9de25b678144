use Rattle.std.proofs.Common.{refl, sym, ◌∙◌}
use Rattle.std.proofs.lemmas.Result.{err_from_is_err_and}
use Rattle.lifetimes.proofs.LifeLemmas.{opening_cant, opening_came, stopped_opening_came, with_no_stop}
use Rattle.lifetimes.specs.Inner.Life.{course_of, past_of, waits_of}
use Rattle.lifetimes.specs.declared.event.Event.TheVariants.{Reopen}
use Rattle.lifetimes.proofs.life.Life.reopen.Goals as goal

pub returns-then-is_some-clause-cant : goal.returns-then-is_some-clause-cant
returns-then-is_some-clause-cant c = λ rules events has at. (refl, (refl, sym c.is_some.ensures ∙ c.if-is_some.true))

pub returns-in_ok-opened-in-None-clause-came : goal.returns-in_ok-opened-in-None-clause-came
returns-in_ok-opened-in-None-clause-came c = λ rules events few has at.
    with_no_stop rules events Reopen c.args.self.now (record c.args.self.now { tree = c.clear_plans.new.self; disk = c.open.new.disk; session = c.in_ok-opened-in-None.opened }) c.take.new.self c.take.ensures.after
    (opening_came rules events c.args.self.now c.clear_plans.new.self c.open.new.disk c.in_ok-opened-in-None.opened (sym c.take.ensures.value ∙ c.in-None.is) (sym c.is_some.ensures ∙ c.if-is_some.false)
    c.clear_plans.ensures.cleared (c.in_ok-opened-in-None.ensures.opened rules (past_of events c.args.self.now) (waits_of events).disk has at.disk few) c.open.ensures.crash
    (λ past own before. c.in_ok-opened-in-None.ensures.disk rules past own before) at)

pub returns-in_err-opened-in-None-clause-cant : goal.returns-in_err-opened-in-None-clause-cant
returns-in_err-opened-in-None-clause-cant c =
    let p = err_from_is_err_and c.from_residual.result c.from_residual.ensures.1 in
    rw (p.1, p.2) (λ rules events has at.
    opening_cant c.args.settings.now c.args.at Reopen (course_of c.args.self.now) c.in_err-opened-in-None.field-0.0
    (c.in_err-opened-in-None.ensures.cant rules (past_of events c.args.self.now) (waits_of events).disk has at.disk))

pub returns-in_ok-open_stopped-in-Some-clause-came : goal.returns-in_ok-open_stopped-in-Some-clause-came
returns-in_ok-open_stopped-in-Some-clause-came c = λ rules events few has at.
    with_no_stop rules events Reopen c.args.self.now (record c.args.self.now { tree = c.clear_plans.new.self; disk = c.open_stopped.new.disk; stops = c.saturating_add-self.result }) c.take.new.self c.take.ensures.after
    (stopped_opening_came rules events c.args.self.now c.clear_plans.new.self c.open_stopped.new.disk c.in-Some.stopping c.saturating_add-self.result (sym c.take.ensures.value ∙ c.in-Some.is) (sym c.is_some.ensures ∙ c.if-is_some.false)
    c.clear_plans.ensures.cleared c.saturating_add-self.ensures few c.in_ok-open_stopped-in-Some.ensures.stopped (λ past own before. c.in_ok-open_stopped-in-Some.ensures.disk rules past own before) at)
