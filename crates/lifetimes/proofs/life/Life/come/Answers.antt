use Rattle.std.proofs.Common.{sym, subst}
use Rattle.std.proofs.lemmas.Result.{err_from_is_err_and}
use Rattle.lifetimes.specs.Inner.Life.{Cant, course_of}
use Rattle.lifetimes.specs.declared.event.Event.{Event}
use Rattle.lifetimes.proofs.life.Life.come.Goals as goal

pub returns-in_err-play-in-World-clause-cant : goal.returns-in_err-play-in-World-clause-cant
returns-in_err-play-in-World-clause-cant c =
    let p = err_from_is_err_and c.from_residual.result c.from_residual.ensures.1 in
    rw (p.1, p.2) (λ rules events has at. subst (λ (event : Event). Cant c.args.settings.now c.args.at event (course_of c.args.self.now) c.in_err-play-in-World.field-0.0) (sym c.in-World.is) (c.in_err-play-in-World.ensures.cant c.args.settings.now))

pub returns-in_err-poll-in-Poll-clause-cant : goal.returns-in_err-poll-in-Poll-clause-cant
returns-in_err-poll-in-Poll-clause-cant c =
    let p = err_from_is_err_and c.from_residual-in_err-poll-in-Poll.result c.from_residual-in_err-poll-in-Poll.ensures.1 in
    rw (p.1, p.2) (λ rules events has at. subst (λ (event : Event). Cant c.args.settings.now c.args.at event (course_of c.args.self.now) c.in_err-poll-in-Poll.field-0.0) (sym c.in-Poll.is) (c.in_err-poll-in-Poll.ensures.cant c.args.settings.now))
