use Rattle.std.proofs.Common.{◌≡◌, refl, sym, subst, ap, ◌∙◌, Err}
use Rattle.lifetimes.proofs.LifeLemmas.{played_lawful, world_came}
use Rattle.lifetimes.specs.Ended.{history_of}
use Rattle.mem_world.specs.WorldSteps.{event_of}
use Rattle.mem_world.specs.declared.world.StepFault.{StepFault}
use Rattle.outside.specs.Lawful.{is_lawful}
use Rattle.outside.specs.World.{Event as WorldEvent}
use Rattle.lifetimes.proofs.life.Life.play.Goals as goal

pub returns-in-Ok-clause-ready : goal.returns-in-Ok-clause-ready
returns-in-Ok-clause-ready c = c.requires

pub returns-in-Ok-clause-came : goal.returns-in-Ok-clause-came
returns-in-Ok-clause-came c = λ rules events at.
    world_came rules events c.args.self.now at c.args.step.now (event_of c.in_ok-step.step) c.play.new.self c.in_ok-step.ensures
    (played_lawful (is_lawful (history_of c.args.self.now.tree) (event_of c.in_ok-step.step)) c.play.result c.play.ensures.not_lawful c.in-Ok.is)
    c.in-Ok.ensures.ok

pub returns-in-Err-NotLawful-clause-cant : goal.returns-in-Err-NotLawful-clause-cant
returns-in-Err-NotLawful-clause-cant c = λ text. (
  refl,
  (
    c.args.step.now,
    refl,
    ap (λ (e : WorldEvent). is_lawful (history_of c.args.self.now.tree) e) (sym c.in_ok-step.ensures) ∙ c.play.ensures.not_lawful.0
        (subst (λ (fault : StepFault). c.play.result ≡ Err fault) c.in-Err-NotLawful.field-0-is c.in-Err-NotLawful.is),
  ),
)
