-- What the history of a script's ending has.
use Rattle.std.proofs.Common.{◌≡◌, ℕ, List, sym, ap, subst, ◌∙◌}
use Rattle.std.specs.Prelude.{map, reverse}
use Rattle.demo_run.specs.Moves.{move_of}
use Rattle.demo_run.specs.Script.{played, script}
use Rattle.demo_run.specs.Steps.{IsOfRounds, steps_in}
use Rattle.demo_run.proofs.Cases.{latest}
use Rattle.demo_run.proofs.Counts.{moves_back}
use Rattle.demo_run.proofs.Courses.{NonePlanned, runs_steps}
use Rattle.demo_run.proofs.PlanLemmas.{none_planned}
use Rattle.lifetimes.specs.Course.{Course, Runs}
use Rattle.lifetimes.specs.declared.event.Event.{Event}
use Rattle.standing.specs.Rules.{Rules}

pub of_rounds : (n : ℕ) (rules : Rules) (events : List Event) (marks : List ℕ) (course : Course) → map move_of events ≡ script n → Runs rules (reverse events) marks course → IsOfRounds n course.history
of_rounds n rules events marks course is runs =
    let back : map move_of (reverse events) ≡ latest (played n) = moves_back events ∙ ap reverse is in
    runs_steps rules (reverse events) marks course runs (subst NonePlanned (sym back) (none_planned n)) ∙ ap steps_in back
