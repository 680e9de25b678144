use Rattle.std.proofs.Common.{rules, ◌≡◌, ◌<◌, List, length, sym, ap, subst, ◌∙◌}
use Rattle.std.specs.Vec.{with_items}
use Rattle.mem_world.specs.declared.tree.events.Scheduled.{Scheduled}
use Rattle.std.proofs.lemmas.List.{with_items_is}
use Rattle.mem_world.specs.TreePlan.{last_call, left_after, own_since, played, due_at, not_due_at}
use Rattle.mem_world.specs.TreeSteps.{all_pairs, waiting_pairs}
use Rattle.mem_world.proofs.TreePacing.{Begins, begins, begun_is}
use Rattle.mem_world.proofs.tree.planned.Planned.begin.Goals as goal
use Rattle.mem_world.proofs.tree.planned.Planned.begin.Goals.{After-min-self-inside}

here : (c : After-min-self-inside) → Begins c.self.inside.world c.play_due.new.world c.self.inside.steps.items c.play_due.new.steps c.self.inside.calls c.min-self-inside.result c.self.inside.since
here c =
    let same = c.as_mut_slice.ensures.value in
    begins c.self.inside.world c.play_due.new.world c.self.inside.steps.items c.play_due.new.steps c.self.inside.calls c.min-self-inside.result c.self.inside.since c.self.invariant c.min-self-inside.ensures
    (c.play_due.ensures.history ∙ ap (λ steps. played c.self.inside.world.history (due_at c.self.inside.calls (waiting_pairs steps))) same)
    (c.play_due.ensures.waiting ∙ ap (λ steps. not_due_at c.self.inside.calls (waiting_pairs steps)) same)
    (c.play_due.ensures.all ∙ ap all_pairs same)
    c.play_due.ensures.room c.play_due.ensures.rooms

pub invariant_of-self : goal.invariant_of-self
invariant_of-self c =
    let long : length c.play_due.new.steps ≡ c.self.inside.steps.len = search rules in
    rw (with_items_is c.self.inside.steps c.play_due.new.steps long) (here (goal.at.invariant_of-self c).After-min-self-inside).paced

pub returns-clause-counted : goal.returns-clause-counted
returns-clause-counted c =
    let long : length c.play_due.new.steps ≡ c.self.inside.steps.len = search rules in
    let P : List Scheduled → Type 0 = λ steps. c.min-self-inside.result < last_call → own_since (record { steps = all_pairs steps; since = c.self.inside.since }) c.play_due.new.world.history < c.min-self-inside.result in
    subst P (sym (with_items_is c.self.inside.steps c.play_due.new.steps long)) (here (goal.at.returns-clause-counted c).After-min-self-inside).counted

pub returns-clause-begun : goal.returns-clause-begun
returns-clause-begun c =
    let long : length c.play_due.new.steps ≡ c.self.inside.steps.len = search rules in
    let h = here (goal.at.returns-clause-begun c).After-min-self-inside in
    let inside = c.self.inside in
    let same = with_items_is inside.steps c.play_due.new.steps long in
    rw (← c.self.view_is) (begun_is inside.world.history c.play_due.new.world.history (left_after inside.calls (waiting_pairs inside.steps.items)) (left_after c.min-self-inside.result (waiting_pairs (with_items inside.steps c.play_due.new.steps).items)) (all_pairs inside.steps.items) (all_pairs (with_items inside.steps c.play_due.new.steps).items) inside.since inside.calls c.min-self-inside.result h.history
    (ap (λ steps. left_after c.min-self-inside.result (waiting_pairs steps)) same ∙ h.waiting)
    (ap all_pairs same ∙ c.play_due.ensures.all ∙ ap all_pairs c.as_mut_slice.ensures.value) c.min-self-inside.ensures)
