use Rattle.std.proofs.Common.{rules, tests, ◌≡◌, ◌≤◌, List, length, sym, ap, subst, ◌∙◌}
use Rattle.std.specs.Prelude.{All, IsTrue, is_some, filter}
use Rattle.std.proofs.lemmas.Fn.{filter_same}
use Rattle.std.proofs.lemmas.List.{with_items_is}
use Rattle.std.proofs.lemmas.List.Elements.{filter_passes}
use Rattle.mem_world.specs.declared.tree.events.Scheduled.{Scheduled}
use Rattle.mem_world.specs.TreePlan.{Pairs, left_after}
use Rattle.mem_world.specs.TreeSteps.{all_pairs, waiting_pairs}
use Rattle.mem_world.proofs.TreeScheduling.{kept_pairs, numbers_kept}
use Rattle.mem_world.proofs.tree.schedule.renew.Goals as goal
use Rattle.mem_world.proofs.tree.schedule.renew.Goals.{After-as_mut_slice}

kept_is : (c : After-as_mut_slice) → c.as_mut_slice.result.now ≡ filter (λ s. is_some s.ready) c.args.steps.now.items
kept_is c = c.as_mut_slice.ensures.value ∙ filter_same _ (λ s. is_some s.ready) _ (λ x b q k. search (rules, tests)) c.args.steps.now.items c.retain.new.self.items c.retain.ensures.filtered

pub count_down-requires-clause-waiting : goal.count_down-requires-clause-waiting
count_down-requires-clause-waiting c =
    let P : List Scheduled → Type 0 = λ steps. All (λ s. IsTrue (is_some s.ready)) steps in
    subst P (sym (kept_is c)) (filter_passes (λ s. is_some s.ready) c.args.steps.now.items)

pub count_down-requires-clause-numbers : goal.count_down-requires-clause-numbers
count_down-requires-clause-numbers c =
    let P : List Scheduled → Type 0 = λ steps. All (λ s. c.args.calls ≤ s.number) steps in
    let Q : Pairs → Type 0 = λ pairs. All (λ pair. c.args.calls ≤ pair.0) pairs in
    subst P (sym (kept_is c)) (numbers_kept c.args.calls (filter (λ s. is_some s.ready) c.args.steps.now.items) (subst Q (sym (kept_pairs c.args.steps.now.items)) c.requires))

kept_pairs_is : (c : After-as_mut_slice) → all_pairs c.as_mut_slice.result.now ≡ waiting_pairs c.args.steps.now.items
kept_pairs_is c = ap all_pairs (kept_is c) ∙ kept_pairs c.args.steps.now.items

pub returns-clause-waiting : goal.returns-clause-waiting
returns-clause-waiting c =
    let long : length c.count_down.new.steps ≡ c.retain.new.self.len = search rules in
    rw (with_items_is c.retain.new.self c.count_down.new.steps long) (c.count_down.ensures.waiting ∙ ap (left_after c.args.calls) (kept_pairs_is (goal.at.returns-clause-waiting c).After-as_mut_slice))

pub returns-clause-all : goal.returns-clause-all
returns-clause-all c =
    let long : length c.count_down.new.steps ≡ c.retain.new.self.len = search rules in
    rw (with_items_is c.retain.new.self c.count_down.new.steps long) (c.count_down.ensures.all ∙ ap (left_after c.args.calls) (kept_pairs_is (goal.at.returns-clause-all c).After-as_mut_slice))
