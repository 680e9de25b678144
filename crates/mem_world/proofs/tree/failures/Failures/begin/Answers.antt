use Rattle.std.proofs.Common.{rules, ◌≡◌, ◌+◌, ◌-◌, ◌≤◌, ℕ, List, true, length, sym, ap, subst, ◌∙◌, arith}
use Rattle.std.specs.Vec.{with_items}
use Rattle.std.proofs.lemmas.List.{with_items_is, length-map}
use Rattle.mem_world.specs.TreeFailures.{still, is_reached, one_later}
use Rattle.mem_world.proofs.TreeFails.{still_later, still_reached}
use Rattle.mem_world.proofs.tree.failures.Failures.begin.Goals as goal
use Rattle.mem_world.proofs.tree.failures.Failures.begin.Goals.{After-count_down}

later : (c : After-count_down) → (with_items c.self.inside.calls c.count_down.new.calls).items ≡ one_later c.self.inside.calls.items
later c =
    let long : length c.count_down.new.calls ≡ c.self.inside.calls.len = search rules in
    with_items_is c.self.inside.calls c.count_down.new.calls long ∙ c.count_down.ensures ∙ ap one_later c.as_mut_slice.ensures.value

pub invariant_of-self : goal.invariant_of-self
invariant_of-self c =
    let less = still_later c.self.inside.calls.items in
    let long = length-map c.self.inside.calls.items (λ (n : ℕ). n - 1) in
    let P : List ℕ → Type 0 = λ calls. c.self.inside.count + still calls ≤ c.self.inside.base + length calls in
    subst P (sym (later (goal.at.invariant_of-self c).After-count_down)) (omega (arith, less, long, c.self.invariant))

pub returns-clause-spare : goal.returns-clause-spare
returns-clause-spare c = λ reached.
    let is : is_reached c.self.inside.calls.items ≡ true = ap is_reached (sym c.deref.ensures.value) ∙ sym c.contains-reached.ensures.value ∙ reached in
    let less = still_reached c.self.inside.calls.items is in
    let long = length-map c.self.inside.calls.items (λ (n : ℕ). n - 1) in
    let P : List ℕ → Type 0 = λ calls. still calls + 1 ≤ c.self.inside.base + length calls - c.self.inside.count in
    subst P (sym (later (goal.at.returns-clause-spare c).After-count_down)) (omega (arith, less, long, c.self.invariant))
