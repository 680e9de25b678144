use Rattle.std.proofs.Common.{rules, ℕ, ◌<◌, [], ◌∷◌, ◌++◌, length, refl, ap, ◌∙◌, arith}
use Rattle.mem_world.specs.TreePlan.{last_call, left_after}
use Rattle.mem_world.specs.TreePlanned.{PlannedWorld}
use Rattle.mem_world.specs.TreeSteps.{all_pairs, waiting_pairs}
use Rattle.mem_world.specs.WorldSteps.{event_of, added_by}
use Rattle.mem_world.proofs.TreePacing.{paced_pushed, pushed_waiting, pushed_all, set_is}
use Rattle.mem_world.proofs.tree.planned.Planned.later.Goals as goal

pub invariant_of-self-2 : goal.invariant_of-self-2
invariant_of-self-2 c =
    let small : c.from.result < last_call = search rules in
    let same_steps = ap (λ steps. left_after c.self.inside.calls (waiting_pairs steps)) c.in_ok-reserve.ensures.items in
    paced_pushed c.self.inside.world c.make_room.new.self c.self.inside.steps.items c.renew.new.steps.items c.push_reserved.new.self.items _ c.self.inside.calls c.self.inside.since c.self.invariant
    (c.renew.ensures.waiting ∙ same_steps) (c.renew.ensures.all ∙ same_steps) c.push_reserved.ensures.items refl small
    c.in_ok-ready.ensures.ok
    (λ file. let same = ap (λ event. length (added_by event file)) c.in_ok-copy.ensures in omega (arith, same, c.in_ok-ready.ensures.ok_rooms file))
    c.len-self-inside.result c.len-self-inside.ensures

pub returns-clause-ok : goal.returns-clause-ok
returns-clause-ok c =
    let same_steps = ap (λ steps. left_after c.self.inside.calls (waiting_pairs steps)) c.in_ok-reserve.ensures.items in
    let history = c.make_room.ensures.history ∙ ap (λ (w : PlannedWorld). w.history) c.self.view_is in
    let waits = ap (λ (w : PlannedWorld). w.waiting) c.self.view_is in
    let pair = ap (λ (n : ℕ). (n, event_of c.args.step)) c.from.ensures in
    let waiting = ap waiting_pairs c.push_reserved.ensures.items ∙ pushed_waiting c.renew.new.steps.items _ refl ∙ ap (λ pairs. pairs ++ (c.from.result, event_of c.args.step) ∷ []) (c.renew.ensures.waiting ∙ same_steps ∙ waits) ∙ ap (λ p. c.args.self.now.waiting ++ p ∷ []) pair in
    let all = ap all_pairs c.push_reserved.ensures.items ∙ pushed_all c.renew.new.steps.items _ ∙ ap (λ pairs. pairs ++ (c.from.result, event_of c.args.step) ∷ []) (c.renew.ensures.all ∙ same_steps ∙ waits) ∙ ap (λ p. c.args.self.now.waiting ++ p ∷ []) pair in
    set_is c.args.self.now.history c.make_room.new.self.history (waiting_pairs c.push_reserved.new.self.items) (all_pairs c.push_reserved.new.self.items) (c.args.self.now.waiting ++ (c.args.calls, event_of c.args.step) ∷ []) c.len-self-inside.result history waiting all c.len-self-inside.ensures
