use Rattle.std.proofs.Common.{◌∷◌, length, ap, ◌∙◌, arith}
use Rattle.mem_world.specs.TreePlanned.{PlannedWorld}
use Rattle.mem_world.specs.TreeSteps.{all_pairs, waiting_pairs}
use Rattle.mem_world.specs.WorldSteps.{event_of, added_by}
use Rattle.mem_world.proofs.TreePacing.{paced_renewed, set_is}
use Rattle.mem_world.proofs.tree.planned.Planned.play.Goals as goal

pub invariant_of-self-2 : goal.invariant_of-self-2
invariant_of-self-2 c =
    paced_renewed c.self.inside.world c.play.new.self c.self.inside.steps.items c.renew.new.steps.items c.self.inside.calls c.self.inside.since c.self.invariant c.renew.ensures.waiting c.renew.ensures.all
    (omega (arith, c.in_ok-ready.ensures.ok, c.play.ensures.room))
    (λ file. let same = ap (λ event. length (added_by event file)) c.in_ok-ready.ensures.ready in omega (arith, same, c.in_ok-ready.ensures.ok_rooms file, c.play.ensures.rooms file))
    c.len-self-inside.result c.len-self-inside.ensures

pub returns-clause-ok : goal.returns-clause-ok
returns-clause-ok c =
    let history = c.play.ensures.history ∙ ap (λ event. event ∷ c.make_room.new.self.history) c.in_ok-ready.ensures.ready ∙ ap (λ h. event_of c.args.step ∷ h) (c.make_room.ensures.history ∙ ap (λ (w : PlannedWorld). w.history) c.self.view_is) in
    let waits = ap (λ (w : PlannedWorld). w.waiting) c.self.view_is in
    set_is (event_of c.args.step ∷ c.args.self.now.history) c.play.new.self.history (waiting_pairs c.renew.new.steps.items) (all_pairs c.renew.new.steps.items) c.args.self.now.waiting c.len-self-inside.result history (c.renew.ensures.waiting ∙ waits) (c.renew.ensures.all ∙ waits) c.len-self-inside.ensures
