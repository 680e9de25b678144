use Rattle.std.proofs.Common.{ap, ◌∙◌, arith}
use Rattle.mem_world.specs.TreePlanned.{PlannedWorld}
use Rattle.mem_world.specs.TreeSpoiled.{cut_to}
use Rattle.mem_world.specs.TreeSteps.{all_pairs, waiting_pairs}
use Rattle.mem_world.proofs.TreePacing.{paced_renewed, set_is}
use Rattle.mem_world.proofs.tree.planned.Planned.cut.Goals as goal

pub invariant_of-self : goal.invariant_of-self
invariant_of-self c =
    paced_renewed c.self.inside.world c.cut.new.self c.self.inside.steps.items c.renew.new.steps.items c.self.inside.calls c.self.inside.since c.self.invariant c.renew.ensures.waiting c.renew.ensures.all
    (omega (arith, c.cut.ensures.room))
    (λ file. omega (arith, c.cut.ensures.rooms file))
    c.len-self-inside.result c.len-self-inside.ensures

pub returns : goal.returns
returns c =
    let history = c.cut.ensures.history ∙ ap (λ (w : PlannedWorld). cut_to c.args.file c.args.size w.history) c.self.view_is in
    let waits = ap (λ (w : PlannedWorld). w.waiting) c.self.view_is in
    set_is (cut_to c.args.file c.args.size c.args.self.now.history) c.cut.new.self.history (waiting_pairs c.renew.new.steps.items) (all_pairs c.renew.new.steps.items) c.args.self.now.waiting c.len-self-inside.result history (c.renew.ensures.waiting ∙ waits) (c.renew.ensures.all ∙ waits) c.len-self-inside.ensures
