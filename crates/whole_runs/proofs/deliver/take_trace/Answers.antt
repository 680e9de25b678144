use Rattle.std.proofs.Common.{◌∙◌, map}
use Rattle.std.specs.Prelude.{Some}
use Rattle.graph_core.proofs.Delivering.{nil_from_drop}
use Rattle.whole_runs.proofs.Looping.{state_more, calls_more, state_done, calls_done}
use Rattle.whole_runs.proofs.deliver.take_trace.Goals as goal

pub taking-preserved : goal.taking-preserved
taking-preserved g c =
    let behavior = Some (g.O.Step.behavior c.args.node.now.op) in
    let ports = map (λ port. port.items) c.args.node.now.ports.items in
    record {
      state = state_more behavior ports c.taking.state c.take_call.new.state _ _ c.in-Some.call c.taking.trace.items c.pop_front.new.self.items
          c.in-Some.ensures.items c.into_parts-at.ensures.item c.in_ok-emitted.ensures.state c.taking.invariant.state;
      whole = calls_more behavior ports c.taking.state c.take_call.new.state _ c.in-Some.call _ _ c.taking.trace.items c.pop_front.new.self.items c.taking.calls.items c.add_emissions.new.calls.items _
          c.in-Some.ensures.items (c.deref.ensures.value ∙ c.into_parts-at.ensures.at) c.into_parts-at.ensures.item c.in_ok-emitted.ensures.state c.in_ok-emitted.ensures.said
          c.in_ok-add_emissions.ensures c.taking.invariant.whole;
    }

pub returns-clause-state : goal.returns-clause-state
returns-clause-state g c =
    state_done (Some (g.O.Step.behavior c.args.node.now.op)) (map (λ port. port.items) c.args.node.now.ports.items) c.taking.state _ c.taking.trace.items
    (nil_from_drop c.taking.trace.items c.pop_front.new.self.items c.in_default.ensures.items c.in_default.ensures.rest) c.taking.invariant.state

pub returns-clause-calls : goal.returns-clause-calls
returns-clause-calls g c =
    calls_done (Some (g.O.Step.behavior c.args.node.now.op)) (map (λ port. port.items) c.args.node.now.ports.items) c.taking.state c.taking.trace.items c.taking.calls.items _
    (nil_from_drop c.taking.trace.items c.pop_front.new.self.items c.in_default.ensures.items c.in_default.ensures.rest) c.taking.invariant.whole
