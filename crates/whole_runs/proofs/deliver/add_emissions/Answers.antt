use Rattle.std.proofs.Common.{◌∙◌, ◌++◌, ap, arith, map}
use Rattle.graph_core.specs.Traces.{calls_of_emissions}
use Rattle.graph_core.proofs.Delivering.{nil_from_drop}
use Rattle.whole_runs.proofs.Looping.{emissions_more, emissions_done}
use Rattle.whole_runs.proofs.deliver.add_emissions.Goals as goal

pub emitting-preserved : goal.emitting-preserved
emitting-preserved g c = record {
  counted = omega (arith, c.in-Some.ensures.cases);
  whole = emissions_more (map (λ port. port.items) c.args.node.now.ports.items) c.args.at.now _ c.emitting.place (c.in-Some.port, c.in-Some.item) c.emitting.left.items c.pop_front.new.self.items
      c.emitting.calls.items c.add_emission.new.calls.items _
      c.in-Some.ensures.items (c.deref.ensures.value ∙ c.in_ok-address.ensures) c.in_ok-add_emission.ensures c.emitting.invariant.whole;
}

pub returns : goal.returns
returns g c =
    emissions_done (map (λ port. port.items) c.args.node.now.ports.items) c.args.at.now c.emitting.place c.emitting.left.items c.emitting.calls.items _
    (nil_from_drop c.emitting.left.items c.pop_front.new.self.items c.in_default.ensures.items c.in_default.ensures.rest) c.emitting.invariant.whole
    ∙ ap (λ l. c.args.calls.now.items ++ calls_of_emissions (map (λ port. port.items) c.args.node.now.ports.items) c.args.at.now 0 l) c.from-left.ensures.0
