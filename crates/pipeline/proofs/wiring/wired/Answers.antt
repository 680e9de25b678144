use Rattle.std.proofs.Common.{◌≡◌, ◌+◌, ◌<◌, ◌∷◌, [], length, ap, sym, subst, ◌∙◌, arith, length-append}
use Rattle.std.specs.Prelude.{Some, slice_get}
use Rattle.pipeline.specs.Listed.{AreOperatorsFrom}
use Rattle.pipeline.specs.Wired.{ids_of, ports_for}
use Rattle.pipeline.proofs.Building.{spec_at, one_more_node, operators_behind, first_operator}
use Rattle.pipeline.proofs.wiring.wired.Goals as goal

pub wiring-preserved : goal.wiring-preserved
wiring-preserved c =
    let operators = c.args.specs.now in
    let count = length c.wiring.nodes.items in
    let spec = c.index-specs-place.result in
    let place : c.len-place.result ≡ count = omega (arith, c.len-place.ensures, c.wiring.nodes.ok.0) in
    let within : count < length c.args.specs.now = omega (arith, c.wiring.invariant.many, ap length c.in-Some.ensures.items) in
    let there : slice_get operators count ≡ Some spec = spec_at c.args.specs.now count c.index-specs-place.result within (rw place at c.index-specs-place.is) in
    let longer : length c.push.new.self.items ≡ count + 1 = omega (arith, ap length c.in_ok-push.ensures.items, length-append c.wiring.nodes.items (record { op = c.in-Some.op; ports = c.in_ok-ports.ports } ∷ [])) in
    record {
      many = omega (arith, longer, c.wiring.invariant.many, ap length c.in-Some.ensures.items);
      left = subst (λ from. AreOperatorsFrom from operators c.pop_front.new.self.items) (sym longer) (operators_behind operators count c.in-Some.op c.pop_front.new.self.items c.wiring.ops.items c.in-Some.ensures.items c.wiring.invariant.left);
      nodes = one_more_node operators c.wiring.nodes.items c.push.new.self.items spec (record { op = c.in-Some.op; ports = c.in_ok-ports.ports }) c.wiring.invariant.nodes there
          (record {
            compiled = first_operator operators count spec c.in-Some.op c.pop_front.new.self.items c.wiring.ops.items c.in-Some.ensures.items c.wiring.invariant.left there;
            wired = c.in_ok-ports.ensures ∙ ap (λ ids. ports_for ids c.len-place.result spec.output spec.kind) c.requires.ids ∙ ap (λ k. ports_for (ids_of operators) k spec.output spec.kind) place;
          }) c.in_ok-push.ensures.items;
    }
