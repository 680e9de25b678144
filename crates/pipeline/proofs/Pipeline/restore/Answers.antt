use Rattle.std.proofs.Common.{List, refl, subst, arith}
use Rattle.graph_core.specs.declared.NodeSpec.{NodeSpec}
use Rattle.op_kinds.proofs.StateTexts.{spelled_tells}
use Rattle.op_kinds.specs.Operator.{Operator}
use Rattle.op_kinds.specs.States.{Spell}
use Rattle.pipeline.proofs.Pipeline.restore.Goals as goal

pub returns-clause-ok : goal.returns-clause-ok
returns-clause-ok c =
    let bytes = c.args.bytes.now in
    let states = c.in_ok-states.states.items in
    let spell = subst (λ (nodes : List (NodeSpec Operator)). Spell nodes bytes states) c.nodes.ensures c.in_ok-states.ensures.ok in
    record {
      states = spelled_tells c.args.self.now.graph bytes states (λ i. omega (arith, c.type_inv.bytes i)) spell;
      records_are = refl;
      lines_are = refl;
    }
