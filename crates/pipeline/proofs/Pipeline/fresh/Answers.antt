use Rattle.std.proofs.Common.{◌≡◌, [], List, refl, sym, ap, subst, ◌∙◌, map, length}
use Rattle.std.proofs.lemmas.List.{take_all}
use Rattle.graph_core.specs.Traces.{start_states}
use Rattle.op_kinds.specs.Operator.{behavior_of}
use Rattle.pipeline.specs.Parts.{network}
use Rattle.pipeline.proofs.StateKinds.{kinds_begun}
use Rattle.op_kinds.specs.Kept.{Kept, keeps_groups}
use Rattle.op_kinds.specs.StateTexts.{Tells}
use Rattle.pipeline.proofs.Rows.{first_told}
use Rattle.op_kinds.specs.States.{states_spelling}
use Rattle.pipeline.proofs.Pipeline.fresh.Goals as goal

pub returns-clause-stands : goal.returns-clause-stands
returns-clause-stands c = λ path.
    let start : c.loop-node.states.items ≡ start_states (network c.args.self.now) = c.loop-node.invariant ∙ ap (λ nodes. map (λ behavior. behavior.first) (map (λ node. behavior_of node.op) nodes)) (take_all c.loop-node.node-index c.nodes-node-items.result.now c.loop-node-test.false ∙ c.nodes-node-items.ensures) in
    record {
      states = start ∙ (c.begin.ensures (start_states (network c.args.self.now)) []).states;
      records = refl;
      lines = ap length (c.begin.ensures (start_states (network c.args.self.now)) []).items;
    }

pub returns-clause-kinds : goal.returns-clause-kinds
returns-clause-kinds c =
    let start : c.loop-node.states.items ≡ start_states (network c.args.self.now) = c.loop-node.invariant ∙ ap (λ nodes. map (λ behavior. behavior.first) (map (λ node. behavior_of node.op) nodes)) (take_all c.loop-node.node-index c.nodes-node-items.result.now c.loop-node-test.false ∙ c.nodes-node-items.ensures) in
    ap (map keeps_groups) start ∙ kinds_begun c.args.self.now.graph

pub returns-clause-spelled : goal.returns-clause-spelled
returns-clause-spelled c =
    let start : c.loop-node.states.items ≡ start_states (network c.args.self.now) = c.loop-node.invariant ∙ ap (λ nodes. map (λ behavior. behavior.first) (map (λ node. behavior_of node.op) nodes)) (take_all c.loop-node.node-index c.nodes-node-items.result.now c.loop-node-test.false ∙ c.nodes-node-items.ensures) in
    record {
      states = subst (λ (ks : List Kept). Tells c.args.self.now.graph (states_spelling (start_states (network c.args.self.now))) ks) (sym start) (first_told c.args.self.now.graph);
      records_are = refl;
      lines_are = refl;
    }
