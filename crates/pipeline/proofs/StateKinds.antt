-- The states stay of the kinds of their operators.
use Rattle.std.proofs.Common.{◌≡◌, ℕ, zero, suc, ◌+◌, List, [], ◌∷◌, Bool, Option, None, Some, map, length, refl, sym, ap, subst, ◌∙◌, arith, rules}
use Rattle.std.proofs.lemmas.List.{length-map}
use Rattle.std.specs.Prelude.{slice_get}
use Rattle.entry_model.specs.LogRecord.{LogRecord}
use Rattle.graph_core.proofs.Sorts.{along}
use Rattle.graph_core.specs.Behavior.{Behavior, KeepsSort}
use Rattle.graph_core.specs.Traces.{network_of, calls_for, states_after, start_states}
use Rattle.graph_core.specs.declared.NodeSpec.{NodeSpec}
use Rattle.graph_core.specs.declared.Target.{Target}
use Rattle.op_kinds.proofs.Applying.{begins_with_kind, keeps_kind}
use Rattle.op_kinds.specs.Kept.{Kept, keeps_groups}
use Rattle.op_kinds.specs.Operator.{Operator, behavior_of, has_groups}

abbrev pub kinds : List (NodeSpec Operator) → List Bool
kinds nodes = map (λ node. has_groups node.op) nodes

same_some : {A : Type 0} (x y : A) → ◌≡◌ {A = Option A} (Some x) (Some y) → x ≡ y
same_some x y e = search (rules, e)

none_some : {A : Type 0} (x : A) → ◌≡◌ {A = Option A} None (Some x) → ⊥
none_some x e = search (rules, e)

keeps_its_kind : (operator : Operator) → KeepsSort keeps_groups (has_groups operator) (behavior_of operator)
keeps_its_kind operator = record { first = begins_with_kind operator; after = keeps_kind operator }

each_keeps : (nodes : List (NodeSpec Operator)) (k : ℕ) (wanted : Bool) (behavior : Behavior Kept LogRecord)
    → slice_get (kinds nodes) k ≡ Some wanted → slice_get (map (λ (node : NodeSpec Operator). behavior_of node.op) nodes) k ≡ Some behavior → KeepsSort keeps_groups wanted behavior
each_keeps [] k wanted behavior kind_at at = absurd (none_some wanted kind_at)
each_keeps (node ∷ nodes) zero wanted behavior kind_at at =
    subst (λ w. KeepsSort keeps_groups w behavior) (same_some (has_groups node.op) wanted kind_at) (subst (λ (b : Behavior Kept LogRecord). KeepsSort keeps_groups (has_groups node.op) b) (same_some (behavior_of node.op) behavior at) (keeps_its_kind node.op))
each_keeps (node ∷ nodes) (suc k) wanted behavior kind_at at = each_keeps nodes k wanted behavior kind_at at

pub kinds_kept : (nodes : List (NodeSpec Operator)) (states : List Kept) (requests : List (Target × Option LogRecord)) → map keeps_groups states ≡ kinds nodes
    → map keeps_groups (states_after (network_of behavior_of nodes) states requests) ≡ kinds nodes
kinds_kept nodes states requests is =
    let network = network_of behavior_of nodes in
    along keeps_groups network (calls_for network states requests) 0 states (kinds nodes)
    (λ k wanted b kind_at at. let same : 0 + k ≡ k = omega arith in each_keeps nodes k wanted b kind_at (ap (slice_get network.behaviors) (sym same) ∙ at)) is

pub kinds_begun : (nodes : List (NodeSpec Operator)) → map keeps_groups (start_states (network_of behavior_of nodes)) ≡ kinds nodes
kinds_begun [] = refl
kinds_begun (node ∷ nodes) =
    let first : keeps_groups (behavior_of node.op).first ≡ has_groups node.op = begins_with_kind node.op in
    let rest : map keeps_groups (start_states (network_of behavior_of nodes)) ≡ kinds nodes = kinds_begun nodes in
    ap (λ b. b ∷ map keeps_groups (start_states (network_of behavior_of nodes))) first ∙ ap (λ bs. has_groups node.op ∷ bs) rest

pub as_many : (nodes : List (NodeSpec Operator)) (states : List Kept) → map keeps_groups states ≡ kinds nodes → length states ≡ length nodes
as_many nodes states is = sym (length-map states keeps_groups) ∙ ap length is ∙ length-map nodes (λ node. has_groups node.op)
