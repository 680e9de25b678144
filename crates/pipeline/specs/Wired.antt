-- The nodes of a list of operators: to which others each sends.
use Rattle.std.specs.Prelude.{◌≡◌, ℕ, ◌+◌, nat_lt, if◌then◌else◌, List, [], ◌∷◌, ◌++◌, length, map, Option, None, Some, slice_get}
use Rattle.std.specs.List.{position_or_len}
use Rattle.std.specs.Str.{bytes_eq}
use Rattle.graph_core.specs.declared.NodeSpec.{NodeSpec}
use Rattle.graph_core.specs.declared.Target.{Target}
use Rattle.graph_core.specs.declared.Target.TheVariants.{Node, Out}
use Rattle.graph_core.specs.Faults.{IsAccepted}
use Rattle.graph_core.specs.Traces.{Network, network_of}
use Rattle.graph_core.specs.Wiring.{wiring_of, edges_of}
use Rattle.entry_model.specs.LogRecord.{LogRecord}
use Rattle.op_kinds.specs.Compiled.{IsCompiledTo}
use Rattle.op_kinds.specs.Operator.{Operator, behavior_of}
use Rattle.op_kinds.specs.Kept.{Kept}
use Rattle.settings_text.specs.declared.settings.OpSpec.{OpSpec}
use Rattle.settings_text.specs.declared.settings.OpKind.{OpKind}
use Rattle.settings_text.specs.declared.settings.OpKind.TheVariants.{Router}

abbrev pub ids_of : List OpSpec → List (List ℕ)
ids_of operators = map (λ operator. operator.id) operators

-- ---- where an operator sends

-- the first operator with this id; a node that isn't there, where none has it
abbrev pub target_named : List (List ℕ) → List ℕ → Target
target_named ids id = Node (position_or_len (bytes_eq id) ids)

abbrev pub targets_named : List (List ℕ) → List (List ℕ) → List Target
targets_named ids names = map (target_named ids) names

-- the next of so many operators, and behind the last one the output
abbrev pub next_target : ℕ → ℕ → Target
next_target count place = if nat_lt (place + 1) count then Node (place + 1) else Out

-- the targets of the operator at a place, which names them or sends to the next
abbrev pub output_targets : List (List ℕ) → ℕ → Option (List (List ℕ)) → List Target
output_targets ids place None = next_target (length ids) place ∷ []
output_targets ids place (Some names) = targets_named ids names

-- the port of a router's default, where it has one
abbrev pub default_ports : List (List ℕ) → Option (List (List ℕ)) → List (List Target)
default_ports ids None = []
default_ports ids (Some names) = targets_named ids names ∷ []

-- a port for each route of a router and one for its default, or the one port of another operator
abbrev pub ports_for : List (List ℕ) → ℕ → Option (List (List ℕ)) → OpKind → List (List Target)
ports_for ids place output (Router routes default) = map (λ route. targets_named ids route.output) routes ++ default_ports ids default
ports_for ids place output _ = output_targets ids place output ∷ []

-- ---- the nodes

pub record IsNode (operators : List OpSpec) (place : ℕ) (spec : OpSpec) (node : NodeSpec Operator) : Type 0 where
  pub compiled : IsCompiledTo spec node.op
  pub wired : map (λ port. port.items) node.ports.items ≡ ports_for (ids_of operators) place spec.output spec.kind

-- each of these nodes is that of the operator at its place
abbrev pub AreFirstNodes : List OpSpec → List (NodeSpec Operator) → Type 0
AreFirstNodes operators nodes = (place : ℕ) (spec : OpSpec) (node : NodeSpec Operator)
    → slice_get operators place ≡ Some spec → slice_get nodes place ≡ Some node → IsNode operators place spec node

pub record AreNodes (operators : List OpSpec) (nodes : List (NodeSpec Operator)) : Type 0 where
  pub many : length nodes ≡ length operators
  pub each : AreFirstNodes operators nodes

-- no two operators have one id
abbrev pub HaveOwnIds : List OpSpec → Type 0
HaveOwnIds operators = (place other : ℕ) (one another : OpSpec) → slice_get operators place ≡ Some one → slice_get operators other ≡ Some another → one.id ≡ another.id → place ≡ other

-- the network is that of the operators, whose ids differ and whose graph was accepted
pub record IsNetwork (operators : List OpSpec) (network : Network Kept LogRecord) : Type 0 where
  pub differ : HaveOwnIds operators
  pub nodes : List (NodeSpec Operator)
  pub are : AreNodes operators nodes
  pub accepted : IsAccepted (edges_of (wiring_of nodes))
  pub is : network ≡ network_of behavior_of nodes
