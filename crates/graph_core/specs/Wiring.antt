use Rattle.std.specs.Prelude.{◌≡◌, ◌==◌, ◌⊎◌, ℕ, Bool, true, false, List, [], ◌∷◌, map, slice_index_or}
use Rattle.std.specs.List.{flat_map, list_any}
use Rattle.graph_core.specs.declared.Target.{Target}
use Rattle.graph_core.specs.declared.Target.TheVariants.{Node, Out}
use Rattle.graph_core.specs.declared.NodeSpec.{NodeSpec}

-- which targets each port of each node has
abbrev pub Wiring : Type 0
Wiring = List (List (List Target))

abbrev pub wiring_of : {Op : Type 0} → List (NodeSpec Op) → Wiring
wiring_of nodes = map (λ node. map (λ port. port.items) node.ports.items) nodes

-- the ports of a node; of a node that isn't there, none
abbrev pub ports_of : Wiring → ℕ → List (List Target)
ports_of wiring node = slice_index_or wiring node []

-- each node's targets, those of all its ports in order
abbrev pub Edges : Type 0
Edges = List (List Target)

abbrev pub edges_of : Wiring → Edges
edges_of wiring = map (λ ports. flat_map (λ port. port) ports) wiring

abbrev pub targets_of : Edges → ℕ → List Target
targets_of edges node = slice_index_or edges node []

-- x is an element of the list
abbrev pub Has : {X : Type 0} → List X → X → Type 0
Has [] x = ⊥
Has (y ∷ ys) x = (x ≡ y) ⊎ Has ys x

abbrev pub same_target : Target → Target → Bool
same_target (Node v) (Node w) = v == w
same_target (Node v) Out = false
same_target Out (Node w) = false
same_target Out Out = true

-- whether the caller has the node as a target
abbrev pub calls_node : Edges → ℕ → ℕ → Bool
calls_node edges caller node = list_any (same_target (Node node)) (targets_of edges caller)

-- where an input goes: to the first node, or out where there is none
abbrev pub entry_of : Wiring → Target
entry_of [] = Out
entry_of (ports ∷ rest) = Node 0
