-- Nodes that take their calls one after another. A node's calls go once it has taken them, and those that it makes come behind
-- the others.
use Rattle.std.specs.Prelude.{ℕ, List, [], ◌∷◌, ◌++◌, filter, not, slice_get, slice_set}
use Rattle.std.specs.Option.{option_map_or}
use Rattle.graph_core.specs.Traces.{Network, Call, trace, state_after, calls_from}
use Rattle.graph_core.specs.Wiring.{same_target}
use Rattle.graph_core.specs.declared.Target.{Target}
use Rattle.graph_core.specs.declared.Target.TheVariants.{Node}

-- the calls of other targets
abbrev pub calls_not_to : {Item : Type 0} → Target → List (Call Item) → List (Call Item)
calls_not_to to calls = filter (λ call. not (same_target to call.to)) calls

-- the states, once node v has taken these calls
abbrev pub taken_by : {State Item : Type 0} → Network State Item → ℕ → List State → List (Call Item) → List State
taken_by network v states served =
    option_map_or (λ state. slice_set states v (state_after (slice_get network.behaviors v) state served)) (slice_get states v) states

-- what node v leaves
abbrev pub states_behind : {State Item : Type 0} → Network State Item → ℕ → List State → List (Call Item) → List State
states_behind network v states calls = taken_by network v states (trace (Node v) calls)

abbrev pub calls_behind : {State Item : Type 0} → Network State Item → ℕ → List State → List (Call Item) → List (Call Item)
calls_behind network v states calls = calls_not_to (Node v) calls ++ calls_from network states v (trace (Node v) calls)

-- what nodes in this order leave
abbrev pub states_in_order : {State Item : Type 0} → Network State Item → List ℕ → List State → List (Call Item) → List State
states_in_order network [] states calls = states
states_in_order network (v ∷ order) states calls =
    states_in_order network order (states_behind network v states calls) (calls_behind network v states calls)

abbrev pub calls_in_order : {State Item : Type 0} → Network State Item → List ℕ → List State → List (Call Item) → List (Call Item)
calls_in_order network [] states calls = calls
calls_in_order network (v ∷ order) states calls =
    calls_in_order network order (states_behind network v states calls) (calls_behind network v states calls)
