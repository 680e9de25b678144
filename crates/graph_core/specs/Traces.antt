-- What a graph makes of a whole list of requests, node by node. Addresses are lists of numbers. Request k
-- is a call at [k]. The i-th emission of a call at address a, on port p, is a call of the j-th target of p at
-- a, i, j. A node's trace is all calls to it by address, and what it emits is the fold of its behavior over
-- its trace. Nodes are taken in closing order, so that a node's callers come before it.
use Rattle.std.specs.Prelude.{◌≡◌, ◌==◌, ◌||◌, ◌&&◌, ℕ, suc, Bool, true, false, if◌then◌else◌, Option, None, Some, List, [], ◌∷◌, ◌++◌, map, filter, filter_map, nat_lt, slice_get, slice_index_or}
use Rattle.std.specs.Option.{option_map_or}
use Rattle.graph_core.specs.declared.Target.{Target}
use Rattle.graph_core.specs.declared.Target.TheVariants.{Node, Out}
use Rattle.graph_core.specs.declared.NodeSpec.{NodeSpec}
use Rattle.graph_core.specs.Behavior.{Behavior}
use Rattle.graph_core.specs.Wiring.{Wiring, wiring_of, edges_of, ports_of, same_target, entry_of}
use Rattle.graph_core.specs.Closing.{closing_order}

pub record Network (State Item : Type 0) : Type 0 where
  pub wiring : Wiring
  pub behaviors : List (Behavior State Item)

abbrev pub network_of : {Op State Item : Type 0} → (Op → Behavior State Item) → List (NodeSpec Op) → Network State Item
network_of behavior nodes = record { wiring = wiring_of nodes; behaviors = map (λ node. behavior node.op) nodes }

-- dictionary order, a prefix first
abbrev pub is_before : List ℕ → List ℕ → Bool
is_before [] [] = false
is_before [] (y ∷ ys) = true
is_before (x ∷ xs) [] = false
is_before (x ∷ xs) (y ∷ ys) = nat_lt x y || ((x == y) && is_before xs ys)

-- a call hands over an item, or closes the node
pub record Call (Item : Type 0) : Type 0 where
  pub to : Target
  pub at : List ℕ
  pub item : Option Item

-- the calls by address, each address once
abbrev pub insert_call : {Item : Type 0} → Call Item → List (Call Item) → List (Call Item)
insert_call call [] = call ∷ []
insert_call call (other ∷ others) =
    if is_before call.at other.at then call ∷ other ∷ others
    else (if is_before other.at call.at then other ∷ insert_call call others else other ∷ others)

abbrev pub by_address : {Item : Type 0} → List (Call Item) → List (Call Item)
by_address [] = []
by_address (call ∷ calls) = insert_call call (by_address calls)

abbrev pub calls_to : {Item : Type 0} → Target → List (Call Item) → List (Call Item)
calls_to to calls = filter (λ call. same_target to call.to) calls

abbrev pub trace : {Item : Type 0} → Target → List (Call Item) → List (Call Item)
trace to calls = by_address (calls_to to calls)

-- what one call makes a node emit, and the state that it leaves; a closing call leaves the start state
abbrev pub said : {State Item : Type 0} → Option (Behavior State Item) → State → Option Item → List (ℕ × Item)
said None state item = []
said (Some behavior) state None = behavior.closed state
said (Some behavior) state (Some item) = behavior.emitted state item

abbrev pub next_state : {State Item : Type 0} → Option (Behavior State Item) → State → Option Item → State
next_state None state item = state
next_state (Some behavior) state None = behavior.first
next_state (Some behavior) state (Some item) = behavior.after state item

-- the state after all calls of a trace
abbrev pub state_after : {State Item : Type 0} → Option (Behavior State Item) → State → List (Call Item) → State
state_after behavior state [] = state
state_after behavior state (call ∷ calls) = state_after behavior (next_state behavior state call.item) calls

-- the calls of an emission at this address, from its j-th target on
abbrev pub calls_of_targets : {Item : Type 0} → List Target → List ℕ → ℕ → Item → List (Call Item)
calls_of_targets [] at j item = []
calls_of_targets (to ∷ targets) at j item = record { to = to; at = at ++ j ∷ []; item = Some item } ∷ calls_of_targets targets at (suc j) item

-- the calls of the emissions of a call at this address, from its i-th emission on
abbrev pub calls_of_emissions : {Item : Type 0} → List (List Target) → List ℕ → ℕ → List (ℕ × Item) → List (Call Item)
calls_of_emissions ports at i [] = []
calls_of_emissions ports at i (emission ∷ emissions) =
    calls_of_targets (slice_index_or ports emission.0 []) (at ++ i ∷ []) 0 emission.1 ++ calls_of_emissions ports at (suc i) emissions

-- the calls that a node's trace makes
abbrev pub calls_of_trace : {State Item : Type 0} → Option (Behavior State Item) → List (List Target) → State → List (Call Item) → List (Call Item)
calls_of_trace behavior ports state [] = []
calls_of_trace behavior ports state (call ∷ calls) =
    calls_of_emissions ports call.at 0 (said behavior state call.item) ++ calls_of_trace behavior ports (next_state behavior state call.item) calls

abbrev pub calls_from : {State Item : Type 0} → Network State Item → List State → ℕ → List (Call Item) → List (Call Item)
calls_from network states v calls =
    option_map_or (λ state. calls_of_trace (slice_get network.behaviors v) (ports_of network.wiring v) state calls) (slice_get states v) []

-- all calls, once each node of the order has made those of its trace
abbrev pub calls_through : {State Item : Type 0} → Network State Item → List State → List ℕ → List (Call Item) → List (Call Item)
calls_through network states [] calls = calls
calls_through network states (v ∷ order) calls =
    calls_through network states order (calls ++ calls_from network states v (trace (Node v) calls))

-- requests, as calls at [k], [k + 1] and so on
abbrev pub numbered : {Item : Type 0} → ℕ → List (Target × Option Item) → List (Call Item)
numbered k [] = []
numbered k (request ∷ requests) = record { to = request.0; at = k ∷ []; item = request.1 } ∷ numbered (suc k) requests

abbrev pub calls_for : {State Item : Type 0} → Network State Item → List State → List (Target × Option Item) → List (Call Item)
calls_for network states requests = calls_through network states (closing_order (edges_of network.wiring)) (numbered 0 requests)

-- The items of Out's trace, and each node's state after its own, for these requests from these states.
abbrev pub outputs : {State Item : Type 0} → Network State Item → List State → List (Target × Option Item) → List Item
outputs network states requests = filter_map (λ call. call.item) (trace Out (calls_for network states requests))

abbrev pub states_along : {State Item : Type 0} → Network State Item → List (Call Item) → ℕ → List State → List State
states_along network calls v [] = []
states_along network calls v (state ∷ states) =
    state_after (slice_get network.behaviors v) state (trace (Node v) calls) ∷ states_along network calls (suc v) states

abbrev pub states_after : {State Item : Type 0} → Network State Item → List State → List (Target × Option Item) → List State
states_after network states requests = states_along network (calls_for network states requests) 0 states

-- The start states; the requests that hand in a list of items; and those that close each node.
abbrev pub start_states : {State Item : Type 0} → Network State Item → List State
start_states network = map (λ behavior. behavior.first) network.behaviors

abbrev pub inputs : {State Item : Type 0} → Network State Item → List Item → List (Target × Option Item)
inputs network items = map (λ item. (entry_of network.wiring, Some item)) items

abbrev pub closings : {State Item : Type 0} → Network State Item → List (Target × Option Item)
closings network = map (λ v. (Node v, None)) (closing_order (edges_of network.wiring))

-- From these states and this output on, serving the requests leaves the states that the traces give, and has put out what they give.
pub record Served {State Item : Type 0} (network : Network State Item) (from : List State) (before : List Item) (requests : List (Target × Option Item)) (after : List State) (out : List Item) : Type 0 where
  pub states : after ≡ states_after network from requests
  pub items : out ≡ before ++ outputs network from requests
