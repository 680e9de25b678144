-- The graph as the code goes through it, depth first. No public clause speaks of it.
use Rattle.std.specs.Prelude.{◌≡◌, ◌==◌, ◌<◌, ℕ, suc, Option, Some, List, [], ◌∷◌, ◌++◌, length, map, slice_get, slice_set, slice_index_or, if◌then◌else◌}
use Rattle.std.specs.Option.{option_map_or, option_to_list}
use Rattle.std.specs.List.{flat_map}
use Rattle.graph_core.specs.declared.Target.{Target}
use Rattle.graph_core.specs.declared.Target.TheVariants.{Node, Out}
use Rattle.graph_core.specs.Wiring.{Edges, ports_of, targets_of, Has}
use Rattle.graph_core.specs.Closing.{closing_order, CallersFirst}
use Rattle.graph_core.specs.Traces.{Network, said, next_state}

-- the items that emissions hand on, each with its target, in the order of the calls
abbrev pub deliveries : {Item : Type 0} → List (List Target) → List (ℕ × Item) → List (Target × Item)
deliveries ports emissions = flat_map (λ e. map (λ to. (to, e.1)) (slice_index_or ports e.0 [])) emissions

abbrev pub owed : {Item : Type 0} → List (Target × Item) → List (Target × Option Item)
owed ds = map (λ d. (d.0, Some d.1)) ds

-- the states after a call of node v, and the requests that it makes
abbrev pub stepped : {State Item : Type 0} → Network State Item → List State → ℕ → Option Item → List State
stepped network states v item =
    option_map_or (λ state. slice_set states v (next_state (slice_get network.behaviors v) state item)) (slice_get states v) states

abbrev pub sent : {State Item : Type 0} → Network State Item → List State → ℕ → Option Item → List (Target × Option Item)
sent network states v item =
    option_map_or (λ state. owed (deliveries (ports_of network.wiring v) (said (slice_get network.behaviors v) state item))) (slice_get states v) []

-- Serving the requests in order, one's whole effect before the next, leads from these states and this output to those.
pub data Walk {State Item : Type 0} (network : Network State Item) : List State → List Item → List (Target × Option Item) → List State → List Item → Type 0 where
  done : {s : List State} {o : List Item} → Walk network s o [] s o
  put_out : {s t : List State} {o p : List Item} {x : Option Item} {rest : List (Target × Option Item)}
      → Walk network s (o ++ option_to_list x) rest t p → Walk network s o ((Out, x) ∷ rest) t p
  called : {s t : List State} {o p : List Item} {v : ℕ} {x : Option Item} {rest : List (Target × Option Item)}
      → Walk network (stepped network s v x) o (sent network s v x ++ rest) t p → Walk network s o ((Node v, x) ∷ rest) t p

-- what was said is one emission, on a port that has this one target
pub record IsOnlyTarget {Item : Type 0} (ports : List (List Target)) (said : List (ℕ × Item)) (to : Target) : Type 0 where
  pub port : ℕ
  pub item : Item
  pub is_said : said ≡ (port, item) ∷ []
  pub is_target : slice_index_or ports port [] ≡ to ∷ []

-- what `Graph::build` has made sure of
pub record IsBuilt (edges : Edges) (order : List ℕ) : Type 0 where
  pub is_closing_order : order ≡ closing_order edges
  pub callers_first : CallersFirst edges [] order
  pub within : (v w : ℕ) → Has (targets_of edges v) (Node w) → w < length edges
  pub listed : (v : ℕ) → Has order v → v < length edges

-- how many nodes of the order stand from this one on
abbrev pub height : List ℕ → ℕ → ℕ
height [] v = 0
height (w ∷ rest) v = if v == w then suc (length rest) else height rest v

-- the target is out, or a node that stands further on than v
abbrev pub LeadsOn : Edges → ℕ → Target → Type 0
LeadsOn edges v Out = Unit {0}
LeadsOn edges v (Node w) = (w < length edges) × (height (closing_order edges) w < height (closing_order edges) v)
