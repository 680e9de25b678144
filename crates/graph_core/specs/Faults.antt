-- When `Graph::build` accepts the nodes, and what causes each of its faults.
use Rattle.std.specs.Prelude.{◌<◌, ◌≤◌, ℕ, zero, suc, length, sum_by}
use Rattle.graph_core.specs.declared.Target.{Target}
use Rattle.graph_core.specs.declared.Target.TheVariants.{Node, Out}
use Rattle.graph_core.specs.declared.GraphFault.{GraphFault}
use Rattle.graph_core.specs.declared.GraphFault.TheVariants.{NoSuchNode, Cycle, TooManyPaths, Memory}
use Rattle.graph_core.specs.Wiring.{Edges, targets_of, Has}

-- v has the fact, and no lesser number has it
pub record IsLeast (Fact : ℕ → Type 0) (v : ℕ) : Type 0 where
  pub holds : Fact v
  pub least : (w : ℕ) → w < v → Fact w → ⊥

-- a target past the list
abbrev pub LeadsPast : Edges → ℕ → Type 0
LeadsPast edges v = (w : ℕ) × (Has (targets_of edges v) (Node w) × (length edges ≤ w))

-- v reaches w in one call or more
pub data Reaches (edges : Edges) : ℕ → ℕ → Type 0 where
  calls : {v w : ℕ} → Has (targets_of edges v) (Node w) → Reaches edges v w
  onward : {v u w : ℕ} → Has (targets_of edges v) (Node u) → Reaches edges u w → Reaches edges v w

-- how many routes lead from a target to Out through at most so many nodes
abbrev pub route_count : Edges → ℕ → Target → ℕ
route_count edges steps Out = 1
route_count edges zero (Node v) = 0
route_count edges (suc steps) (Node v) = sum_by (λ to. route_count edges steps to) (targets_of edges v)

abbrev pub LeadsNowherePast : Edges → Type 0
LeadsNowherePast edges = (v : ℕ) → LeadsPast edges v → ⊥

abbrev pub HasNoCycle : Edges → Type 0
HasNoCycle edges = (v : ℕ) → Reaches edges v v → ⊥

-- A route of a graph without a cycle has each node at most once.
abbrev pub routes_from_first : Edges → ℕ
routes_from_first edges = route_count edges (length edges) (Node 0)

pub record IsAccepted (edges : Edges) : Type 0 where
  pub within : LeadsNowherePast edges
  pub no_cycle : HasNoCycle edges
  pub few_routes : routes_from_first edges ≤ 1024

abbrev pub IsCause : Edges → GraphFault → Type 0
IsCause edges (NoSuchNode v) = IsLeast (LeadsPast edges) v
IsCause edges (Cycle v) = LeadsNowherePast edges × IsLeast (λ w. Reaches edges w w) v
IsCause edges TooManyPaths = LeadsNowherePast edges × HasNoCycle edges × (1024 < routes_from_first edges)
IsCause edges Memory = Unit {0}
