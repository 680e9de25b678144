-- The calls of a run as a relation, without any order of nodes.
use Rattle.std.specs.Prelude.{◌≡◌, ◌⊎◌, ℕ, true, List, [], ◌∷◌}
use Rattle.graph_core.specs.declared.Target.TheVariants.{Node}
use Rattle.graph_core.specs.Wiring.{Has}
use Rattle.graph_core.specs.Traces.{Network, Call, is_before, calls_to, calls_from}

-- each call comes before all that follow it, by address
abbrev pub IsAscending : {Item : Type 0} → List (Call Item) → Type 0
IsAscending [] = Unit {0}
IsAscending {Item} (c ∷ cs) = ((d : Call Item) → Has cs d → is_before c.at d.at ≡ true) × IsAscending cs

-- The calls, in the order of their addresses, are the roots and what the nodes emit on their own calls, and nothing else.
pub record IsRun {State Item : Type 0} (network : Network State Item) (states : List State) (roots calls : List (Call Item)) : Type 0 where
  pub ordered : IsAscending calls
  pub rooted : (c : Call Item) → Has roots c → Has calls c
  pub emitted : (v : ℕ) (c : Call Item) → Has (calls_from network states v (calls_to (Node v) calls)) c → Has calls c
  pub caused : (c : Call Item) → Has calls c → Has roots c ⊎ ((v : ℕ) × Has (calls_from network states v (calls_to (Node v) calls)) c)
