use Rattle.std.specs.Prelude.{◌<◌, ◌==◌, ◌||◌, ◌&&◌, not, ℕ, zero, suc, Bool, Option, List, [], ◌∷◌, ◌++◌, length, find}
use Rattle.std.specs.Option.{option_map_or}
use Rattle.std.specs.List.{list_any, list_all}
use Rattle.graph_core.specs.Wiring.{Edges, Has, targets_of, calls_node}
use Rattle.graph_core.specs.declared.Target.TheVariants.{Node}

-- the numbers from k on, as many as n
abbrev pub numbers_from : ℕ → ℕ → List ℕ
numbers_from k zero = []
numbers_from k (suc n) = k ∷ numbers_from (suc k) n

abbrev pub is_listed : List ℕ → ℕ → Bool
is_listed listed node = list_any (λ other. other == node) listed

-- whether those callers of the node that stand from k on, n of them, are listed
abbrev pub ready_from : Edges → List ℕ → ℕ → ℕ → ℕ → Bool
ready_from edges listed node k n = list_all (λ caller. not (calls_node edges caller node) || is_listed listed caller) (numbers_from k n)

abbrev pub is_ready : Edges → List ℕ → ℕ → Bool
is_ready edges listed node = ready_from edges listed node 0 (length edges)

-- of the n nodes from k on, the least that isn't listed and all of whose callers are
abbrev pub next_ready_from : Edges → List ℕ → ℕ → ℕ → Option ℕ
next_ready_from edges listed k n = find (λ node. not (is_listed listed node) && is_ready edges listed node) (numbers_from k n)

abbrev pub next_ready : Edges → List ℕ → Option ℕ
next_ready edges listed = next_ready_from edges listed 0 (length edges)

-- The nodes as they are closed: again and again the least node that isn't listed and all of whose callers are.
abbrev pub listed_on : Edges → ℕ → List ℕ → List ℕ
listed_on edges zero listed = listed
listed_on edges (suc steps) listed = option_map_or (λ v. listed_on edges steps (listed ++ v ∷ [])) (next_ready edges listed) listed

abbrev pub closing_order : Edges → List ℕ
closing_order edges = listed_on edges (length edges) []

-- Behind the nodes that are listed, each node of the order has all its callers before it and stands there once, and none is left out.
abbrev pub CallersFirst : Edges → List ℕ → List ℕ → Type 0
CallersFirst edges listed [] = (v : ℕ) → v < length edges → Has listed v
CallersFirst edges listed (v ∷ rest) =
    ((caller : ℕ) → Has (targets_of edges caller) (Node v) → Has listed caller) × (Has listed v → ⊥) × CallersFirst edges (v ∷ listed) rest
