-- The functions that the checks of `Graph::build` compute. No public clause speaks of them.
use Rattle.std.specs.Prelude.{◌+◌, ℕ, zero, suc, min, nat_le, Bool, false, List, [], ◌∷◌, ◌++◌, length, map, replicate, slice_get, slice_index_or, if◌then◌else◌}
use Rattle.std.specs.Option.{option_map_or}
use Rattle.std.specs.declared.alloc.Global.{Global}
use Rattle.std.specs.Prelude.{Vec}
use Rattle.graph_core.specs.declared.Target.{Target}
use Rattle.graph_core.specs.declared.Target.TheVariants.{Node, Out}
use Rattle.graph_core.specs.Wiring.{Edges, targets_of}
use Rattle.graph_core.specs.Closing.{is_listed}

-- the targets that vectors hold
abbrev pub lists_of : List (Vec Target Global) → Edges
lists_of vectors = map (λ targets. targets.items) vectors

-- whether the target is past a list of so many nodes
abbrev pub is_past : ℕ → Target → Bool
is_past count Out = false
is_past count (Node w) = nat_le count w

-- the nodes seen so far and those of the targets that aren't among them, each once
abbrev pub add_target : List ℕ → Target → List ℕ
add_target seen Out = seen
add_target seen (Node w) = if is_listed seen w then seen else seen ++ w ∷ []

abbrev pub add_targets : List ℕ → List Target → List ℕ
add_targets seen [] = seen
add_targets seen (to ∷ targets) = add_targets (add_target seen to) targets

-- the targets of the i-th node seen are added, then those of the next, for so many steps
abbrev pub spread : Edges → ℕ → ℕ → List ℕ → List ℕ
spread edges zero i seen = seen
spread edges (suc steps) i seen =
    option_map_or (λ v. spread edges steps (suc i) (add_targets seen (targets_of edges v))) (slice_get seen i) seen

-- the nodes that a node reaches
abbrev pub reached : Edges → ℕ → List ℕ
reached edges v = spread edges (length edges) 0 (add_targets [] (targets_of edges v))

-- the routes from each node to Out through at most so many nodes, counted up to 1,025
abbrev pub routes_to : List ℕ → Target → ℕ
routes_to counts Out = 1
routes_to counts (Node w) = slice_index_or counts w 0

abbrev pub capped_sum : List ℕ → ℕ → List Target → ℕ
capped_sum counts total [] = total
capped_sum counts total (to ∷ targets) = capped_sum counts (min (total + routes_to counts to) 1025) targets

abbrev pub capped_counts : Edges → ℕ → List ℕ
capped_counts edges zero = replicate (length edges) 0
capped_counts edges (suc steps) = map (λ targets. capped_sum (capped_counts edges steps) 0 targets) edges
