-- What a run is asked.
use Rattle.std.specs.Prelude.{ℕ, if◌then◌else◌, Bool, Option, None, List, [], ◌++◌, map}
use Rattle.graph_core.specs.Traces.{Network, inputs, closings}
use Rattle.graph_core.specs.declared.Target.{Target}
use Rattle.graph_core.specs.declared.Target.TheVariants.{Node}

-- a target, and what is handed to it; none where it is closed
abbrev pub Request : Type 0 → Type 0
Request Item = Target × Option Item

-- the requests that close these nodes
abbrev pub closings_of : {Item : Type 0} → List ℕ → List (Request Item)
closings_of order = map (λ v. (Node v, None)) order

-- the inputs, and behind them the closing calls where the run is closed
abbrev pub requests : {State Item : Type 0} → Network State Item → List Item → Bool → List (Request Item)
requests network items closed = inputs network items ++ (if closed then closings network else [])
