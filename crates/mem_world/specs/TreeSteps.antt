-- The steps that wait.
use Rattle.std.specs.Prelude.{ℕ, List, [], ◌∷◌, ◌++◌, map, is_some, if◌then◌else◌}
use Rattle.outside.specs.World.{Event}
use Rattle.mem_world.specs.TreePlan.{Pairs}
use Rattle.mem_world.specs.WorldSteps.{event_of}
use Rattle.mem_world.specs.declared.tree.events.Scheduled.{Scheduled}

abbrev pub pair_of : Scheduled → ℕ × Event
pair_of scheduled = (scheduled.number, event_of scheduled.step)

abbrev pub all_pairs : List Scheduled → Pairs
all_pairs steps = map pair_of steps

abbrev pub waiting_of : Scheduled → Pairs
waiting_of scheduled = if is_some scheduled.ready then pair_of scheduled ∷ [] else []

abbrev pub waiting_pairs : List Scheduled → Pairs
waiting_pairs [] = []
waiting_pairs (first ∷ others) = waiting_of first ++ waiting_pairs others
