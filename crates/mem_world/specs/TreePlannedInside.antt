-- How a world with its plan is stored.
use Rattle.std.specs.Prelude.{ℕ, ◌≤◌, List, length}
use Rattle.mem_world.specs.TreePlan.{left_after, wanted, last_call, Behind}
use Rattle.mem_world.specs.TreePlanned.{PlannedWorld}
use Rattle.mem_world.specs.TreeRoom.{StoredWorld, room_in}
use Rattle.mem_world.specs.TreeSteps.{all_pairs, waiting_pairs}
use Rattle.mem_world.specs.declared.tree.events.Scheduled.{Scheduled}
use Rattle.mem_world.specs.declared.tree.planned.Planned.TheInside.{Inside}

abbrev pub planned_world : Inside → PlannedWorld
planned_world inside = record {
  history = inside.world.history;
  waiting = left_after inside.calls (waiting_pairs inside.steps.items);
  plan = record { steps = all_pairs inside.steps.items; since = inside.since };
  calls = inside.calls;
}

-- the history has followed the plan, and there is room for each step that waits
pub record IsPaced (world : StoredWorld) (steps : List Scheduled) (calls since : ℕ) : Type 0 where
  pub counted : calls ≤ last_call
  pub room : length (waiting_pairs steps) ≤ world.room
  pub rooms : (file : ℕ) → wanted (waiting_pairs steps) file ≤ room_in world.rooms file
  pub behind : Behind (record { steps = all_pairs steps; since = since }) world.history calls (waiting_pairs steps)

abbrev pub IsPlanned : Inside → Type 0
IsPlanned inside = IsPaced inside.world inside.steps.items inside.calls inside.since
