-- A world with its plan, as it is told.
use Rattle.std.specs.Prelude.{ℕ, ◌+◌, ◌≤◌, [], length, min}
use Rattle.outside.specs.World.{History}
use Rattle.outside.specs.Plan.{Plan, Follows}
use Rattle.mem_world.specs.TreePlan.{Pairs, due_at, not_due_at, left_after, played, last_call}

pub record PlannedWorld : Type 0 where
  pub history : History
  -- the steps that are still to be played, each with the number of calls before it, in the order in which they came
  pub waiting : Pairs
  pub plan : Plan
  -- the calls since the plan was set, where they are fewer than the last
  pub calls : ℕ

-- no step waits, and no event came
abbrev pub empty_plan : PlannedWorld
empty_plan = record { history = []; waiting = []; plan = record { steps = []; since = 0 }; calls = 0 }

-- the plan is the steps that wait now
abbrev pub with_plan : History → Pairs → PlannedWorld
with_plan history waiting = record { history = history; waiting = waiting; plan = record { steps = waiting; since = length history }; calls = 0 }

-- a call begins: what is due is played, and one call fewer is left for the others
abbrev pub begun : PlannedWorld → PlannedWorld
begun world = record {
  history = played world.history (due_at 0 world.waiting);
  waiting = left_after 1 (not_due_at 0 world.waiting);
  plan = world.plan;
  calls = min (world.calls + 1) last_call;
}

-- the history has followed the plan from the moment at which it was set
abbrev pub IsFollowed : PlannedWorld → Type 0
IsFollowed world = (world.plan.since ≤ length world.history) × Follows world.plan world.history
