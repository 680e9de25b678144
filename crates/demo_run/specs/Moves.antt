-- The events of a script, with the steps of others as the history tells them.
use Rattle.std.specs.Prelude.{ℕ}
use Rattle.lifetimes.specs.declared.event.Event.{Event}
use Rattle.lifetimes.specs.declared.event.Event.TheVariants.{World, During, Poll, Stop, FailDisk, FailTree, Reopen}
use Rattle.mem_world.specs.WorldSteps.{event_of}
use Rattle.outside.specs.World.{Event as WorldEvent}

pub data Move : Type 0 where
  step : WorldEvent → Move
  step_within : ℕ → WorldEvent → Move
  poll : Move
  stop : ℕ → ℕ → Move
  disk_fails : ℕ → Move
  tree_fails : ℕ → Move
  reopen : Move

abbrev pub move_of : Event → Move
move_of (World world_step) = step (event_of world_step)
move_of (During calls world_step) = step_within calls (event_of world_step)
move_of Poll = poll
move_of (Stop calls outcome) = stop calls outcome
move_of (FailDisk call) = disk_fails call
move_of (FailTree call) = tree_fails call
move_of Reopen = reopen
