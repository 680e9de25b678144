-- What is kept of the history, as events.
use Rattle.outside.specs.World.{Event, look, miss, unlisted}
use Rattle.mem_world.specs.WorldSteps.{event_of}
use Rattle.mem_world.specs.declared.tree.events.Recorded.{Recorded}
use Rattle.mem_world.specs.declared.tree.events.Recorded.TheVariants.{Step, Own}
use Rattle.mem_world.specs.declared.tree.events.Seen.{Seen}
use Rattle.mem_world.specs.declared.tree.events.Seen.TheVariants.{Look, Miss, Unlisted}

abbrev pub event_seen : Seen → Event
event_seen (Look file) = look file
event_seen (Miss path) = miss path
event_seen (Unlisted folder) = unlisted folder

abbrev pub event_recorded : Recorded → Event
event_recorded (Step step) = event_of step
event_recorded (Own seen) = event_seen seen
