-- What a script says of its events, whatever the world did. The newest event comes first, as in histories.
use Rattle.std.specs.Prelude.{◌≡◌, ℕ, ◌+◌, nat_le, List, [], ◌∷◌, ◌++◌, Bool, true, false, ◌&&◌, Option, None, Some}
use Rattle.lifetimes.specs.declared.event.Event.{Event}
use Rattle.lifetimes.specs.declared.event.Event.TheVariants.{World, During, Poll, Stop, FailDisk, FailTree, Reopen}
use Rattle.mem_world.specs.WorldSteps.{event_of}
use Rattle.outside.specs.World.{Event as WorldEvent}

-- ---- what waits for the next poll or opening

-- so many calls pass, and of what is left then the outcome picks an image
pub record Halt : Type 0 where
  pub calls : ℕ
  pub outcome : ℕ

pub record Pending : Type 0 where
  -- steps of others, each with the number of calls before it
  pub plan : List (ℕ × WorldEvent)
  pub stop : Option Halt
  -- the numbers of the calls on the disk, and of those on the tree, that are to fail
  pub disk_fails : List ℕ
  pub tree_fails : List ℕ

abbrev pub nothing_pending : Pending
nothing_pending = record { plan = []; stop = None; disk_fails = []; tree_fails = [] }

-- Polls and openings reach what waits, or drop it. Of two stops the later counts.
abbrev pub pending_after : Event → Pending → Pending
pending_after (World _) waits = waits
pending_after (During calls step) waits = record waits { plan = waits.plan ++ (calls, event_of step) ∷ [] }
pending_after Poll waits = nothing_pending
pending_after (Stop calls outcome) waits = record waits { stop = Some (record { calls = calls; outcome = outcome }) }
pending_after (FailDisk call) waits = record waits { disk_fails = waits.disk_fails ++ call ∷ [] }
pending_after (FailTree call) waits = record waits { tree_fails = waits.tree_fails ++ call ∷ [] }
pending_after Reopen waits = nothing_pending

abbrev pub pending : List Event → Pending
pending [] = nothing_pending
pending (event ∷ before) = pending_after event (pending before)

-- ---- what is counted

pub record Counts : Type 0 where
  pub polls : ℕ
  -- polls and openings that a stop ended
  pub stops : ℕ
  -- each poll was stopped before its fourth call
  pub early : Bool

-- one, where a stop is set
abbrev pub stops_by : Option Halt → ℕ
stops_by None = 0
stops_by (Some _) = 1

-- a stop is set, before the fourth call
abbrev pub is_early : Option Halt → Bool
is_early None = false
is_early (Some halt) = nat_le halt.calls 3

abbrev pub counts_after : Event → Pending → Counts → Counts
counts_after (World _) waits counts = counts
counts_after (During _ _) waits counts = counts
counts_after Poll waits counts = record { polls = counts.polls + 1; stops = counts.stops + stops_by waits.stop; early = counts.early && is_early waits.stop }
counts_after (Stop _ _) waits counts = counts
counts_after (FailDisk _) waits counts = counts
counts_after (FailTree _) waits counts = counts
counts_after Reopen waits counts = record counts { stops = counts.stops + stops_by waits.stop }

abbrev pub counts_of : List Event → Counts
counts_of [] = record { polls = 0; stops = 0; early = true }
counts_of (event ∷ before) = counts_after event (pending before) (counts_of before)

-- The last event is a poll for which nothing waited.
abbrev pub EndsUndisturbed : List Event → Type 0
EndsUndisturbed [] = ⊥
EndsUndisturbed (World _ ∷ before) = ⊥
EndsUndisturbed (During _ _ ∷ before) = ⊥
EndsUndisturbed (Poll ∷ before) = pending before ≡ nothing_pending
EndsUndisturbed (Stop _ _ ∷ before) = ⊥
EndsUndisturbed (FailDisk _ ∷ before) = ⊥
EndsUndisturbed (FailTree _ ∷ before) = ⊥
EndsUndisturbed (Reopen ∷ before) = ⊥
