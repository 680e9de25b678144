-- What becomes of the calls of a device in memory: which of them fail, and what is told of their number.
use Rattle.std.specs.Prelude.{ℕ, ◌+◌, ◌-◌, min, List, [], ◌∷◌, length, Bool, true, false, ◌==◌, if◌then◌else◌, Option, None, Some}
use Rattle.mem_calls.specs.declared.fuse.Fate.{Fate}
use Rattle.mem_calls.specs.declared.fuse.Fate.TheVariants.{Passes, Begins, Fails}
use Rattle.mem_calls.specs.declared.fuse.Fuse.{Fuse}
use Rattle.mem_calls.specs.CallFailures.{is_due}

-- A reached fuse fails each call. One with no call left begins the next. Else a failure that was set decides.
abbrev pub fate : Option Fuse → List ℕ → Fate
fate None ahead = if is_due ahead then Fails else Passes
fate (Some fuse) ahead = if fuse.reached then Fails else if fuse.left == 0 then Begins else if is_due ahead then Fails else Passes

-- a call was made
abbrev pub fuse_after : Option Fuse → Option Fuse
fuse_after None = None
fuse_after (Some fuse) = Some (record { left = fuse.left - 1; reached = if fuse.left == 0 then true else fuse.reached; done = fuse.done; calls = fuse.calls })

abbrev pub failed : Fate → Bool
failed Passes = false
failed Begins = true
failed Fails = true

-- failures whose call wasn't made
abbrev pub pending : List ℕ → ℕ
pending [] = 0
pending (calls ∷ rest) = min calls 1 + pending rest

-- what the count of faults never passes
abbrev pub bound_of : Option Fuse → ℕ → List ℕ → Option ℕ
bound_of None base ahead = Some (base + length ahead)
bound_of (Some _) base ahead = None

-- what the number of calls that succeed never passes
abbrev pub limit_of : Option Fuse → Option ℕ
limit_of None = None
limit_of (Some fuse) = Some (fuse.done + fuse.calls)

-- the calls that still pass before the fuse is reached
abbrev pub left_of : Option Fuse → ℕ
left_of None = 0
left_of (Some fuse) = if fuse.reached then 0 else fuse.left

-- a fuse that lets so many calls pass, where so many have succeeded
abbrev pub new_fuse : ℕ → ℕ → Fuse
new_fuse done calls = record { left = calls; reached = false; done = done; calls = calls }

abbrev pub is_reached : Option Fuse → Bool
is_reached None = false
is_reached (Some fuse) = fuse.reached
