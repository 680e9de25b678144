-- The log of files in memory, and what it means for one of them: what reads give, and what a crash may leave. The newest
-- entry comes first.
use Rattle.std.specs.Prelude.{◌≡◌, ◌⊎◌, ℕ, ◌+◌, List, [], ◌∷◌, ◌++◌, length, take, drop, filter, Bool, true, false, ◌&&◌, ◌==◌, if◌then◌else◌}
use Rattle.out_segments.specs.declared.parts.PartFile.{PartFile}
use Rattle.out_segments.specs.declared.parts.PartFile.TheVariants.{Settings, SlotA, SlotB, Part}
use Rattle.outside.specs.Image.{Torn, MayCut}
use Rattle.out_segments.specs.declared.memory.log.Change.{Change}
use Rattle.out_segments.specs.declared.memory.log.Change.TheVariants.{Put, Write, Cut, Sync}
use Rattle.out_segments.specs.declared.memory.log.Entry.{Entry}

abbrev pub Log : Type 0
Log = List Entry

-- these bytes over what is there, and past the end
abbrev pub written_over : ℕ → List ℕ → List ℕ → List ℕ
written_over offset bytes old = take offset old ++ bytes ++ drop (offset + length bytes) old

-- what a call that took effect makes of a content
abbrev pub changed : Change → List ℕ → List ℕ
changed (Put bytes) old = bytes.items
changed (Write offset bytes) old = written_over offset bytes.items old
changed (Cut size) old = take size old
changed Sync old = old

-- what reads give after these calls on one file
abbrev pub content : Log → List ℕ
content [] = []
content (entry ∷ before) = if entry.taken then changed entry.change (content before) else content before

-- What is there after a write that went on, or was cut short at any point.
abbrev pub MayWrite : ℕ → List ℕ → List ℕ → List ℕ → Type 0
MayWrite offset bytes old new = (new ≡ written_over offset bytes old) ⊎ Torn offset (length bytes) old new

-- What a crash may leave of one file after a call on it, where before the call it could leave this much. A write and
-- a cut leave as much where they were only begun.
abbrev pub LeavesBy : Change → Bool → (List ℕ → Type 0) → List ℕ → List ℕ → Type 0
LeavesBy (Put bytes) true could shown left = left ≡ bytes.items
LeavesBy (Put bytes) false could shown left = could left
LeavesBy (Write offset bytes) taken could shown left = (old : List ℕ) × could old × MayWrite offset bytes.items old left
LeavesBy (Cut size) taken could shown left = (old : List ℕ) × could old × MayCut size old left
LeavesBy Sync true could shown left = left ≡ shown
LeavesBy Sync false could shown left = could left

-- what a crash may leave after these calls on one file
abbrev pub Leaves : Log → List ℕ → Type 0
Leaves [] left = left ≡ []
Leaves (entry ∷ before) left = LeavesBy entry.change entry.taken (Leaves before) (content before) left

abbrev pub is_same : PartFile → PartFile → Bool
is_same Settings Settings = true
is_same SlotA SlotA = true
is_same SlotB SlotB = true
is_same (Part number) (Part other) = number == other
is_same _ _ = false

-- the calls on one file
abbrev pub calls_of : PartFile → Log → Log
calls_of file log = filter (λ entry. is_same entry.file file) log

-- a write, a cut or a sync that took effect
abbrev pub is_call : Change → Bool
is_call (Put _) = false
is_call (Write _ _) = true
is_call (Cut _) = true
is_call Sync = true

abbrev pub is_done : Entry → Bool
is_done entry = entry.taken && is_call entry.change
