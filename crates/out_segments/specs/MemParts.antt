-- What Parts in memory tell.
use Rattle.std.specs.Prelude.{◌≡◌, ℕ, List, [], ◌∷◌, length, true, if◌then◌else◌, Option, None, Some, Result, Ok, Err, Vec}
use Rattle.std.specs.declared.alloc.Global.{Global}
use Rattle.outside.specs.Count.{raised, Rose}
use Rattle.out_segments.specs.declared.parts.PartFile.{PartFile}
use Rattle.outside.specs.declared.fault.CallFault.{CallFault}
use Rattle.outside.specs.declared.fault.CallFault.TheVariants.{Failed, Memory}
use Rattle.outside.specs.Image.{Image}
use Rattle.outside.specs.Images.{Images}
use Rattle.out_segments.specs.declared.memory.MemParts.{MemParts}
use Rattle.mem_calls.specs.declared.fuse.Fuse.{Fuse}
use Rattle.mem_calls.specs.declared.fuse.Fate.{Fate}
use Rattle.mem_calls.specs.declared.fuse.Fate.TheVariants.{Passes}
use Rattle.out_segments.specs.declared.memory.log.Change.{Change}
use Rattle.out_segments.specs.declared.memory.log.Change.TheVariants.{Put, Write, Cut, Sync}
use Rattle.out_segments.specs.MemLog.{Log}
use Rattle.out_segments.specs.MemImages.{shown, LeavesImage, LeftSince, itself}
use Rattle.out_segments.specs.MemStore.{log_of}
use Rattle.out_segments.specs.MemCount.{done_count, log_after}
use Rattle.out_segments.specs.PartCalls.{slots_given}
use Rattle.out_segments.specs.PartsMeaning.{PartsMeaning}
use Rattle.mem_calls.specs.CallPlans.{fate, fuse_after, failed, bound_of, limit_of}
use Rattle.mem_calls.specs.CallFailures.{after_call}

-- all that happened to its files, the newest entry first
abbrev pub history_of : MemParts → Log
history_of parts = log_of parts.store

abbrev pub fuse_of : MemParts → Option Fuse
fuse_of parts = parts.plans.fuse

-- for each failure that was set, the number of calls up to it
abbrev pub failures_of : MemParts → List ℕ
failures_of parts = parts.plans.failures.ahead.items

abbrev pub faults_of : MemParts → ℕ
faults_of parts = parts.plans.failures.faults

-- the count of faults when the failures that were set were last dropped
abbrev pub base_of : MemParts → ℕ
base_of parts = parts.plans.base

-- what is told of files that are some of them
abbrev pub images_by : {F : Type 0} → (F → PartFile) → Images F MemParts
images_by own = record {
  tells = λ _. true;
  seen = λ parts. shown own (history_of parts);
  may_leave = λ parts image. LeavesImage own (history_of parts) image;
  moment = λ parts. length (history_of parts);
  left_since = λ parts from image. LeftSince own (history_of parts) from image;
}

abbrev pub parts_images : Images PartFile MemParts
parts_images = images_by itself

abbrev pub seen_of : MemParts → Image PartFile
seen_of parts = shown itself (history_of parts)

abbrev pub MayLeave : MemParts → Image PartFile → Type 0
MayLeave parts image = LeavesImage itself (history_of parts) image

abbrev pub most_faults : MemParts → Option ℕ
most_faults parts = bound_of (fuse_of parts) (base_of parts) (failures_of parts)

abbrev pub done_of : MemParts → Option ℕ
done_of parts = Some (done_count (history_of parts))

abbrev pub most_done : MemParts → Option ℕ
most_done parts = limit_of (fuse_of parts)

-- the number of bytes that writes to the two slots were given
abbrev pub written_of : MemParts → ℕ
written_of parts = parts.written

-- a call was made
abbrev pub written_then : Change → PartFile → Option ℕ → Option ℕ
written_then (Put _) file count = count
written_then (Write _ bytes) file count = slots_given file (length bytes.items) count
written_then (Cut _) file count = count
written_then Sync file count = count

-- all that Parts in memory tell
abbrev pub parts_meaning : PartsMeaning MemParts
parts_meaning = record {
  images = parts_images;
  faults = faults_of;
  bound = most_faults;
  done = done_of;
  limit = most_done;
  written = λ parts. Some (written_of parts);
}

-- what becomes of the next call
abbrev pub next_fate : MemParts → Fate
next_fate parts = fate (fuse_of parts) (failures_of parts)

-- no fault, and nothing planned
pub record IsFresh (parts : MemParts) : Type 0 where
  pub faults : faults_of parts ≡ 0
  pub bound : most_faults parts ≡ Some 0
  pub done : done_of parts ≡ Some 0
  pub limit : most_done parts ≡ None
  pub failures : failures_of parts ≡ []
  pub fuse : fuse_of parts ≡ None
  pub written : written_of parts ≡ 0

-- the counts, and all that is planned
pub record KeepsPlans (old new : MemParts) : Type 0 where
  pub faults : faults_of new ≡ faults_of old
  pub base : base_of new ≡ base_of old
  pub failures : failures_of new ≡ failures_of old
  pub fuse : fuse_of new ≡ fuse_of old

-- a call was counted, and its fault where it failed
pub record Counts (old new : MemParts) : Type 0 where
  pub base : base_of new ≡ base_of old
  pub failures : failures_of new ≡ after_call (failures_of old)
  pub fuse : fuse_of new ≡ fuse_after (fuse_of old)
  pub faults : faults_of new ≡ (if failed (next_fate old) then raised (faults_of old) 1 else faults_of old)

-- what a write, a cut or a sync does
abbrev pub Calls : PartFile → Change → Result Unit CallFault → MemParts → MemParts → Type 0
Calls file change (Ok _) old new = (next_fate old ≡ Passes) × (history_of new ≡ log_after (next_fate old) file change (history_of old)) × Counts old new
Calls file change (Err Failed) old new = (failed (next_fate old) ≡ true) × Rose (faults_of old) (faults_of new) × (history_of new ≡ log_after (next_fate old) file change (history_of old)) × Counts old new
Calls file change (Err Memory) old new = (history_of new ≡ history_of old) × KeepsPlans old new

-- the same of a write of these bytes
abbrev pub Writes : PartFile → ℕ → List ℕ → Result Unit CallFault → MemParts → MemParts → Type 0
Writes file offset bytes (Ok done) old new = (written : Vec ℕ Global) × (written.items ≡ bytes) × Calls file (Write offset written) (Ok done) old new
Writes file offset bytes (Err Failed) old new = (written : Vec ℕ Global) × (written.items ≡ bytes) × Calls file (Write offset written) (Err Failed) old new
Writes file offset bytes (Err Memory) old new = (history_of new ≡ history_of old) × KeepsPlans old new

-- the file was set
abbrev pub Puts : PartFile → List ℕ → MemParts → MemParts → Type 0
Puts file bytes old new = (set : Vec ℕ Global) × (set.items ≡ bytes) × (history_of new ≡ record { file = file; change = Put set; taken = true } ∷ history_of old)
