-- The calls of a disk in memory, as those of the Parts that keep its files.
use Rattle.std.proofs.Common.{◌≡◌, ◌≢◌, ℕ, ◌≤◌, ◌<◌, ◌+◌, ◌^◌, List, Option, Result, Ok, Err, OnOk, refl, ap, subst, arith}
use Rattle.outside.specs.Crash.{Passes, IsDurable}
use Rattle.outside.specs.DiskCalls.{last_end, written_after}
use Rattle.outside.specs.Image.{Image, AtFile}
use Rattle.outside.specs.declared.disk.DiskFile.{DiskFile}
use Rattle.outside.specs.declared.disk.DiskFile.TheVariants as disk
use Rattle.out_segments.proofs.MemSteps.{Moves, durable_of, puts_moves}
use Rattle.out_segments.specs.MemParts as parts
use Rattle.out_segments.specs.MemParts.{Puts}
use Rattle.out_segments.specs.PartCalls.{slots_given}
use Rattle.out_segments.specs.declared.parts.PartFile.{PartFile}
use Rattle.mem_world.specs.DiskFiles.{own_file}
use Rattle.mem_world.specs.MemDisk.{disk_images, seen_of}
use Rattle.mem_world.specs.declared.disk.MemDisk.{MemDisk}

-- each of the four stands for another one
pub own_one : (file other : DiskFile) → own_file file ≡ own_file other → file ≡ other
own_one disk.Settings disk.Settings same = refl
own_one disk.Settings disk.Output same = absurd (cc)
own_one disk.Settings disk.SlotA same = absurd (cc)
own_one disk.Settings disk.SlotB same = absurd (cc)
own_one disk.Output disk.Settings same = absurd (cc)
own_one disk.Output disk.Output same = refl
own_one disk.Output disk.SlotA same = absurd (cc)
own_one disk.Output disk.SlotB same = absurd (cc)
own_one disk.SlotA disk.Settings same = absurd (cc)
own_one disk.SlotA disk.Output same = absurd (cc)
own_one disk.SlotA disk.SlotA same = refl
own_one disk.SlotA disk.SlotB same = absurd (cc)
own_one disk.SlotB disk.Settings same = absurd (cc)
own_one disk.SlotB disk.Output same = absurd (cc)
own_one disk.SlotB disk.SlotA same = absurd (cc)
own_one disk.SlotB disk.SlotB same = refl

-- what reads give of the four, as what they give of the Parts
pub at_own : (file : DiskFile) (own : PartFile) {change : List ℕ → List ℕ → Type 0} (old new : MemDisk) → own ≡ own_file file → AtFile own change (parts.seen_of old.parts) (parts.seen_of new.parts) → AtFile file change (seen_of old) (seen_of new)
at_own file own {change} old new is given =
    let at : AtFile (own_file file) change (parts.seen_of old.parts) (parts.seen_of new.parts) = subst (λ (f : PartFile). AtFile f change (parts.seen_of old.parts) (parts.seen_of new.parts)) is given in
    record {
      here = at.here;
      others = λ other apart. at.others (own_file other) (λ same. apart (own_one other file same));
    }

pub at_own_ok : {T : Type 0} {E : Type 0} (result : Result T E) (file : DiskFile) (own : PartFile) (change : List ℕ → List ℕ → Type 0) (old new : MemDisk) → own ≡ own_file file → OnOk result (AtFile own change (parts.seen_of old.parts) (parts.seen_of new.parts)) → OnOk result (AtFile file change (seen_of old) (seen_of new))
at_own_ok (Ok _) file own change old new is at = at_own file own {change = change} old new is at
at_own_ok (Err _) file own change old new is at = tt

pub seen_own : (old new : MemDisk) → parts.seen_of new.parts ≡ parts.seen_of old.parts → seen_of new ≡ seen_of old
seen_own old new same =
    let own : Image PartFile → Image DiskFile = λ image file. image (own_file file) in
    ap own same

pub durable_own : (file : DiskFile) (own : PartFile) (disk : MemDisk) → own ≡ own_file file → IsDurable parts.parts_images own disk.parts → IsDurable disk_images file disk
durable_own file own disk is durable = durable_of own_file disk.parts file (subst (λ (f : PartFile). IsDurable parts.parts_images f disk.parts) is durable)

pub durable_own_ok : {T : Type 0} {E : Type 0} (result : Result T E) (file : DiskFile) (own : PartFile) (disk : MemDisk) → own ≡ own_file file → OnOk result (IsDurable parts.parts_images own disk.parts) → OnOk result (IsDurable disk_images file disk)
durable_own_ok (Ok _) file own disk is durable = durable_own file own disk is durable
durable_own_ok (Err _) file own disk is durable = tt

-- the images change so
pub disk_moves : {change : Image DiskFile → Image DiskFile → Type 0} (old new : MemDisk) → Moves own_file change old.parts new.parts → Passes disk_images change old new
disk_moves old new moves = record { later = moves.later; now_left = moves.now_left; since = moves.since; keeps = moves.keeps }

-- a file was set
pub put_own : {T : Type 0} {E : Type 0} (result : Result T E) (file : DiskFile) (own : PartFile) (bytes : List ℕ) (old new : MemDisk) → own ≡ own_file file → OnOk result (Puts own bytes old.parts new.parts) → OnOk result (Passes disk_images (AtFile file (λ _ now. now ≡ bytes)) old new)
put_own (Ok _) file own bytes old new is puts = disk_moves old new (puts_moves own_file own_one file bytes old.parts new.parts (subst (λ (f : PartFile). Puts f bytes old.parts new.parts) is puts))
put_own (Err _) file own bytes old new is puts = tt

pub ends_within : (file : DiskFile) (end : ℕ) → end ≤ last_end file → end < 2 ^ 64
ends_within disk.Settings end within = omega (arith, within)
ends_within disk.Output end within = omega (arith, within)
ends_within disk.SlotA end within = omega (arith, within)
ends_within disk.SlotB end within = omega (arith, within)

pub given_own : (file : DiskFile) (size : ℕ) (count : Option ℕ) → slots_given (own_file file) size count ≡ written_after file size count
given_own disk.Settings size count = refl
given_own disk.Output size count = refl
given_own disk.SlotA size count = refl
given_own disk.SlotB size count = refl
