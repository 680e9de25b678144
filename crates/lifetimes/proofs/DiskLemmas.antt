-- What a disk may be left with, call by call.
use Rattle.std.proofs.Common.{◌≡◌, ℕ, ◌+◌, ◌≤◌, List, [], length, Bool, true, false, IsTrue, None, Some, refl, sym, ap, subst, ◌∙◌, arith, inl, inr}
use Rattle.std.specs.Prelude.{◌⊎◌}
use Rattle.std.proofs.lemmas.Bool.{and_parts}
use Rattle.checkpoint_store.specs.declared.Checkpoint.{Checkpoint}
use Rattle.lifetimes.proofs.ImageLemmas.{NumberedBy, numbered_by, left_reopened, left_later, Kept, kept_by_stays, kept_by_steps, closed_by_stays}
use Rattle.lifetimes.specs.OneEra.{one_era}
use Rattle.lifetimes.specs.Inner.Past.{Past, Failures, IsLeftAt, LeavesAt, IsDiskAt, IsOpened, IsWell, dropped, polled}
use Rattle.lifetimes.specs.Whole.{TakesWhole}
use Rattle.mem_world.specs.DiskImages.{LeavesImage, LeftSince}
use Rattle.mem_world.specs.DiskLaws.{left_now, left_only_now}
use Rattle.out_segments.specs.MemLog.{Log}
use Rattle.mem_world.specs.MemDisk.{disk_images, faults_of, history_of, seen_of, moment_of, MayLeave, IsFresh}
use Rattle.mem_world.specs.declared.disk.MemDisk.{MemDisk}
use Rattle.outside.specs.Crash.{Passes, IsDurable}
use Rattle.outside.specs.Image.{Image}
use Rattle.outside.specs.World.{History, World}
use Rattle.outside.specs.declared.disk.DiskFile.{DiskFile}
use Rattle.outside.specs.declared.disk.DiskFile.TheVariants.{SlotA, SlotB}
use Rattle.poll_core.specs.IsSession.{IsSession}
use Rattle.poll_core.specs.Polled.{IsStanding, Stays, Steps, ComesAfter}
use Rattle.poll_core.specs.Reopens.{Reopens}
use Rattle.poll_core.specs.Since.{KeepsStandingSince}
use Rattle.poll_core.specs.StandsOn.{StandsOn}
use Rattle.poll_core.specs.declared.session.Session.{Session}
use Rattle.poll_core.specs.Sequence.{no_slot}
use Rattle.slot_store.specs.ChosenSlot.{chosen_slot}
use Rattle.slot_store.specs.Frame.{is_open_at, number_at}
use Rattle.standing.specs.Standing.{nothing}
use Rattle.slot_store.specs.Synced.{EachLeft}
use Rattle.standing.specs.Marks.{Mark}
use Rattle.standing.specs.Moments.{IsLater}
use Rattle.standing.specs.Rules.{Rules}

-- ---- the beginning

closed_empty : (content : List ℕ) → content ≡ [] → is_open_at 0 content ≡ false
unfolding is_open_at number_at
closed_empty content is = subst (λ (bytes : List ℕ). is_open_at 0 bytes ≡ false) (sym is) refl

none_chosen : (image : Image DiskFile) → image SlotA ≡ [] → image SlotB ≡ [] → chosen_slot image ≡ None
unfolding chosen_slot
none_chosen image first second = rw (closed_empty (image SlotA) first) (rw (closed_empty (image SlotB) second) refl)

no_number : (image : Image DiskFile) → chosen_slot image ≡ None → NumberedBy 0 image
no_number image none = numbered_by image 0 0 (no_slot none) (omega arith)

-- Of an empty disk nothing is left, and that stands for any history.
pub leaves_empty : (rules : Rules) (disk : MemDisk) → ((file : DiskFile) → seen_of disk file ≡ []) → ((file : DiskFile) → IsDurable disk_images file disk) → LeavesAt rules (record { history = []; polls = 0; early = true }) disk
leaves_empty rules disk empty durable = record {
  each = λ image left.
      let is : (file : DiskFile) → image file ≡ [] = λ file. durable file image left ∙ empty file in
      let none : chosen_slot image ≡ None = none_chosen image (is SlotA) (is SlotB) in
      record {
        sound = record { there = nothing; found = none; sound = tt };
        standing = λ takes. record { there = nothing; found = none; eras = one_era rules; are = tt; stands = tt };
        numbered = no_number image none;
        none_open = λ early. none;
      };
}

-- ---- crashes

same_image : (one other : Image DiskFile) → ((file : DiskFile) → one file ≡ other file) → one ≡ other
same_image one other each = λ i file. each file i

-- After a crash there is one image, and it is one of those that might be left.
no_more : (n : ℕ) → n ≡ 0 → 0 ≡ n + 0
no_more n none = omega (arith, none)

-- a disk without faults, on which nothing is planned
pub well_fresh : (failures : Failures) (disk : MemDisk) → IsFresh disk → IsWell (dropped failures) disk
well_fresh failures disk fresh = record { bound = fresh.bound ∙ ap (λ (n : ℕ). Some n) (no_more (faults_of disk) fresh.faults); few = omega (arith, fresh.faults) }

pub leaves_crashed : (rules : Rules) (past : Past) (failures : Failures) (disk crashed : MemDisk) → MayLeave disk (seen_of crashed) → ((file : DiskFile) → IsDurable disk_images file crashed) → IsFresh crashed → LeavesAt rules past disk → IsDiskAt rules past (dropped failures) crashed
leaves_crashed rules past failures disk crashed may durable fresh leaves = record {
  leaves = record {
    each = λ image left.
        let same : seen_of crashed ≡ image = same_image (seen_of crashed) image (λ file. sym (durable file image left)) in
        subst (λ (i : Image DiskFile). IsLeftAt rules past i) same (leaves.each (seen_of crashed) may);
  };
  well = well_fresh failures crashed fresh;
}

-- ---- openings

pub leaves_reopened : (rules : Rules) (past : Past) (disk disk_after : MemDisk) → Passes disk_images Reopens disk disk_after → LeavesAt rules past disk → LeavesAt rules past disk_after
leaves_reopened rules past disk disk_after passes leaves = record {
  each = λ image left.
      let came = passes.now_left image left in
      left_reopened rules past came.0 image came.2 (leaves.each came.0 came.1);
}

-- the same images, whatever is planned
pub leaves_same : (rules : Rules) (past : Past) (disk disk_after : MemDisk) → history_of disk_after ≡ history_of disk → LeavesAt rules past disk → LeavesAt rules past disk_after
leaves_same rules past disk disk_after same leaves = record { each = λ image left. leaves.each image (subst (λ (log : Log). LeavesImage log image) same left) }

-- a change of the images, on to a disk with the same ones
pub passes_same : (change : Image DiskFile → Image DiskFile → Type 0) (disk disk_after same_disk : MemDisk) → history_of same_disk ≡ history_of disk_after → Passes disk_images change disk disk_after → Passes disk_images change disk same_disk
passes_same change disk disk_after same_disk same passes = record {
  later = subst (λ (log : Log). length (history_of disk) ≤ length log) (sym same) passes.later;
  now_left = λ image left. passes.now_left image (subst (λ (log : Log). LeavesImage log image) same left);
  since = λ from image within left. passes.since from image within (subst (λ (log : Log). LeftSince log from image) same left);
  keeps = λ from image within left. subst (λ (log : Log). LeftSince log from image) (sym same) (passes.keeps from image within left);
}

-- ---- the world goes on

pub leaves_later : (rules : Rules) (old new : History) (polls : ℕ) (early : Bool) (disk : MemDisk) → IsLater old new
    → LeavesAt rules (record { history = old; polls = polls; early = early }) disk → LeavesAt rules (record { history = new; polls = polls; early = early }) disk
leaves_later rules old new polls early disk later leaves = record { each = λ image left. left_later rules old new polls early image later (leaves.each image left) }

-- ---- polls

-- What stood stands, from the poll's begin on.
pub stands_after : (rules : Rules) (old new : World) (disk disk_after : MemDisk) → moment_of disk ≤ moment_of disk_after → KeepsStandingSince disk_images rules disk disk_after old new
    → EachLeft disk_images disk (IsStanding old.history) → TakesWhole rules new.history → EachLeft disk_images disk_after (IsStanding new.history)
stands_after rules old new disk disk_after later keeps stand takes = record {
  each = λ image left.
      keeps takes.never takes.apart (moment_of disk) (omega arith) (λ before there. stand.each before (left_only_now (history_of disk) before there))
      image (left_now (history_of disk_after) (moment_of disk) image later left);
}

-- the images of a poll: those that stay, or those of a pass
abbrev pub StepsBy : Session → MemDisk → MemDisk → Type 0
StepsBy session disk disk_after = Passes disk_images (Stays session) disk disk_after
    ⊎ ((after : Checkpoint) × (added : List Mark) × ComesAfter session after added × Passes disk_images (Steps session after added) disk disk_after)

module _ (session : Session) (is : IsSession session) (rules : Rules) (opened : IsOpened rules session) (past : Past) (disk disk_after : MemDisk) (stands : StandsOn disk_images session disk) (leaves : LeavesAt rules past disk) where
  pub all_kept : StepsBy session disk disk_after → EachLeft disk_images disk_after (Kept rules (past.polls + 1))
  all_kept (inl passes) = record {
    each = λ image left.
        let came = passes.now_left image left in
        kept_by_stays session is rules opened past came.0 image (stands.each.each came.0 came.1) (leaves.each came.0 came.1) came.2;
  }
  all_kept (inr gain) = record {
    each = λ image left.
        let came = gain.3.now_left image left in
        kept_by_steps session is rules opened past came.0 image (stands.each.each came.0 came.1) (leaves.each came.0 came.1) gain.0 gain.1 gain.2 came.2;
  }

  pub all_closed : IsTrue past.early → Passes disk_images (Stays session) disk disk_after → EachLeft disk_images disk_after (λ image. chosen_slot image ≡ None)
  all_closed early passes = record {
    each = λ image left.
        let came = passes.now_left image left in
        closed_by_stays session is rules opened past came.0 image (stands.each.each came.0 came.1) (leaves.each came.0 came.1) early came.2;
  }

  -- what a poll leaves of a disk
  pub leaves_polled : (history : History) (early : Bool) → StepsBy session disk disk_after → (IsTrue early → Passes disk_images (Stays session) disk disk_after)
      → (TakesWhole rules history → EachLeft disk_images disk_after (IsStanding history)) → LeavesAt rules (polled past history early) disk_after
  leaves_polled history early steps quick stand = record {
    each = λ image left.
        let kept = (all_kept steps).each image left in
        record {
          sound = kept.sound;
          standing = λ takes. (stand takes).each image left;
          numbered = kept.numbered;
          none_open = λ both.
              let parts = and_parts past.early early both in
              (all_closed parts.0 (quick parts.1)).each image left;
        };
  }
