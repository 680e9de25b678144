-- What a sync of the output, and a checkpoint that is put after it, make of a disk.
use Rattle.std.proofs.Common.{◌≡◌, ◌≢◌, ℕ, ◌+◌, List, Option, Some, None, refl, sym, ap, ◌∙◌, arith, inl, inr}
use Rattle.std.specs.Option.{unwrap_or}
use Rattle.std.specs.Prelude.{option_map}
use Rattle.checkpoint_journal.specs.Memory.{KeepsMemory}
use Rattle.checkpoint_journal.specs.Puts.{Puts}
use Rattle.checkpoint_journal.specs.declared.journal.Journal.{Journal}
use Rattle.checkpoint_store.specs.declared.Checkpoint.{Checkpoint}
use Rattle.outside.proofs.Passing.{passes_after_same, passes_by}
use Rattle.outside.specs.Crash.{Passes, IsDurable}
use Rattle.outside.specs.Image.{Image, Same}
use Rattle.outside.specs.Images.{Images}
use Rattle.outside.specs.declared.disk.DiskFile.{DiskFile}
use Rattle.outside.specs.declared.disk.DiskFile.TheVariants.{Settings, Output, SlotA, SlotB}
use Rattle.poll_core.specs.Saves.{DifferInOutput, Saves}
use Rattle.slot_store.specs.Committed.{LeavesOne}
use Rattle.slot_store.specs.Counted.{DoneFewer}
use Rattle.standing.specs.Pass.{time_of}

-- ---- one image after another

-- the time of a poll, or else the one before
pub time_is : (stamp : Option ℕ) (before : ℕ) → unwrap_or stamp before ≡ time_of stamp before
time_is None before = refl
time_is (Some time) before = refl

-- ---- over all images

-- what a disk leaves after a sync of the output that succeeded
pub record IsSynced {D : Type 0} (images : Images DiskFile D) (old mid : D) : Type 0 where
  pub crash : Passes images Same old mid
  pub durable : IsDurable images Output mid
  pub seen : images.seen mid ≡ images.seen old

module _ {D : Type 0} {images : Images DiskFile D} {old mid : D} where
  pub one_synced : ((one other : Image DiskFile) → images.may_leave old one → images.may_leave old other → DifferInOutput one other) → IsSynced images old mid → LeavesOne images mid
  one_synced slots synced = record { same = same }
    where
      slot_same : (one other : Image DiskFile) → images.may_leave mid one → images.may_leave mid other → (file : DiskFile) → file ≢ Settings → file ≢ Output → one file ≡ other file
      slot_same one other left left_too file not_settings not_output =
          let first = synced.crash.now_left one left in
          let second = synced.crash.now_left other left_too in
          ap (λ (i : Image DiskFile). i file) first.2
          ∙ (slots second.0 first.0 second.1 first.1).same file not_settings not_output
          ∙ ap (λ (i : Image DiskFile). i file) (sym second.2)

      same : (one other : Image DiskFile) → images.may_leave mid one → images.may_leave mid other → (file : DiskFile) → file ≢ Settings → one file ≡ other file
      same one other left left_too Settings not_settings = absurd (not_settings refl)
      same one other left left_too Output not_settings = synced.durable one left ∙ sym (synced.durable other left_too)
      same one other left left_too SlotA not_settings = slot_same one other left left_too SlotA not_settings (λ is. cc)
      same one other left left_too SlotB not_settings = slot_same one other left left_too SlotB not_settings (λ is. cc)

pub early_after_same : {D : Type 0} {images : Images DiskFile D} {old mid new : D} (journal : Option Journal) → Passes images Same old mid → Passes images (KeepsMemory journal) mid new → Passes images (KeepsMemory journal) old new
early_after_same journal first second = passes_after_same first second (λ image before memory. memory)

-- a checkpoint that is put after a sync of the output is put beside the output that was read
saves_of_puts : (journal : Option Journal) (after : Checkpoint) (output : List ℕ) (old new : Image DiskFile) → old Output ≡ output → Puts journal after old new → Saves journal after output old new
saves_of_puts journal after output old new is puts = record {
  files = puts.files;
  choice = elim puts.choice [ inl keeps ↦ inl keeps | inr next ↦ inr (next, is) ];
}

saves_same : (journal : Option Journal) (after : Checkpoint) (output : List ℕ) (image : Image DiskFile) → Saves journal after output image image
saves_same journal after output image = record { files = record { settings = refl; output = refl }; choice = inl (λ before memory. memory) }

pub saves_after : {D : Type 0} {images : Images DiskFile D} {old mid new : D} (journal : Option Journal) (after : Checkpoint) → IsSynced images old mid → Passes images (Puts journal after) mid new → Passes images (Saves journal after (images.seen old Output)) old new
saves_after {D} {images} {old} {mid} {new} journal after synced puts =
    let output : List ℕ = images.seen old Output in
    let saves : Passes images (Saves journal after output) mid new = passes_by puts (λ first second left step.
    saves_of_puts journal after output first second (synced.durable first left ∙ ap (λ (image : Image DiskFile). image Output) synced.seen) step) in
    passes_after_same synced.crash saves (saves_same journal after output)

-- ---- counts

-- a call that succeeded leaves no more to be done
pub fewer_left : (calls : ℕ) (old mid new : Option ℕ) → mid ≡ option_map (λ n. n + 1) old → DoneFewer calls old new → DoneFewer calls mid new
fewer_left calls None mid new is fewer = absurd fewer
fewer_left calls (Some before) None new is fewer = absurd (cc)
fewer_left calls (Some before) (Some between) None is fewer = absurd fewer
fewer_left calls (Some before) (Some between) (Some after) is fewer = let more : between ≡ before + 1 = cc in omega arith
