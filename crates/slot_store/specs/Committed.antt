-- What a commit makes of the images.
use Rattle.std.specs.Prelude.{◌≡◌, ◌≢◌, ◌⊎◌, ℕ, ◌+◌, ◌≤◌, List, length, Option, Some, None, IfSome}
use Rattle.outside.specs.Image.{Image}
use Rattle.outside.specs.Images.{Images}
use Rattle.outside.specs.declared.disk.DiskFile.{DiskFile}
use Rattle.outside.specs.declared.disk.DiskFile.TheVariants.{Settings, Output, SlotA, SlotB}
use Rattle.slot_store.specs.ChosenSlot.{chosen_slot, chosen_payload}
use Rattle.slot_store.specs.Frame.{frame, last_number}
use Rattle.slot_store.specs.declared.slot.Slot.{Slot}

-- the slot file beside this one
abbrev pub other_file : DiskFile → DiskFile
other_file SlotA = SlotB
other_file SlotB = SlotA
other_file Settings = SlotA
other_file Output = SlotA

-- the slot file that is free for the next checkpoint
abbrev pub free_file : Option Slot → DiskFile
free_file None = SlotA
free_file (Some slot) = other_file slot.file

abbrev pub next_sequence : Option Slot → ℕ
next_sequence None = 1
next_sequence (Some slot) = slot.sequence + 1

abbrev pub next_slot : Option Slot → List ℕ → Slot
next_slot before payload = record { file = free_file before; sequence = next_sequence before; length = length payload }

-- The slot differs from this one at most by a smaller sequence number.
pub record Leads (before slot : Slot) : Type 0 where
  pub same_file : slot.file ≡ before.file
  pub same_length : slot.length ≡ before.length
  pub no_greater : slot.sequence ≤ before.sequence

-- The image chooses this slot, or one that differs from it only by a smaller sequence number.
abbrev pub Chooses : Option Slot → Image DiskFile → Type 0
Chooses None image = chosen_slot image ≡ None
Chooses (Some before) image = (slot : Slot) × (chosen_slot image ≡ Some slot) × Leads before slot

-- the old choice, with its file as it was
pub record KeepsChoice (old new : Image DiskFile) : Type 0 where
  pub slot : chosen_slot new ≡ chosen_slot old
  pub payload : chosen_payload new ≡ chosen_payload old
  pub file : IfSome (chosen_slot old) (λ slot. new slot.file ≡ old slot.file)

-- the new choice, whose file ends with its payload
pub record IsCommitted (before : Option Slot) (payload : List ℕ) (image : Image DiskFile) : Type 0 where
  pub slot : chosen_slot image ≡ Some (next_slot before payload)
  pub payload_is : chosen_payload image ≡ Some payload
  pub file : image (free_file before) ≡ frame (next_sequence before) payload

-- each other file stands
abbrev pub KeepsOthers : DiskFile → Image DiskFile → Image DiskFile → Type 0
KeepsOthers file old new = (other : DiskFile) → other ≢ file → new other ≡ old other

-- The choice is the old one or the new, and each file but the one that is written stands.
pub record Commits (before : Option Slot) (payload : List ℕ) (old new : Image DiskFile) : Type 0 where
  pub others : KeepsOthers (free_file before) old new
  pub choice : KeepsChoice old new ⊎ IsCommitted before payload new

-- A crash leaves one image alone, the settings file aside.
pub record LeavesOne {D : Type 0} (images : Images DiskFile D) (disk : D) : Type 0 where
  pub same : (one another : Image DiskFile) → images.may_leave disk one → images.may_leave disk another
      → (file : DiskFile) → file ≢ Settings → one file ≡ another file

-- No sequence number comes after that of this slot.
abbrev pub IsWorn : Option Slot → Type 0
IsWorn None = ⊥
IsWorn (Some slot) = slot.sequence ≡ last_number
