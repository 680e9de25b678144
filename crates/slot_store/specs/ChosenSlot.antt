-- Which of the two slot files counts. A slot file is a frame at its front.
use Rattle.std.specs.Prelude.{ℕ, List, Option, Some, None, option_map, nat_lt, if◌then◌else◌}
use Rattle.outside.specs.Image.{Image}
use Rattle.outside.specs.declared.disk.DiskFile.{DiskFile}
use Rattle.outside.specs.declared.disk.DiskFile.TheVariants.{Settings, Output, SlotA, SlotB}
use Rattle.slot_store.specs.Frame.{is_open_at, sequence_at, length_at, payload_at}
use Rattle.slot_store.specs.declared.slot.Slot.{Slot}

-- one of the two
abbrev pub IsSlotFile : DiskFile → Type 0
IsSlotFile Settings = ⊥
IsSlotFile Output = ⊥
IsSlotFile SlotA = Unit {0}
IsSlotFile SlotB = Unit {0}

-- the slot that a file is, where it is open
abbrev pub slot_in : DiskFile → List ℕ → Option Slot
slot_in file content = if is_open_at 0 content then Some (record { file = file; sequence = sequence_at 0 content; length = length_at 0 content }) else None

-- the one with the greater sequence number, the first where both are equal
abbrev pub greater_of : Option Slot → Option Slot → Option Slot
greater_of None second = second
greater_of (Some first) None = Some first
greater_of (Some first) (Some second) = if nat_lt first.sequence second.sequence then Some second else Some first

unfoldable pub chosen_slot : Image DiskFile → Option Slot
chosen_slot image = greater_of (slot_in SlotA (image SlotA)) (slot_in SlotB (image SlotB))

-- the payload of the chosen slot, where a slot is open
unfoldable pub chosen_payload : Image DiskFile → Option (List ℕ)
chosen_payload image = option_map (λ slot. payload_at 0 (image slot.file)) (chosen_slot image)
