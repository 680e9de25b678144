-- The log of an image, where the file of its slot was changed behind the log's end.
use Rattle.std.proofs.Common.{◌≡◌, ℕ, ◌+◌, ◌≤◌, List, [], ◌++◌, length, drop, Bool, true, false, Option, Some, None, refl, sym, ◌∙◌, ap, subst, inl, inr, arith}
use Rattle.std.specs.Prelude.{option_map, if◌then◌else◌}
use Rattle.outside.specs.Image.{Image}
use Rattle.outside.specs.declared.disk.DiskFile.{DiskFile}
use Rattle.outside.specs.declared.disk.DiskFile.TheVariants.{SlotA, SlotB}
use Rattle.slot_store.proofs.Choices.{decide_file, chosen_from, chosen_in, chosen_length, slot_in_file}
use Rattle.slot_store.specs.ChosenSlot.{slot_in, chosen_slot, chosen_payload}
use Rattle.slot_store.specs.Committed.{KeepsOthers}
use Rattle.slot_store.specs.Frame.{is_open_at, sequence_at, length_at, payload_at, last_number}
use Rattle.slot_store.specs.declared.slot.Slot.{Slot}
use Rattle.record_log.proofs.Fronts.{SameBefore, open_frame, number_same, open_same, payload_same}
use Rattle.record_log.proofs.Walks.{end_no_less, walk, walk_dropped}
use Rattle.record_log.specs.LogOf.{HasLog}
use Rattle.record_log.specs.Records.{HasRecords, end_at}
use Rattle.record_log.specs.declared.log.Log.{Log}

-- A file that is a slot is open.
slot_in_open : (file : DiskFile) (content : List ℕ) (slot : Slot) → slot_in file content ≡ Some slot → is_open_at 0 content ≡ true
slot_in_open file content slot found = by_test (is_open_at 0 content) found
  where
    by_test : (test : Bool) → (if test then Some (record { file = file; sequence = sequence_at 0 content; length = length_at 0 content }) else None) ≡ Some slot → test ≡ true
    by_test true e = refl
    by_test false e = cc

pub chosen_open : (image : Image DiskFile) (slot : Slot) → chosen_slot image ≡ Some slot → is_open_at 0 (image slot.file) ≡ true
chosen_open image slot chosen = elim (chosen_in image slot chosen) [
  | inl first ↦ ap (λ file. is_open_at 0 (image file)) (slot_in_file SlotA (image SlotA) slot first) ∙ slot_in_open SlotA (image SlotA) slot first
  | inr second ↦ ap (λ file. is_open_at 0 (image file)) (slot_in_file SlotB (image SlotB) slot second) ∙ slot_in_open SlotB (image SlotB) slot second
]

-- a head that is the same
slot_same : (limit : ℕ) (file : DiskFile) (old new : List ℕ) → is_open_at 0 old ≡ true → end_at 0 old ≤ limit → SameBefore limit old new → slot_in file new ≡ slot_in file old
slot_same limit file old new opened within same =
    rw (open_same limit 0 old new opened within same, opened, number_same limit 1 old new (omega arith) same, number_same limit 9 old new (omega arith) same) refl

-- The chosen file is as it was up to a place behind its payload, and each other file stands.
pub choice_same : (limit : ℕ) (old new : Image DiskFile) (slot : Slot) → chosen_slot old ≡ Some slot → slot.length + 17 ≤ limit → KeepsOthers slot.file old new → SameBefore limit (old slot.file) (new slot.file) → chosen_slot new ≡ Some slot
choice_same limit old new slot chosen within others same =
    let end : end_at 0 (old slot.file) ≤ limit = omega (arith, chosen_length old slot chosen) in
    let each : (file : DiskFile) → slot_in file (new file) ≡ slot_in file (old file) = λ file. elim (decide_file file slot.file) [
      | inl is_chosen ↦ rw is_chosen (slot_same limit slot.file (old slot.file) (new slot.file) (chosen_open old slot chosen) end same)
      | inr differs ↦ ap (λ bytes. slot_in file bytes) (others file differs)
    ] in
    chosen_from new (slot_in SlotA (old SlotA)) (slot_in SlotB (old SlotB)) (each SlotA) (each SlotB)
    ∙ sym (chosen_from old (slot_in SlotA (old SlotA)) (slot_in SlotB (old SlotB)) refl refl)
    ∙ chosen

-- The log goes on as the file does behind its end.
pub log_on : (log : Log) (base : List ℕ) (records more : List (List ℕ)) (final newest : ℕ) (old new : Image DiskFile) → HasLog log base records old → KeepsOthers log.slot.file old new → SameBefore log.end (old log.slot.file) (new log.slot.file) → HasRecords (new log.slot.file) log.end log.sequence more final newest → HasLog (record { slot = log.slot; end = final; sequence = newest }) base (records ++ more) new
log_on log base records more final newest old new has others same rest =
    let within : log.slot.length + 17 ≤ log.end = end_no_less has.records_are in
    let end : end_at 0 (old log.slot.file) ≤ log.end = omega (arith, chosen_length old log.slot has.slot) in
    record {
      slot = choice_same log.end old new log.slot has.slot within others same;
      base_is = payload_same log.end 0 (old log.slot.file) (new log.slot.file) end same ∙ has.base_is;
      records_are = walk (new log.slot.file) more final newest has.records_are same rest;
    }

bytes_of : Option (List ℕ) → List ℕ
bytes_of None = []
bytes_of (Some bytes) = bytes

pub payload_of_chosen : (image : Image DiskFile) (slot : Slot) (bytes : List ℕ) → chosen_slot image ≡ Some slot → chosen_payload image ≡ Some bytes → payload_at 0 (image slot.file) ≡ bytes
unfolding chosen_payload bytes_of
payload_of_chosen image slot bytes chosen payload =
    ap bytes_of (sym (ap (λ choice. option_map (λ (slot : Slot). payload_at 0 (image slot.file)) choice) chosen) ∙ payload)

-- A chosen slot's payload ends in its file, before the last number.
pub record HasRoom (slot : Slot) (content : List ℕ) : Type 0 where
  pub whole : slot.length + 17 ≤ length content
  pub within : slot.length + 17 ≤ last_number

pub chosen_room : (image : Image DiskFile) (slot : Slot) → chosen_slot image ≡ Some slot → HasRoom slot (image slot.file)
chosen_room image slot chosen =
    let frame = open_frame 0 (image slot.file) (chosen_open image slot chosen) in
    record {
      whole = omega (arith, frame.whole, chosen_length image slot chosen);
      within = omega (arith, frame.within, chosen_length image slot chosen);
    }

-- the log of what was read behind the payload
pub found_log : (image : Image DiskFile) (slot : Slot) (base bytes : List ℕ) (records : List (List ℕ)) (place tail end last : ℕ) → length (image slot.file) ≤ last_number → chosen_slot image ≡ Some slot → chosen_payload image ≡ Some base → place ≡ slot.length + 17 → bytes ≡ drop place (image slot.file) → HasRecords bytes 0 slot.sequence records tail last → end ≡ place + tail → HasLog (record { slot = slot; end = end; sequence = last }) base records image
found_log image slot base bytes records place tail end last within chosen payload place_is bytes_are walked end_is =
    let content = image slot.file in
    let here : place + 0 ≡ slot.length + 17 = omega arith in
    let whole : HasRecords content (place + 0) slot.sequence records (place + tail) last = walk_dropped place content within (subst (λ list. HasRecords list 0 slot.sequence records tail last) bytes_are walked) in
    record {
      slot = chosen;
      base_is = payload_of_chosen image slot base chosen payload;
      records_are = subst (λ final. HasRecords content (slot.length + 17) slot.sequence records final last) (sym end_is)
          (subst (λ from. HasRecords content from slot.sequence records (place + tail) last) here whole);
    }
