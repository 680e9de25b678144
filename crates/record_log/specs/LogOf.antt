-- The log of an image: the payload of its chosen slot, and the records behind it.
use Rattle.std.specs.Prelude.{◌≡◌, ℕ, ◌+◌, List, length, map, sum_by, Option, Some, None}
use Rattle.outside.specs.Image.{Image}
use Rattle.outside.specs.declared.disk.DiskFile.{DiskFile}
use Rattle.slot_store.specs.ChosenSlot.{chosen_slot}
use Rattle.slot_store.specs.Frame.{payload_at}
use Rattle.slot_store.specs.declared.slot.Slot.{Slot}
use Rattle.record_log.specs.Records.{HasRecords}
use Rattle.record_log.specs.declared.log.Log.{Log}
use Rattle.record_log.specs.declared.reading.Contents.{Contents}

-- The image has this log, with this base and these records.
pub record HasLog (log : Log) (base : List ℕ) (records : List (List ℕ)) (image : Image DiskFile) : Type 0 where
  pub slot : chosen_slot image ≡ Some log.slot
  pub base_is : payload_at 0 (image log.slot.file) ≡ base
  pub records_are : HasRecords (image log.slot.file) (log.slot.length + 17) log.slot.sequence records log.end log.sequence

-- The image has this log, whatever it holds, and its file ends with it.
pub record EndsWith (log : Log) (image : Image DiskFile) : Type 0 where
  pub base : List ℕ
  pub records : List (List ℕ)
  pub log_is : HasLog log base records image
  pub ends : length (image log.slot.file) ≡ log.end

-- how many bytes a base and records take, each behind a head of 17 bytes
abbrev pub log_size : List ℕ → List (List ℕ) → ℕ
log_size base records = length base + 17 + sum_by (λ payload. length payload + 17) records

-- The image has a log of this slot.
pub record SomeLog (slot : Slot) (image : Image DiskFile) : Type 0 where
  pub log : Log
  pub base : List ℕ
  pub records : List (List ℕ)
  pub log_is : HasLog log base records image
  pub slot_is : log.slot ≡ slot

abbrev pub FoundIn : Option Contents → Image DiskFile → Type 0
FoundIn None image = chosen_slot image ≡ None
FoundIn (Some found) image = HasLog found.log found.base.items (map (λ payload. payload.items) found.records.items) image
