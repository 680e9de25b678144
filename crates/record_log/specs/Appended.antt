-- What an append and a rewrite make of the images.
use Rattle.std.specs.Prelude.{◌≡◌, ◌⊎◌, ℕ, ◌+◌, List, [], ◌∷◌, ◌++◌, length, Option, Some, None}
use Rattle.outside.specs.Image.{Image}
use Rattle.outside.specs.declared.disk.DiskFile.{DiskFile}
use Rattle.slot_store.specs.ChosenSlot.{chosen_slot}
use Rattle.slot_store.specs.Committed.{KeepsOthers, free_file, next_slot}
use Rattle.slot_store.specs.declared.slot.Slot.{Slot}
use Rattle.record_log.specs.LogOf.{HasLog, EndsWith}
use Rattle.record_log.specs.declared.log.Log.{Log}

-- the log with one more record
abbrev pub appended : Log → List ℕ → Log
appended log payload = record { slot = log.slot; end = log.end + 17 + length payload; sequence = log.sequence + 1 }

-- the log stays, whatever it holds
abbrev pub KeepsLog : Log → Image DiskFile → Image DiskFile → Type 0
KeepsLog log old new = (base : List ℕ) (records : List (List ℕ)) → HasLog log base records old → HasLog log base records new

-- the log has one more record, with which its file ends
pub record GainsRecord (log : Log) (payload : List ℕ) (old new : Image DiskFile) : Type 0 where
  pub log_is : (base : List ℕ) (records : List (List ℕ)) → HasLog log base records old → HasLog (appended log payload) base (records ++ payload ∷ []) new
  pub ends : length (new log.slot.file) ≡ log.end + 17 + length payload

-- The log is the old one or has one more record, and each other file stands.
pub record Appends (log : Log) (payload : List ℕ) (old new : Image DiskFile) : Type 0 where
  pub others : KeepsOthers log.slot.file old new
  pub choice : KeepsLog log old new ⊎ GainsRecord log payload old new

-- what a commit is told of the log before it
abbrev pub slot_of : Log → Slot
slot_of log = record log.slot { sequence = log.sequence }

abbrev pub slot_before : Option Log → Option Slot
slot_before None = None
slot_before (Some log) = Some (slot_of log)

-- the log of a payload alone
abbrev pub started : Option Log → List ℕ → Log
started before payload =
    let slot = next_slot (slot_before before) payload in
    record { slot = slot; end = length payload + 17; sequence = slot.sequence }

-- Each image has this log, or no slot is open.
abbrev pub StandsIn : Option Log → Image DiskFile → Type 0
StandsIn None image = chosen_slot image ≡ None
StandsIn (Some log) image = EndsWith log image

abbrev pub KeepsOld : Option Log → Image DiskFile → Image DiskFile → Type 0
KeepsOld None old new = chosen_slot new ≡ None
KeepsOld (Some log) old new = KeepsLog log old new

-- The image has the payload alone, with which the file ends.
pub record IsRewritten (before : Option Log) (payload : List ℕ) (image : Image DiskFile) : Type 0 where
  pub log_is : HasLog (started before payload) payload [] image
  pub ends : length (image (free_file (slot_before before))) ≡ length payload + 17

-- The log is the old one or the payload alone, and each file but the one that is written stands.
pub record Rewrites (before : Option Log) (payload : List ℕ) (old new : Image DiskFile) : Type 0 where
  pub others : KeepsOthers (free_file (slot_before before)) old new
  pub choice : KeepsOld before old new ⊎ IsRewritten before payload new
