-- The sequence number of an image.
use Rattle.std.specs.Prelude.{◌≡◌, ℕ, List, None}
use Rattle.outside.specs.Image.{Image}
use Rattle.outside.specs.declared.disk.DiskFile.{DiskFile}
use Rattle.record_log.specs.LogOf.{HasLog}
use Rattle.record_log.specs.declared.log.Log.{Log}
use Rattle.slot_store.specs.ChosenSlot.{chosen_slot}

-- It is that of the chosen file's last record, or of its slot where it has none; and 0 where no slot is open.
pub data HasSequence (image : Image DiskFile) : ℕ → Type 0 where
  no_slot : chosen_slot image ≡ None → HasSequence image 0
  of_log : (log : Log) (base : List ℕ) (records : List (List ℕ)) → HasLog log base records image → HasSequence image log.sequence
