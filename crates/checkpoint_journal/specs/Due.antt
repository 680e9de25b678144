-- When a whole checkpoint is written, and not the change alone.
use Rattle.std.specs.Prelude.{◌≢◌, ◌⊎◌, ◌+◌, ◌-◌, ◌*◌, ◌<◌, length, Option, Some, None, ⊤}
use Rattle.checkpoint_store.specs.Limits.{newest}
use Rattle.checkpoint_store.specs.Spelling.{checkpoint_spelling}
use Rattle.checkpoint_store.specs.declared.Checkpoint.{Checkpoint}
use Rattle.checkpoint_journal.specs.declared.journal.Journal.{Journal}

-- The records behind the base are longer than twice the whole checkpoint and 64 KiB. Before the base stand 17 bytes.
abbrev pub IsTooLong : Journal → Checkpoint → Type 0
IsTooLong journal after = 2 * length (checkpoint_spelling newest after) + 65536 < journal.end - (17 + journal.slot.length)

-- a whole checkpoint is due
abbrev pub IsDue : Option Journal → Checkpoint → Type 0
IsDue None after = ⊤
IsDue (Some journal) after = (journal.version ≢ newest) ⊎ IsTooLong journal after
