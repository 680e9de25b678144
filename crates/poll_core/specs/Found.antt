-- What an image has for the next run.
use Rattle.std.specs.Prelude.{ℕ, Some, None}
use Rattle.checkpoint_journal.specs.JournalOf.{HasCheckpoint, IsBadAt}
use Rattle.outside.specs.Image.{Image}
use Rattle.outside.specs.declared.disk.DiskFile.{DiskFile}
use Rattle.standing.specs.Standing.{Found, nothing, damaged, found}

-- nothing where no slot is open, and something damaged where the chosen file has no reading
abbrev pub IsFound : Image DiskFile → Found → Type 0
IsFound image nothing = HasCheckpoint None image
IsFound image damaged = (at : ℕ) × IsBadAt at image
IsFound image (found checkpoint) = HasCheckpoint (Some checkpoint) image
