-- How many calls succeeded, and how many bytes writes to a file were given, over several calls.
use Rattle.std.specs.Prelude.{◌≡◌, ◌⊎◌, ℕ, ◌+◌, ◌<◌, ◌≤◌, Option, Some, None, option_map, Result, Ok, Err}
use Rattle.outside.specs.DiskCalls.{written_after}
use Rattle.outside.specs.declared.disk.DiskFile.{DiskFile}

-- so many more calls succeeded, where the disk tells it
abbrev pub DoneMore : ℕ → Option ℕ → Option ℕ → Type 0
DoneMore calls before after = after ≡ option_map (λ n. n + calls) before

-- All of so many calls succeeded, or only some of them.
abbrev pub HasDone : {T E : Type 0} → Result T E → ℕ → Option ℕ → Option ℕ → Type 0
HasDone (Ok _) calls before after = DoneMore calls before after
HasDone (Err _) calls before after = (some : ℕ) × (some < calls) × DoneMore some before after

-- The disk tells that fewer than so many calls succeeded.
abbrev pub DoneFewer : ℕ → Option ℕ → Option ℕ → Type 0
DoneFewer calls None _ = ⊥
DoneFewer calls (Some _) None = ⊥
DoneFewer calls (Some before) (Some after) = after < before + calls

-- Writes to a file were given so many bytes, or only some of them, or there were none.
abbrev pub HasWritten : {T E : Type 0} → Result T E → DiskFile → ℕ → Option ℕ → Option ℕ → Type 0
HasWritten (Ok _) file size before after = after ≡ written_after file size before
HasWritten (Err _) file size before after = (after ≡ before) ⊎ ((some : ℕ) × (some ≤ size) × (after ≡ written_after file some before))
