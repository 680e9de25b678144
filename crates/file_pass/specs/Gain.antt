-- What paths add to the counts, and how many bytes are read for them.
use Rattle.std.specs.Prelude.{◌≡◌, ℕ, ◌+◌, Bool, if◌then◌else◌}
use Rattle.standing.specs.Sums.{capped}
use Rattle.file_pass.specs.declared.counts.Counts.{Counts}
use Rattle.file_pass.specs.declared.ending.Ending.{Ending}
use Rattle.file_pass.specs.declared.ending.Ending.TheVariants.{Whole, Failed, Shrunk}
use Rattle.file_pass.specs.declared.found.Found.{Found}
use Rattle.file_pass.specs.declared.found.Found.TheVariants.{Gone, Missed, Nothing, Unread, Compressed, NoRoom, Shorter, Read}

-- so many more of each count
pub record Gain : Type 0 where
  pub files : ℕ
  pub lines : ℕ
  pub left : ℕ
  pub gone : ℕ
  pub failed : ℕ
  pub compressed : ℕ
  pub shrunk : ℕ
  pub full : ℕ
  -- the bytes that reads gave at most
  pub taken : ℕ

abbrev pub no_gain : Gain
no_gain = record { files = 0; lines = 0; left = 0; gone = 0; failed = 0; compressed = 0; shrunk = 0; full = 0; taken = 0 }

abbrev pub both : Gain → Gain → Gain
both one other = record {
  files = one.files + other.files;
  lines = one.lines + other.lines;
  left = one.left + other.left;
  gone = one.gone + other.gone;
  failed = one.failed + other.failed;
  compressed = one.compressed + other.compressed;
  shrunk = one.shrunk + other.shrunk;
  full = one.full + other.full;
  taken = one.taken + other.taken;
}

abbrev pub one_if : Bool → ℕ
one_if test = if test then 1 else 0

abbrev pub failures : Ending → ℕ
failures Whole = 0
failures Failed = 1
failures Shrunk = 0

abbrev pub shrinkings : Ending → ℕ
shrinkings Whole = 0
shrinkings Failed = 0
shrinkings Shrunk = 1

abbrev pub one_file : Gain
one_file = record no_gain { files = 1 }

-- what was found at one path
abbrev pub gain_of : Found → Gain
gain_of Gone = record no_gain { gone = 1 }
gain_of Missed = record no_gain { failed = 1 }
gain_of Nothing = no_gain
gain_of (Unread ending) = record one_file { failed = failures ending; shrunk = shrinkings ending }
gain_of Compressed = record one_file { compressed = 1 }
gain_of NoRoom = record one_file { full = 1 }
gain_of Shorter = record one_file { shrunk = 1 }
gain_of (Read ending more lines) = record one_file { lines = lines; left = one_if more; failed = failures ending; shrunk = shrinkings ending }

-- the same, after reads that gave so many bytes at most
abbrev pub with_taken : ℕ → Gain → Gain
with_taken bytes gain = record gain { taken = bytes }

-- Each count of 32 bits stands still at its greatest value.
pub record Counted (before : Counts) (gain : Gain) (after : Counts) : Type 0 where
  pub files : after.files ≡ capped (before.files + gain.files)
  pub lines : after.lines ≡ before.lines + gain.lines
  pub left : after.left ≡ capped (before.left + gain.left)
  pub gone : after.gone ≡ capped (before.gone + gain.gone)
  pub failed : after.failed ≡ capped (before.failed + gain.failed)
  pub compressed : after.compressed ≡ capped (before.compressed + gain.compressed)
  pub shrunk : after.shrunk ≡ capped (before.shrunk + gain.shrunk)
  pub full : after.full ≡ capped (before.full + gain.full)
