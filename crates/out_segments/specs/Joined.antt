-- The output that Parts are, joined.
use Rattle.std.specs.Prelude.{nat_lt, ◌<◌, ◌≤◌, ◌/◌, ◌+◌, ◌^◌, ℕ, zero, suc, List, [], ◌++◌, length, take, if◌then◌else◌, Option, Some, None}
use Rattle.outside.specs.Image.{Image}
use Rattle.outside.specs.declared.disk.DiskFile.{DiskFile}
use Rattle.outside.specs.declared.disk.DiskFile.TheVariants as disk
use Rattle.out_segments.specs.declared.parts.PartFile.{PartFile}
use Rattle.out_segments.specs.declared.parts.PartFile.TheVariants.{Settings, SlotA, SlotB, Part}

-- how many bytes a full Part has
pub record IsPartSize (size : ℕ) : Type 0 where
  pub some : 1 ≤ size
  pub most : size ≤ 2 ^ 31
  -- a greatest output has fewer than 2^32 Parts
  pub fits : 2 ^ 40 / size < 2 ^ 32

-- The bytes of so many Parts from this one on, joined up to and with the first that has fewer than `size` bytes. A Part
-- with more counts as its first `size` bytes.
unfoldable pub joined : ℕ → (ℕ → List ℕ) → ℕ → ℕ → List ℕ
joined size parts from zero = []
joined size parts from (suc count) = take size (parts from) ++ (if nat_lt (length (parts from)) size then [] else joined size parts (from + 1) count)

-- Part 0, 1, .. joined, all 2^32 of them where none has fewer than `size` bytes
unfoldable pub output_of : ℕ → Image PartFile → List ℕ
output_of size image = joined size (λ number. image (Part number)) 0 4294967296

-- what the agent's files hold, where the output is in Parts
abbrev pub image_of : ℕ → Image PartFile → Image DiskFile
image_of size image disk.Settings = image Settings
image_of size image disk.Output = output_of size image
image_of size image disk.SlotA = image SlotA
image_of size image disk.SlotB = image SlotB

-- the file that stands for one of the agent's own, which isn't the output
abbrev pub whole_file : DiskFile → Option PartFile
whole_file disk.Settings = Some Settings
whole_file disk.Output = None
whole_file disk.SlotA = Some SlotA
whole_file disk.SlotB = Some SlotB
