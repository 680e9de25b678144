-- Where a write may end, and how calls and their bytes are counted.
use Rattle.std.specs.Prelude.{ℕ, ◌+◌, Option, option_map, Result, Ok, Err}
use Rattle.outside.specs.Count.{raised}
use Rattle.outside.specs.declared.disk.DiskFile.{DiskFile}
use Rattle.outside.specs.declared.disk.DiskFile.TheVariants.{Settings, Output, SlotA, SlotB}
use Rattle.outside.specs.declared.fault.CallFault.{CallFault}

-- the greatest end of a write: 2^40 in the output, the last number of 64 bits elsewhere
abbrev pub last_end : DiskFile → ℕ
last_end Settings = 18446744073709551615
last_end Output = 1099511627776
last_end SlotA = 18446744073709551615
last_end SlotB = 18446744073709551615

abbrev pub done_after : {T : Type 0} → Result T CallFault → Option ℕ → Option ℕ
done_after (Ok _) count = option_map (λ n. n + 1) count
done_after (Err _) count = count

-- A write to a slot was given so many bytes, whatever it answered.
abbrev pub written_after : DiskFile → ℕ → Option ℕ → Option ℕ
written_after Settings size count = count
written_after Output size count = count
written_after SlotA size count = option_map (λ n. raised n size) count
written_after SlotB size count = option_map (λ n. raised n size) count
