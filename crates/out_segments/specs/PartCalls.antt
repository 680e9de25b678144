-- How the bytes are counted that writes are given.
use Rattle.std.specs.Prelude.{ℕ, Option, option_map}
use Rattle.outside.specs.Count.{raised}
use Rattle.out_segments.specs.declared.parts.PartFile.{PartFile}
use Rattle.out_segments.specs.declared.parts.PartFile.TheVariants.{Settings, SlotA, SlotB, Part}

-- A write to a slot was given so many bytes, whatever it answered.
abbrev pub slots_given : PartFile → ℕ → Option ℕ → Option ℕ
slots_given Settings size count = count
slots_given SlotA size count = option_map (λ n. raised n size) count
slots_given SlotB size count = option_map (λ n. raised n size) count
slots_given (Part _) size count = count
