-- What Parts in memory keep of their files.
use Rattle.std.specs.Prelude.{ℕ, zero, suc, ◌<◌, List, [], ◌∷◌, length, Vec}
use Rattle.std.specs.declared.alloc.Global.{Global}
use Rattle.outside.specs.Image.{Image}
use Rattle.out_segments.specs.declared.parts.PartFile.{PartFile}
use Rattle.out_segments.specs.declared.parts.PartFile.TheVariants.{Settings, SlotA, SlotB, Part}
use Rattle.out_segments.specs.declared.memory.contents.Contents.{Contents}

-- the bytes of the Part with this number, none behind the last
abbrev pub part_bytes : List (Vec ℕ Global) → ℕ → List ℕ
part_bytes [] number = []
part_bytes (first ∷ others) zero = first.items
part_bytes (first ∷ others) (suc number) = part_bytes others number

abbrev pub bytes_of : Contents → Image PartFile
bytes_of contents Settings = contents.settings.items
bytes_of contents SlotA = contents.slot_a.items
bytes_of contents SlotB = contents.slot_b.items
bytes_of contents (Part number) = part_bytes contents.parts.items number

abbrev pub parts_held : Contents → ℕ
parts_held contents = length contents.parts.items

-- there is room for the file, where there is for so many Parts
abbrev pub IsHeld : ℕ → PartFile → Type 0
IsHeld held Settings = Unit {0}
IsHeld held SlotA = Unit {0}
IsHeld held SlotB = Unit {0}
IsHeld held (Part number) = number < held
