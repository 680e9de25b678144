-- What a store keeps of its files is what its log says.
use Rattle.std.specs.Prelude.{◌≡◌, ◌≤◌, ℕ, List, length, reverse}
use Rattle.out_segments.specs.declared.parts.PartFile.{PartFile}
use Rattle.out_segments.specs.declared.parts.PartFile.TheVariants.{Part}
use Rattle.out_segments.specs.declared.memory.contents.Contents.{Contents}
use Rattle.out_segments.specs.declared.memory.log.Entry.{Entry}
use Rattle.out_segments.specs.MemContents.{bytes_of, parts_held}
use Rattle.out_segments.specs.MemImages.{shown, itself}
use Rattle.out_segments.specs.MemLog.{calls_of}

-- The oldest entry comes first.
pub record IsStored (contents : Contents) (log : List Entry) : Type 0 where
  pub matches : (file : PartFile) → bytes_of contents file ≡ shown itself (reverse log) file
  -- there were no calls on later Parts
  pub held : (number : ℕ) → parts_held contents ≤ number → length (calls_of (Part number) (reverse log)) ≡ 0
  pub few : parts_held contents ≤ 4294967296
