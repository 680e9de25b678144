-- The contents of files, and what a write or a cut makes of one of them.
use Rattle.std.specs.Prelude.{◌≡◌, ◌≢◌, ◌⊎◌, ℕ, ◌+◌, ◌<◌, ◌≤◌, max, List, length, take, slice_index}

-- what each file holds
abbrev pub Image : Type 0 → Type 0
Image F = F → List ℕ

-- one file changes so, and each other stays
pub record AtFile {F : Type 0} (file : F) (change : List ℕ → List ℕ → Type 0) (old new : Image F) : Type 0 where
  pub here : change (old file) (new file)
  pub others : (other : F) → other ≢ file → new other ≡ old other

-- A write of so many bytes was begun: its range, and what stands past the old end, may hold any bytes.
pub record Torn (offset size : ℕ) (old new : List ℕ) : Type 0 where
  pub before : (k : ℕ) → k < offset → k < length old → slice_index new k ≡ slice_index old k
  pub after : (k : ℕ) → offset + size ≤ k → k < length old → slice_index new k ≡ slice_index old k
  pub no_shorter : length old ≤ length new
  pub no_longer : length new ≤ max (length old) (offset + size)

-- These bytes were written.
pub record Holds (offset : ℕ) (bytes old new : List ℕ) : Type 0 where
  pub outside : Torn offset (length bytes) old new
  pub inside : (k : ℕ) → k < length bytes → slice_index new (offset + k) ≡ slice_index bytes k
  pub reaches : offset + length bytes ≤ length new

-- The file is no shorter, and stands as it was before this place, as far as it went.
pub record KeepsFront (kept : ℕ) (old new : List ℕ) : Type 0 where
  pub front : (k : ℕ) → k < kept → k < length old → slice_index new k ≡ slice_index old k
  pub no_shorter : length old ≤ length new

abbrev pub IsCut : ℕ → List ℕ → List ℕ → Type 0
IsCut size old new = new ≡ take size old

-- a cut was begun
abbrev pub MayCut : ℕ → List ℕ → List ℕ → Type 0
MayCut size old new = (new ≡ old) ⊎ IsCut size old new

abbrev pub IsWithin : ℕ → List ℕ → Type 0
IsWithin size content = size ≤ length content

abbrev pub Same : {F : Type 0} → Image F → Image F → Type 0
Same old new = new ≡ old
