-- What a read gives of a file's content.
use Rattle.std.specs.Prelude.{◌≡◌, ℕ, ◌<◌, ◌≤◌, List, length, take, drop}

-- The first bytes of the buffer are the content's from the offset, and none come only at the end.
pub record Gives (content : List ℕ) (offset : ℕ) (buffer : List ℕ) (count : ℕ) : Type 0 where
  pub within : count ≤ length buffer
  pub reaches : count ≤ length (drop offset content)
  pub bytes : take count buffer ≡ take count (drop offset content)
  pub ends : count ≡ 0 → 0 < length buffer → length content ≤ offset
