-- The bytes that are kept of files.
use Rattle.std.specs.Prelude.{ℕ, suc, ◌+◌, ◌≤◌, List, [], ◌∷◌, ◌==◌, if◌then◌else◌, vec_len, vec_capacity}
use Rattle.outside.specs.Opening.{largest_size}
use Rattle.mem_world.specs.declared.tree.contents.Content.{Content}

-- a field of the first content of the file, or the default
abbrev pub kept_of : {X : Type 0} → X → (Content → X) → List Content → ℕ → X
kept_of default field [] file = default
kept_of default field (first ∷ others) file = if first.file == file then field first else kept_of default field others file

abbrev pub bytes_in : List Content → ℕ → List ℕ
bytes_in = kept_of [] (λ content. content.bytes.items)

abbrev pub room_at : List Content → ℕ → ℕ
room_at = kept_of 0 (λ content. content.room)

-- how many contents stand before the first of the file
abbrev pub place_in : List Content → ℕ → ℕ
place_in [] file = 0
place_in (first ∷ others) file = if first.file == file then 0 else suc (place_in others file)

-- what is kept of a file has room for so many more bytes, and stays within the largest size
pub record HasRoom (content : Content) : Type 0 where
  pub reserved : vec_len content.bytes + content.room ≤ vec_capacity content.bytes
  pub small : vec_len content.bytes + content.room ≤ largest_size
