-- Bytes, and what stands between the spaces of a line.
use Rattle.std.specs.Prelude.{◌≢◌, ℕ, ◌<◌, ◌==◌, ◌&&◌, Bool, true, false, List, [], ◌∷◌, length, slice_index}
use Rattle.std.specs.List.{list_all}

abbrev pub is_space : ℕ → Bool
is_space byte = byte == 32

abbrev pub is_filled : List ℕ → Bool
is_filled [] = false
is_filled (byte ∷ bytes) = true

-- one byte or more, and each passes the test
abbrev pub is_made_of : (ℕ → Bool) → List ℕ → Bool
is_made_of test bytes = is_filled bytes && list_all test bytes

-- the byte stands nowhere in the bytes
abbrev pub Lacks : ℕ → List ℕ → Type 0
Lacks byte bytes = (k : ℕ) → k < length bytes → slice_index bytes k ≢ byte
