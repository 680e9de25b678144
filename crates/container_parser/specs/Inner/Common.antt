-- How far a text goes along with a word.
use Rattle.std.specs.Prelude.{◌≡◌, ◌≢◌, ℕ, ◌<◌, ◌≤◌, List, length, slice_index}

-- both have the same bytes up to this place, and there another one, or one of them ends
pub record IsCommon (word bytes : List ℕ) (n : ℕ) : Type 0 where
  pub in_word : n ≤ length word
  pub in_bytes : n ≤ length bytes
  pub same : (k : ℕ) → k < n → slice_index bytes k ≡ slice_index word k
  pub differs : n < length word → n < length bytes → slice_index bytes n ≢ slice_index word n
