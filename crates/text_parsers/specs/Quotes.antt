-- Quoted parts of a text: from a `"` or a `'` to the next same character.
use Rattle.std.specs.Prelude.{◌≡◌, ◌≢◌, ℕ, ◌-◌, ◌<◌, ◌==◌, ◌||◌, ◌&&◌, nat_lt, Bool, true, if◌then◌else◌, List, length, take, slice_index, slice_range, Option, None, Some}
use Rattle.std.specs.List.{fold}

abbrev pub is_quote : ℕ → Bool
is_quote byte = (byte == 34) || (byte == 39)

-- the quote that is open behind one byte more
abbrev pub open_behind : Option ℕ → ℕ → Option ℕ
open_behind None byte = (if is_quote byte then Some byte else None)
open_behind (Some quote) byte = (if byte == quote then None else Some quote)

-- the quote that is open behind these bytes; none outside of quoted parts
unfoldable pub open_quote : List ℕ → Option ℕ
open_quote front = fold open_behind None front

-- the quote at this place opens a part that no quote closes
pub record IsUnclosed (text : List ℕ) (at : ℕ) : Type 0 where
  pub inside : at < length text
  pub quote : is_quote (slice_index text at) ≡ true
  pub opens : open_quote (take at text) ≡ None
  pub stays_open : (k : ℕ) → at < k → k < length text → slice_index text k ≢ slice_index text at

abbrev pub is_quoted : List ℕ → Bool
is_quoted text = nat_lt 1 (length text) && is_quote (slice_index text 0) && (slice_index text (length text - 1) == slice_index text 0)

-- without one pair of equal quotes around it
unfoldable pub unquoted : List ℕ → List ℕ
unquoted text = (if is_quoted text then slice_range text 1 (length text - 1) else text)
