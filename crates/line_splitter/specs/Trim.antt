-- Blank bytes cut from the ends of a text.
use Rattle.std.specs.Prelude.{◌≡◌, ℕ, ◌-◌, ◌<◌, ◌≤◌, ◌==◌, ◌||◌, if◌then◌else◌, Bool, true, false, List, length, take, drop, slice_index, slice_range}
use Rattle.std.specs.List.{prefix_len, suffix_len, AllPass}

-- the byte is a space, a tab, CR or LF
abbrev pub is_blank : ℕ → Bool
is_blank byte = byte == 32 || byte == 9 || byte == 13 || byte == 10

-- where the part that stays begins: past the blanks in front, unless they are kept
unfoldable pub trim_start : Bool → List ℕ → ℕ
trim_start leading text = if leading then 0 else prefix_len is_blank text

-- where it ends: before the blanks at the end of what is left, unless they are kept
unfoldable pub trim_end : Bool → Bool → List ℕ → ℕ
trim_end leading trailing text =
    if trailing then length text
    else length text - suffix_len is_blank (drop (trim_start leading text) text)

-- the part that stays
unfoldable pub trimmed : Bool → Bool → List ℕ → List ℕ
trimmed leading trailing text =
    slice_range text (trim_start leading text) (trim_end leading trailing text)

-- What is cut of the text is blank and lies at the ends that aren't kept; the part from `from` up to
-- `to` has no blank at such an end.
pub record IsTrimmedTo (leading trailing : Bool) (text : List ℕ) (from to : ℕ) : Type 0 where
  pub ordered : from ≤ to
  pub within : to ≤ length text
  pub blank_before : AllPass is_blank (take from text)
  pub blank_after : AllPass is_blank (drop to text)
  pub leading_kept : leading ≡ true → from ≡ 0
  pub trailing_kept : trailing ≡ true → to ≡ length text
  pub first_not_blank : leading ≡ false → from < to → is_blank (slice_index text from) ≡ false
  pub last_not_blank : trailing ≡ false → from < to → is_blank (slice_index text (to - 1)) ≡ false
