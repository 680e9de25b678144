-- Blanks at the ends of a text.
use Rattle.std.specs.Prelude.{ℕ, ◌-◌, ◌==◌, ◌||◌, Bool, List, length, take, drop}
use Rattle.std.specs.List.{prefix_len, suffix_len}

-- space, tab, LF and CR
abbrev pub is_blank : ℕ → Bool
is_blank byte = (byte == 32) || (byte == 9) || (byte == 10) || (byte == 13)

-- how many blanks a text begins with
abbrev pub blanks_before : List ℕ → ℕ
blanks_before text = prefix_len is_blank text

abbrev pub without_blanks_behind : List ℕ → List ℕ
without_blanks_behind text = take (length text - suffix_len is_blank text) text

-- the text without the blanks at its ends
unfoldable pub trimmed : List ℕ → List ℕ
trimmed text = without_blanks_behind (drop (blanks_before text) text)
