-- Where a text is cut: outside of its quoted parts, at a delimiter.
use Rattle.std.specs.Prelude.{◌≡◌, ℕ, ◌<◌, true, false, Bool, List, [], ◌∷◌, length, take, drop, nat_eq, Option, None, Some}
use Rattle.std.specs.List.{starts_with}
use Rattle.text_parsers.specs.Blanks.{is_blank}
use Rattle.text_parsers.specs.Quotes.{open_quote}

-- a delimiter: these bytes, or any blank
abbrev pub Delimiter : Type 0
Delimiter = Option (List ℕ)

abbrev pub delimiter_len : Delimiter → ℕ
delimiter_len None = 1
delimiter_len (Some bytes) = length bytes

-- the text begins with the delimiter
abbrev pub begins_with : Delimiter → List ℕ → Bool
begins_with None [] = false
begins_with None (byte ∷ rest) = is_blank byte
begins_with (Some bytes) text = starts_with nat_eq text bytes

-- the delimiter stands at this place, outside of quoted parts
pub record StandsAt (delimiter : Delimiter) (text : List ℕ) (at : ℕ) : Type 0 where
  pub inside : at < length text
  pub outside : open_quote (take at text) ≡ None
  pub begins : begins_with delimiter (drop at text) ≡ true

-- the text isn't cut anywhere
abbrev pub IsUncut : Delimiter → List ℕ → Type 0
IsUncut delimiter text = (k : ℕ) → StandsAt delimiter text k → ⊥

-- the text is cut here first
pub record IsFirstCut (delimiter : Delimiter) (text : List ℕ) (at : ℕ) : Type 0 where
  pub stands : StandsAt delimiter text at
  pub first : (k : ℕ) → k < at → StandsAt delimiter text k → ⊥
