-- The lines of an output.
use Rattle.std.specs.Prelude.{◌≡◌, ℕ, ◌<◌, ◌≤◌, ◌==◌, List, [], ◌∷◌, if◌then◌else◌, length, take, drop}

-- the first line longer by a byte in front, where there is a line
abbrev pub longer_first : ℕ → List (List ℕ) → List (List ℕ)
longer_first byte [] = []
longer_first byte (line ∷ lines) = (byte ∷ line) ∷ lines

-- the lines of a text, cut after each LF; what stands behind the last LF is none
abbrev pub whole_lines : List ℕ → List (List ℕ)
whole_lines [] = []
whole_lines (byte ∷ bytes) = if byte == 10 then (byte ∷ []) ∷ whole_lines bytes else longer_first byte (whole_lines bytes)

-- the first line of the text has so many bytes, and its other lines are those of the rest
pub record IsFirstLength (text : List ℕ) (count : ℕ) : Type 0 where
  pub some : 0 < count
  pub within : count ≤ length text
  pub lines : whole_lines text ≡ take count text ∷ whole_lines (drop count text)
