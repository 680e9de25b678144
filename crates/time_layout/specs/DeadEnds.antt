-- Texts that can't go on to be of a layout.
use Rattle.std.specs.Prelude.{ℕ, ◌+◌, ◌<◌, ◌≤◌, List, ◌++◌, length, take, slice_index, ℤ, ◌⊎◌, ◌≡◌, true}
use Rattle.std.specs.Char.{is_ascii_digit}
use Rattle.time_layout.specs.declared.parts.Part.{Part}
use Rattle.time_layout.specs.declared.parts.Said.{Said}
use Rattle.time_layout.specs.Parts.{nothing_said}
use Rattle.time_layout.specs.Texts.{IsTextOf}

-- no text that begins so is of the layout
abbrev pub IsDeadEnd : List Part → ℤ → List ℕ → Type 0
IsDeadEnd parts location front = (more : List ℕ) (said : Said) → IsTextOf parts (front ++ more) (nothing_said location) said → ⊥

-- with the byte at this place the text can't go on; where it is a digit it may be the first of two that are no number of
-- the part, and with both the text can't go on
abbrev pub StopsAt : List Part → ℤ → List ℕ → ℕ → Type 0
StopsAt parts location text at =
    (at < length text → IsDeadEnd parts location (take (at + 1) text))
    ⊎ ((is_ascii_digit (slice_index text at) ≡ true) × (at + 2 ≤ length text → IsDeadEnd parts location (take (at + 2) text)))
