-- The form of RFC 3339, section 5.6, with `T` and `Z` in upper case and at most so many digits of a fraction.
use Rattle.std.specs.Prelude.{ℕ, List, [], ◌∷◌, Bool, ◌&&◌}
use Rattle.time_layout.specs.Atoms.{stands}
use Rattle.time_layout.specs.declared.parts.Colon.TheVariants.{Required}
use Rattle.time_layout.specs.declared.parts.Part.{Part}
use Rattle.time_layout.specs.declared.parts.Part.TheVariants.{Literal, Year, Month, Day, Hour, Minute, Second, PointFraction, Zone}

unfoldable pub rfc3339_parts : ℕ → List Part
rfc3339_parts digits =
    Year ∷ Literal 45 ∷ Month ∷ Literal 45 ∷ Day ∷ Literal 84
    ∷ Hour ∷ Literal 58 ∷ Minute ∷ Literal 58 ∷ Second ∷ PointFraction digits ∷ Zone Required ∷ []

-- the parts of a date and of a time of day to the second, and others behind them
abbrev pub plain_parts : List Part → List Part
plain_parts rest = Year ∷ Literal 45 ∷ Month ∷ Literal 45 ∷ Day ∷ Literal 84 ∷ Hour ∷ Literal 58 ∷ Minute ∷ Literal 58 ∷ Second ∷ rest

-- whether the bytes between their numbers stand there
abbrev pub has_marks : List ℕ → Bool
has_marks text = stands 45 text 4 && stands 45 text 7 && stands 84 text 10 && stands 58 text 13 && stands 58 text 16
