-- Texts that can go on to be of a layout, and the layouts of which each text can up to the place where it's refused.
use Rattle.std.specs.Prelude.{ℕ, List, [], ◌∷◌, ◌++◌, Bool, true, false, not, ◌&&◌, nat_lt, ℤ}
use Rattle.std.specs.Char.{is_ascii_digit}
use Rattle.time_layout.specs.declared.parts.Part.{Part}
use Rattle.time_layout.specs.declared.parts.Part.TheVariants.{Literal, Year, ShortYear, Month, Day, PaddedDay, Hour, TwelveHour, Minute, Second, Fraction, PointFraction, UnpaddedMonth, UnpaddedDay, UnpaddedTwelveHour}
use Rattle.time_layout.specs.declared.parts.Said.{Said}
use Rattle.time_layout.specs.Parts.{nothing_said}
use Rattle.time_layout.specs.Texts.{IsTextOf}

-- some text of the layout begins so
abbrev pub IsBeginning : List Part → ℤ → List ℕ → Type 0
IsBeginning parts location front = (more : List ℕ) × (said : Said) × IsTextOf parts (front ++ more) (nothing_said location) said

-- each text of the part begins with a digit
abbrev pub begins_with_digit : Part → Bool
begins_with_digit (Literal byte) = is_ascii_digit byte
begins_with_digit Year = true
begins_with_digit ShortYear = true
begins_with_digit Month = true
begins_with_digit Day = true
begins_with_digit Hour = true
begins_with_digit TwelveHour = true
begins_with_digit Minute = true
begins_with_digit Second = true
begins_with_digit Fraction = true
begins_with_digit UnpaddedMonth = true
begins_with_digit UnpaddedDay = true
begins_with_digit UnpaddedTwelveHour = true
begins_with_digit _ = false

abbrev pub digit_follows : List Part → Bool
digit_follows [] = false
digit_follows (part ∷ parts) = begins_with_digit part

-- the part is a number of one digit or of two, as many as stand there
abbrev pub is_unpadded : Part → Bool
is_unpadded PaddedDay = true
is_unpadded UnpaddedMonth = true
is_unpadded UnpaddedDay = true
is_unpadded UnpaddedTwelveHour = true
is_unpadded _ = false

-- where the part is a fraction that may be left out, it has a digit: behind its point nothing else can follow
abbrev pub has_digits : Part → Bool
has_digits (PointFraction most) = nat_lt 0 most
has_digits _ = true

-- no number of one digit or of two stands before a part that begins with a digit
abbrev pub are_separate : List Part → Bool
are_separate [] = true
are_separate (part ∷ parts) = not (is_unpadded part && digit_follows parts) && has_digits part && are_separate parts
