-- The texts of a layout: of which bytes each part is, and what it says.
use Rattle.std.specs.Prelude.{◌≡◌, ◌≢◌, ℕ, ◌+◌, ◌-◌, ◌*◌, ◌^◌, ◌≤◌, min, List, [], ◌∷◌, ◌++◌, length, codes, Some, ◌⊎◌, ℤ, pos, neg_ℤ}
use Rattle.std.specs.Char.{is_ascii_digit}
use Rattle.std.specs.List.{prefix_len}
use Rattle.std.specs.Str.{str_eq_ignore_ascii_case}
use Rattle.case_table.specs.Rows.{Named, first_code}
use Rattle.case_table.specs.Tables.{month_table, month_name_table, day_name_table}
use Rattle.time_layout.specs.declared.parts.Colon.{Colon}
use Rattle.time_layout.specs.declared.parts.Colon.TheVariants.{Optional, Required, Missing}
use Rattle.time_layout.specs.declared.parts.Part.{Part}
use Rattle.time_layout.specs.declared.parts.Part.TheVariants.{Literal, Year, ShortYear, Month, MonthName, Day, PaddedDay, WeekdayName, Hour, TwelveHour, Meridiem, Minute, Second, Fraction, PointFraction, Zone, UnpaddedMonth, FullMonthName, UnpaddedDay, FullWeekdayName, UnpaddedTwelveHour, FixedFraction, FractionPoint, Offset, ZoneName}
use Rattle.time_layout.specs.declared.parts.Said.{Said}
use Rattle.time_layout.specs.Atoms.{value_of}
use Rattle.time_layout.specs.Names.{weekday_table, meridiem_table}
use Rattle.time_layout.specs.Parts.{full_year, clock_of}

-- each byte is a digit
abbrev pub AreDigits : List ℕ → Type 0
AreDigits bytes = prefix_len is_ascii_digit bytes ≡ length bytes

abbrev pub BeginsNoDigit : List ℕ → Type 0
BeginsNoDigit text = prefix_len is_ascii_digit text ≡ 0

-- so many digits, whose number lies from low to high
pub record IsNumber (digits low high : ℕ) (own : List ℕ) (value : ℕ) : Type 0 where
  pub all : AreDigits own
  pub size : length own ≡ digits
  pub value_is : value_of own ≡ value
  pub least : low ≤ value
  pub greatest : value ≤ high

-- one or more digits and no more than the most, where no further one stands that could be of them, as nanoseconds
pub record IsFraction (most : ℕ) (own rest : List ℕ) (nanos : ℕ) : Type 0 where
  pub all : AreDigits own
  pub some : 1 ≤ length own
  pub few : length own ≤ most
  pub ends : (length own ≡ most) ⊎ BeginsNoDigit rest
  pub value_is : value_of own * 10 ^ (9 - length own) ≡ nanos

-- a point and so many digits, as nanoseconds
pub record IsFixedFraction (digits : ℕ) (own : List ℕ) (nanos : ℕ) : Type 0 where
  pub behind : List ℕ
  pub value : ℕ
  pub is : own ≡ 46 ∷ behind
  pub number : IsNumber digits 0 999_999_999 behind value
  pub nanos_are : nanos ≡ value * 10 ^ (9 - digits)

-- a point behind which no digit stands, or a point, a fraction and another point
abbrev pub IsFractionPoint : List ℕ → List ℕ → ℕ → Type 0
IsFractionPoint own rest nanos =
    ((own ≡ 46 ∷ []) × BeginsNoDigit rest × (nanos ≡ 0))
    ⊎ ((digits : List ℕ) × (own ≡ 46 ∷ (digits ++ 46 ∷ [])) × IsFraction 9 digits (46 ∷ rest) nanos)

-- a name of this length, in any case
pub record IsName (table : List Named) (size : ℕ) (own : List ℕ) (code : ℕ) : Type 0 where
  pub size_is : length own ≡ size
  pub named : first_code (str_eq_ignore_ascii_case own) table ≡ Some code

-- a name, in any case
abbrev pub IsFullName : List Named → List ℕ → ℕ → Type 0
IsFullName table own code = first_code (str_eq_ignore_ascii_case own) table ≡ Some code

-- two digits, or one behind which no other stands
abbrev pub IsUnpadded : ℕ → List ℕ → List ℕ → ℕ → Type 0
IsUnpadded high own rest value = IsNumber 2 1 high own value ⊎ (IsNumber 1 1 high own value × BeginsNoDigit rest)

-- a space and a digit, two digits, or one behind which no other stands
abbrev pub IsPaddedDay : List ℕ → List ℕ → ℕ → Type 0
IsPaddedDay own rest day = ((digit : List ℕ) × (own ≡ 32 ∷ digit) × IsNumber 1 1 31 digit day) ⊎ IsUnpadded 31 own rest day

-- minutes, behind a colon, or without one where it may be left out
abbrev pub AreMinutes : Colon → List ℕ → ℕ → Type 0
AreMinutes Optional own minutes = ((digits : List ℕ) × (own ≡ 58 ∷ digits) × IsNumber 2 0 59 digits minutes) ⊎ IsNumber 2 0 59 own minutes
AreMinutes Required own minutes = (digits : List ℕ) × (own ≡ 58 ∷ digits) × IsNumber 2 0 59 digits minutes
AreMinutes Missing own minutes = IsNumber 2 0 59 own minutes

-- hours and minutes, in seconds
pub record IsOffset (colon : Colon) (own : List ℕ) (seconds : ℕ) : Type 0 where
  pub hours_text : List ℕ
  pub minutes_text : List ℕ
  pub hours : ℕ
  pub minutes : ℕ
  pub is : own ≡ hours_text ++ minutes_text
  pub are_hours : IsNumber 2 0 23 hours_text hours
  pub are_minutes : AreMinutes colon minutes_text minutes
  pub seconds_are : seconds ≡ hours * 3600 + minutes * 60

-- a sign with hours and minutes
abbrev pub IsSigned : Colon → List ℕ → ℤ → Type 0
IsSigned colon own offset =
    ((behind : List ℕ) × (seconds : ℕ) × (own ≡ 43 ∷ behind) × (offset ≡ pos seconds) × IsOffset colon behind seconds)
    ⊎ ((behind : List ℕ) × (seconds : ℕ) × (own ≡ 45 ∷ behind) × (offset ≡ neg_ℤ (pos seconds)) × IsOffset colon behind seconds)

-- `Z`, or a sign with hours and minutes
abbrev pub IsZone : Colon → List ℕ → ℤ → Type 0
IsZone colon own offset = ((own ≡ 90 ∷ []) × (offset ≡ pos 0)) ⊎ IsSigned colon own offset

-- a name of UTC
abbrev pub IsZoneName : List ℕ → ℤ → Type 0
IsZoneName own offset = ((own ≡ codes "GMT") ⊎ (own ≡ codes "UTC")) × (offset ≡ pos 0)

-- own is the part's text where rest follows, and says this more than was said before
abbrev pub Spells : Part → List ℕ → List ℕ → Said → Said → Type 0
Spells (Literal byte) own rest before said = (own ≡ byte ∷ []) × (said ≡ before)
Spells Year own rest before said = (value : ℕ) × IsNumber 4 0 9999 own value × (said ≡ record before { year = value })
Spells ShortYear own rest before said = (value : ℕ) × IsNumber 2 0 99 own value × (said ≡ record before { year = full_year value })
Spells Month own rest before said = (value : ℕ) × IsNumber 2 1 12 own value × (said ≡ record before { month = value })
Spells MonthName own rest before said = (value : ℕ) × IsName month_table 3 own value × (said ≡ record before { month = value })
Spells Day own rest before said = (value : ℕ) × IsNumber 2 1 31 own value × (said ≡ record before { day = value })
Spells PaddedDay own rest before said = (value : ℕ) × IsPaddedDay own rest value × (said ≡ record before { day = value })
Spells WeekdayName own rest before said = (value : ℕ) × IsName weekday_table 3 own value × (said ≡ before)
Spells Hour own rest before said = (value : ℕ) × IsNumber 2 0 23 own value × (said ≡ record before { hour = value })
Spells TwelveHour own rest before said = (value : ℕ) × IsNumber 2 1 12 own value × (said ≡ record before { hour = value })
Spells Meridiem own rest before said = (value : ℕ) × IsName meridiem_table 2 own value × (said ≡ record before { clock = clock_of value })
Spells Minute own rest before said = (value : ℕ) × IsNumber 2 0 59 own value × (said ≡ record before { minute = value })
Spells Second own rest before said = (value : ℕ) × IsNumber 2 0 59 own value × (said ≡ record before { second = value })
Spells Fraction own rest before said = (value : ℕ) × IsFraction 9 own rest value × (said ≡ record before { nanosecond = value })
Spells (PointFraction most) own rest before said =
    ((own ≡ []) × ((more : List ℕ) → rest ≢ 46 ∷ more) × (said ≡ record before { nanosecond = 0 }))
    ⊎ ((digits : List ℕ) × (value : ℕ) × (own ≡ 46 ∷ digits) × IsFraction (min most 9) digits rest value × (said ≡ record before { nanosecond = value }))
Spells (Zone colon) own rest before said = (value : ℤ) × IsZone colon own value × (said ≡ record before { offset = value })
Spells UnpaddedMonth own rest before said = (value : ℕ) × IsUnpadded 12 own rest value × (said ≡ record before { month = value })
Spells FullMonthName own rest before said = (value : ℕ) × IsFullName month_name_table own value × (said ≡ record before { month = value })
Spells UnpaddedDay own rest before said = (value : ℕ) × IsUnpadded 31 own rest value × (said ≡ record before { day = value })
Spells FullWeekdayName own rest before said = (value : ℕ) × IsFullName day_name_table own value × (said ≡ before)
Spells UnpaddedTwelveHour own rest before said = (value : ℕ) × IsUnpadded 12 own rest value × (said ≡ record before { hour = value })
Spells (FixedFraction digits) own rest before said = (value : ℕ) × IsFixedFraction (min digits 9) own value × (said ≡ record before { nanosecond = value })
Spells FractionPoint own rest before said = (value : ℕ) × IsFractionPoint own rest value × (said ≡ record before { nanosecond = value })
Spells (Offset colon) own rest before said = (value : ℤ) × IsSigned colon own value × (said ≡ record before { offset = value })
Spells ZoneName own rest before said = (value : ℤ) × IsZoneName own value × (said ≡ record before { offset = value })

-- the text is made of the parts' texts, one after another, and says all that they say
abbrev pub IsTextOf : List Part → List ℕ → Said → Said → Type 0
IsTextOf [] text before said = (text ≡ []) × (said ≡ before)
IsTextOf (part ∷ parts) text before said =
    (own : List ℕ) × (rest : List ℕ) × (next : Said) × (text ≡ own ++ rest) × Spells part own rest before next × IsTextOf parts rest next said
