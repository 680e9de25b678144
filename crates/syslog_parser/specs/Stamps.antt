-- The times of both formats.
use Rattle.std.specs.Prelude.{◌≡◌, ℕ, true, List, [], ◌∷◌, ◌++◌, length, bytes_eq, ℤ, pos, Option, Some, None, Ok}
use Rattle.std.specs.List.{list_all}
use Rattle.case_table.specs.Rows.{first_code}
use Rattle.case_table.specs.Tables.{month_table}
use Rattle.time_layout.specs.declared.parts.Clock.TheVariants.{Full}
use Rattle.time_layout.specs.declared.parts.Part.{Part}
use Rattle.time_layout.specs.declared.parts.Part.TheVariants.{Literal, PaddedDay, Hour, Minute, Second}
use Rattle.time_layout.specs.declared.parts.Said.{Said}
use Rattle.time_layout.specs.Instant.{IsInstantOf, IsTimeOf}
use Rattle.time_layout.specs.Iso.{rfc3339_parts}
use Rattle.time_layout.specs.Parts.{layout_read, parts_read}
use Rattle.syslog_parser.specs.Bytes.{is_not_space}

-- `-`, or a time of RFC 3339 with at most six digits of a fraction (RFC 5424, section 6.2.3)
abbrev pub IsStamp : List ℕ → Option ℕ → Type 0
IsStamp own None = own ≡ 45 ∷ []
IsStamp own (Some instant) = IsTimeOf (layout_read (rfc3339_parts 6) (pos 0) own) (Ok instant)

-- a time, which has no space, and a space
pub record IsTime (text : List ℕ) (time : Option ℕ) (rest : List ℕ) : Type 0 where
  pub own : List ℕ
  pub is : text ≡ own ++ 32 ∷ rest
  pub unbroken : list_all is_not_space own ≡ true
  pub stamp : IsStamp own time

-- ` dd hh:mm:ss`, with a space for a first digit 0 of the day
unfoldable pub day_and_clock : List Part
day_and_clock = Literal 32 ∷ PaddedDay ∷ Literal 32 ∷ Hour ∷ Literal 58 ∷ Minute ∷ Literal 58 ∷ Second ∷ []

-- a month and nothing more, at this distance from UTC
abbrev pub of_month : ℕ → ℕ → ℤ → Said
of_month year month location =
    record { year = year; month = month; day = 0; clock = Full; hour = 0; minute = 0; second = 0; nanosecond = 0; offset = location }

-- `Mmm dd hh:mm:ss`, a day of this year, and a space (RFC 3164, section 4.1.2)
pub record IsDate (year : ℕ) (location : ℤ) (text : List ℕ) (instant : ℕ) (rest : List ℕ) : Type 0 where
  pub name : List ℕ
  pub clock : List ℕ
  pub month : ℕ
  pub said : Said
  pub is : text ≡ name ++ (clock ++ 32 ∷ rest)
  pub name_size : length name ≡ 3
  pub clock_size : length clock ≡ 12
  pub month_is : first_code (bytes_eq name) month_table ≡ Some month
  pub said_is : parts_read day_and_clock clock 0 (of_month year month location) ≡ Ok (said, 12)
  pub instant_is : IsInstantOf said (Ok instant)
