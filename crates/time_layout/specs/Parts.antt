-- The parts of a layout, one after another along a text.
use Rattle.std.specs.Prelude.{ℕ, ◌+◌, min, List, [], ◌∷◌, length, Bool, true, false, ◌==◌, nat_lt, if◌then◌else◌, ℤ, Ok, Err}
use Rattle.case_table.specs.Tables.{month_table, month_name_table, day_name_table}
use Rattle.time_layout.specs.declared.fault.TimeFault.TheVariants.{Mismatch}
use Rattle.time_layout.specs.declared.parts.Colon.{Colon}
use Rattle.time_layout.specs.declared.parts.Colon.TheVariants.{Optional, Required, Missing}
use Rattle.time_layout.specs.declared.parts.Part.{Part}
use Rattle.time_layout.specs.declared.parts.Part.TheVariants.{Literal, Year, ShortYear, Month, MonthName, Day, PaddedDay, WeekdayName, Hour, TwelveHour, Meridiem, Minute, Second, Fraction, PointFraction, Zone, UnpaddedMonth, FullMonthName, UnpaddedDay, FullWeekdayName, UnpaddedTwelveHour, FixedFraction, FractionPoint, Offset, ZoneName}
use Rattle.time_layout.specs.declared.parts.Clock.{Clock}
use Rattle.time_layout.specs.declared.parts.Clock.TheVariants.{Full, Am, Pm}
use Rattle.time_layout.specs.declared.parts.Said.{Said}
use Rattle.time_layout.specs.Atoms.{Reading, and_then, stands, number, fraction, optional_fraction, fixed_fraction, fraction_point, unpadded, padded_day, name_at, full_name_at, signed, zone, zone_name}
use Rattle.time_layout.specs.Names.{weekday_table, meridiem_table}

-- whether a colon may stand between hours and minutes
abbrev pub may_stand : Colon → Bool
may_stand Optional = true
may_stand Required = true
may_stand Missing = false

-- 69 to 99 are of the last century, and the others of this one
abbrev pub full_year : ℕ → ℕ
full_year short = if nat_lt short 69 then 2000 + short else 1900 + short

abbrev pub clock_of : ℕ → Clock
clock_of code = if code == 1 then Am else Pm

-- what is said once a part is read at this place, and the place behind it
abbrev pub part_read : Part → List ℕ → ℕ → Said → Reading Said
part_read (Literal byte) text at s = (if stands byte text at then Ok (s, at + 1) else Err (Mismatch at))
part_read Year text at s = and_then (number 4 0 9999 text at) (λ value next. Ok (record s { year = value }, next))
part_read ShortYear text at s = and_then (number 2 0 99 text at) (λ value next. Ok (record s { year = full_year value }, next))
part_read Month text at s = and_then (number 2 1 12 text at) (λ value next. Ok (record s { month = value }, next))
part_read MonthName text at s = and_then (name_at month_table 3 text at) (λ value next. Ok (record s { month = value }, next))
part_read Day text at s = and_then (number 2 1 31 text at) (λ value next. Ok (record s { day = value }, next))
part_read PaddedDay text at s = and_then (padded_day text at) (λ value next. Ok (record s { day = value }, next))
part_read WeekdayName text at s = and_then (name_at weekday_table 3 text at) (λ value next. Ok (s, next))
part_read Hour text at s = and_then (number 2 0 23 text at) (λ value next. Ok (record s { hour = value }, next))
part_read TwelveHour text at s = and_then (number 2 1 12 text at) (λ value next. Ok (record s { hour = value }, next))
part_read Meridiem text at s = and_then (name_at meridiem_table 2 text at) (λ value next. Ok (record s { clock = clock_of value }, next))
part_read Minute text at s = and_then (number 2 0 59 text at) (λ value next. Ok (record s { minute = value }, next))
part_read Second text at s = and_then (number 2 0 59 text at) (λ value next. Ok (record s { second = value }, next))
part_read Fraction text at s = and_then (fraction 9 text at) (λ value next. Ok (record s { nanosecond = value }, next))
part_read (PointFraction most) text at s = and_then (optional_fraction (min most 9) text at) (λ value next. Ok (record s { nanosecond = value }, next))
part_read (Zone colon) text at s = and_then (zone colon text at) (λ value next. Ok (record s { offset = value }, next))
part_read UnpaddedMonth text at s = and_then (unpadded 12 text at) (λ value next. Ok (record s { month = value }, next))
part_read FullMonthName text at s = and_then (full_name_at month_name_table text at) (λ value next. Ok (record s { month = value }, next))
part_read UnpaddedDay text at s = and_then (unpadded 31 text at) (λ value next. Ok (record s { day = value }, next))
part_read FullWeekdayName text at s = and_then (full_name_at day_name_table text at) (λ value next. Ok (s, next))
part_read UnpaddedTwelveHour text at s = and_then (unpadded 12 text at) (λ value next. Ok (record s { hour = value }, next))
part_read (FixedFraction digits) text at s = and_then (fixed_fraction (min digits 9) text at) (λ value next. Ok (record s { nanosecond = value }, next))
part_read FractionPoint text at s = and_then (fraction_point text at) (λ value next. Ok (record s { nanosecond = value }, next))
part_read (Offset colon) text at s = and_then (signed colon text at) (λ value next. Ok (record s { offset = value }, next))
part_read ZoneName text at s = and_then (zone_name text at) (λ value next. Ok (record s { offset = value }, next))

abbrev pub parts_read : List Part → List ℕ → ℕ → Said → Reading Said
parts_read [] text at s = Ok (s, at)
parts_read (part ∷ parts) text at s = and_then (part_read part text at s) (λ said next. parts_read parts text next said)

-- what is said before anything is read: times of day that are absent are 0
abbrev pub nothing_said : ℤ → Said
nothing_said location = record { year = 0; month = 0; day = 0; clock = Full; hour = 0; minute = 0; second = 0; nanosecond = 0; offset = location }

-- a text has no more than the parts
abbrev pub whole : List ℕ → Said → ℕ → Reading Said
whole text s at = (if nat_lt at (length text) then Err (Mismatch at) else Ok (s, at))

-- what a text says whose parts these are, where it is said at this distance from UTC unless it has a zone
abbrev pub layout_read : List Part → ℤ → List ℕ → Reading Said
layout_read parts location text = and_then (parts_read parts text 0 (nothing_said location)) (whole text)
