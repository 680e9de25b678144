-- A time as a text of a layout.
use Rattle.std.specs.Prelude.{◌≡◌, ◌≢◌, ℕ, zero, suc, ◌+◌, ◌-◌, ◌*◌, ◌/◌, ◌%◌, ◌^◌, ◌<◌, ◌≤◌, min, List, [], ◌∷◌, ◌++◌, ◌==◌, nat_lt, if◌then◌else◌, codes, ℤ, pos, negsuc, nat_abs, ⊤}
use Rattle.case_table.specs.Rows.{Named}
use Rattle.case_table.specs.Tables.{month_table, month_name_table, day_name_table}
use Rattle.jiff_core.specs.Calendar.{days_from_civil, weekday_number}
use Rattle.time_layout.specs.declared.parts.Clock.{Clock}
use Rattle.time_layout.specs.declared.parts.Clock.TheVariants.{Full, Am, Pm}
use Rattle.time_layout.specs.declared.parts.Colon.{Colon}
use Rattle.time_layout.specs.declared.parts.Colon.TheVariants.{Optional, Required, Missing}
use Rattle.time_layout.specs.declared.parts.Part.{Part}
use Rattle.time_layout.specs.declared.parts.Part.TheVariants.{Literal, Year, ShortYear, Month, MonthName, Day, PaddedDay, WeekdayName, Hour, TwelveHour, Meridiem, Minute, Second, Fraction, PointFraction, Zone, UnpaddedMonth, FullMonthName, UnpaddedDay, FullWeekdayName, UnpaddedTwelveHour, FixedFraction, FractionPoint, Offset, ZoneName}
use Rattle.time_layout.specs.declared.parts.Said.{Said}
use Rattle.time_layout.specs.Names.{weekday_table, meridiem_table}

-- the last so many decimal digits of a number
abbrev pub digits_text : ℕ → ℕ → List ℕ
digits_text zero n = []
digits_text (suc width) n = digits_text width (n / 10) ++ (48 + n % 10) ∷ []

-- the first name with this code
abbrev pub name_text : List Named → ℕ → List ℕ
name_text [] code = []
name_text (row ∷ rows) code = (if row.1 == code then row.0 else name_text rows code)

abbrev pub clock_code : Clock → ℕ
clock_code Full = 0
clock_code Am = 1
clock_code Pm = 2

abbrev pub minutes_text : Colon → ℕ → List ℕ
minutes_text Optional minutes = 58 ∷ digits_text 2 minutes
minutes_text Required minutes = 58 ∷ digits_text 2 minutes
minutes_text Missing minutes = digits_text 2 minutes

abbrev pub offset_text : Colon → ℕ → List ℕ
offset_text colon seconds = digits_text 2 (seconds / 3600) ++ minutes_text colon (seconds % 3600 / 60)

abbrev pub zone_text : Colon → ℤ → List ℕ
zone_text colon (pos seconds) = 43 ∷ offset_text colon seconds
zone_text colon (negsuc n) = 45 ∷ offset_text colon (suc n)

-- the code of the day's weekday, from 1 for Monday
abbrev pub weekday_code : Said → ℕ
weekday_code s = weekday_number (days_from_civil (pos s.year) s.month s.day) + 1

abbrev pub part_text : Part → Said → List ℕ
part_text (Literal byte) s = byte ∷ []
part_text Year s = digits_text 4 s.year
part_text ShortYear s = digits_text 2 (s.year % 100)
part_text Month s = digits_text 2 s.month
part_text MonthName s = name_text month_table s.month
part_text Day s = digits_text 2 s.day
part_text PaddedDay s = (if nat_lt s.day 10 then 32 ∷ digits_text 1 s.day else digits_text 2 s.day)
part_text WeekdayName s = name_text weekday_table (weekday_code s)
part_text Hour s = digits_text 2 s.hour
part_text TwelveHour s = digits_text 2 s.hour
part_text Meridiem s = name_text meridiem_table (clock_code s.clock)
part_text Minute s = digits_text 2 s.minute
part_text Second s = digits_text 2 s.second
part_text Fraction s = digits_text 9 s.nanosecond
part_text (PointFraction most) s = 46 ∷ digits_text 9 s.nanosecond
part_text (Zone colon) s = zone_text colon s.offset
part_text UnpaddedMonth s = digits_text 2 s.month
part_text FullMonthName s = name_text month_name_table s.month
part_text UnpaddedDay s = digits_text 2 s.day
part_text FullWeekdayName s = name_text day_name_table (weekday_code s)
part_text UnpaddedTwelveHour s = digits_text 2 s.hour
part_text (FixedFraction digits) s = 46 ∷ digits_text (min digits 9) (s.nanosecond / 10 ^ (9 - min digits 9))
part_text FractionPoint s = 46 ∷ (digits_text 9 s.nanosecond ++ 46 ∷ [])
part_text (Offset colon) s = zone_text colon s.offset
part_text ZoneName s = codes "UTC"

-- the part has a text for what is said
abbrev pub CanTell : Part → Said → Type 0
CanTell (Literal byte) s = ⊤
CanTell Year s = s.year ≤ 9999
CanTell ShortYear s = (1969 ≤ s.year) × (s.year ≤ 2068)
CanTell Month s = (1 ≤ s.month) × (s.month ≤ 12)
CanTell MonthName s = (1 ≤ s.month) × (s.month ≤ 12)
CanTell Day s = (1 ≤ s.day) × (s.day ≤ 31)
CanTell PaddedDay s = (1 ≤ s.day) × (s.day ≤ 31)
CanTell WeekdayName s = ⊤
CanTell Hour s = s.hour ≤ 23
CanTell TwelveHour s = (1 ≤ s.hour) × (s.hour ≤ 12)
CanTell Meridiem s = s.clock ≢ Full
CanTell Minute s = s.minute ≤ 59
CanTell Second s = s.second ≤ 59
CanTell Fraction s = s.nanosecond < 1_000_000_000
CanTell (PointFraction most) s = (s.nanosecond < 1_000_000_000) × (9 ≤ most)
CanTell (Zone colon) s = (nat_abs s.offset < 86_400) × (nat_abs s.offset % 60 ≡ 0)
CanTell UnpaddedMonth s = (1 ≤ s.month) × (s.month ≤ 12)
CanTell FullMonthName s = (1 ≤ s.month) × (s.month ≤ 12)
CanTell UnpaddedDay s = (1 ≤ s.day) × (s.day ≤ 31)
CanTell FullWeekdayName s = ⊤
CanTell UnpaddedTwelveHour s = (1 ≤ s.hour) × (s.hour ≤ 12)
CanTell (FixedFraction digits) s = (s.nanosecond < 1_000_000_000) × (s.nanosecond / 10 ^ (9 - min digits 9) * 10 ^ (9 - min digits 9) ≡ s.nanosecond)
CanTell FractionPoint s = s.nanosecond < 1_000_000_000
CanTell (Offset colon) s = (nat_abs s.offset < 86_400) × (nat_abs s.offset % 60 ≡ 0)
CanTell ZoneName s = s.offset ≡ pos 0

-- what was said before, with what the part tells
abbrev pub told : Part → Said → Said → Said
told (Literal byte) s before = before
told Year s before = record before { year = s.year }
told ShortYear s before = record before { year = s.year }
told Month s before = record before { month = s.month }
told MonthName s before = record before { month = s.month }
told Day s before = record before { day = s.day }
told PaddedDay s before = record before { day = s.day }
told WeekdayName s before = before
told Hour s before = record before { hour = s.hour }
told TwelveHour s before = record before { hour = s.hour }
told Meridiem s before = record before { clock = s.clock }
told Minute s before = record before { minute = s.minute }
told Second s before = record before { second = s.second }
told Fraction s before = record before { nanosecond = s.nanosecond }
told (PointFraction most) s before = record before { nanosecond = s.nanosecond }
told (Zone colon) s before = record before { offset = s.offset }
told UnpaddedMonth s before = record before { month = s.month }
told FullMonthName s before = record before { month = s.month }
told UnpaddedDay s before = record before { day = s.day }
told FullWeekdayName s before = before
told UnpaddedTwelveHour s before = record before { hour = s.hour }
told (FixedFraction digits) s before = record before { nanosecond = s.nanosecond }
told FractionPoint s before = record before { nanosecond = s.nanosecond }
told (Offset colon) s before = record before { offset = s.offset }
told ZoneName s before = record before { offset = s.offset }

abbrev pub printed : List Part → Said → List ℕ
printed [] s = []
printed (part ∷ parts) s = part_text part s ++ printed parts s

abbrev pub told_by : List Part → Said → Said → Said
told_by [] s before = before
told_by (part ∷ parts) s before = told_by parts s (told part s before)

abbrev pub CanTellBy : List Part → Said → Type 0
CanTellBy [] s = ⊤
CanTellBy (part ∷ parts) s = CanTell part s × CanTellBy parts s
