-- The parts that a layout's text spells, byte by byte, or the place where it is wrong.
use Rattle.std.specs.Prelude.{ℕ, ◌+◌, List, [], ◌∷◌, ◌++◌, Bool, true, false, not, ◌&&◌, ◌==◌, if◌then◌else◌, Option, Some, None, option_map, option_and_then, Result, Ok, Err}
use Rattle.time_layout.specs.declared.directives.Given.{Given}
use Rattle.time_layout.specs.declared.parts.Colon.TheVariants.{Optional}
use Rattle.time_layout.specs.declared.parts.Part.{Part}
use Rattle.time_layout.specs.declared.parts.Part.TheVariants.{Literal, Year, ShortYear, Month, MonthName, Day, PaddedDay, WeekdayName, Hour, TwelveHour, Meridiem, Minute, Second, Fraction, PointFraction, Zone, UnpaddedMonth, FullMonthName, UnpaddedDay, FullWeekdayName, UnpaddedTwelveHour, FixedFraction, FractionPoint, Offset, ZoneName}

-- the part for which a byte behind a percent sign stands
abbrev pub part_of : ℕ → Option Part
part_of byte =
    (if byte == 37 then Some (Literal 37) else
    (if byte == 89 then Some Year else
    (if byte == 121 then Some ShortYear else
    (if byte == 109 then Some Month else
    (if byte == 98 then Some MonthName else
    (if byte == 100 then Some Day else
    (if byte == 101 then Some PaddedDay else
    (if byte == 97 then Some WeekdayName else
    (if byte == 72 then Some Hour else
    (if byte == 73 then Some TwelveHour else
    (if byte == 112 then Some Meridiem else
    (if byte == 77 then Some Minute else
    (if byte == 83 then Some Second else
    (if byte == 76 then Some Fraction else
    (if byte == 102 then Some Fraction else
    (if byte == 122 then Some (Zone Optional) else None))))))))))))))))

-- `%T` is `%H:%M:%S`
abbrev pub clock_parts : List Part
clock_parts = Hour ∷ Literal 58 ∷ Minute ∷ Literal 58 ∷ Second ∷ []

abbrev pub parts_of : ℕ → Option (List Part)
parts_of byte = (if byte == 84 then Some clock_parts else option_map (λ part. part ∷ []) (part_of byte))

abbrev pub nothing_given : Given
nothing_given = record { year = false; month = false; day = false; weekday = false; hour = false; twelve = false; meridiem = false; minute = false; second = false; fraction = false; zone = false }

abbrev pub once : Bool → Given → Option Given
once twice given = (if twice then None else Some given)

-- what is given with one part more, where it gives nothing twice
abbrev pub with_part : Part → Given → Option Given
with_part (Literal byte) g = Some g
with_part Year g = once g.year (record g { year = true })
with_part ShortYear g = once g.year (record g { year = true })
with_part Month g = once g.month (record g { month = true })
with_part MonthName g = once g.month (record g { month = true })
with_part Day g = once g.day (record g { day = true })
with_part PaddedDay g = once g.day (record g { day = true })
with_part WeekdayName g = once g.weekday (record g { weekday = true })
with_part Hour g = once g.hour (record g { hour = true })
with_part TwelveHour g = once g.hour (record g { hour = true; twelve = true })
with_part Meridiem g = once g.meridiem (record g { meridiem = true })
with_part Minute g = once g.minute (record g { minute = true })
with_part Second g = once g.second (record g { second = true })
with_part Fraction g = once g.fraction (record g { fraction = true })
with_part (PointFraction most) g = once g.fraction (record g { fraction = true })
with_part (Zone colon) g = once g.zone (record g { zone = true })
with_part UnpaddedMonth g = once g.month (record g { month = true })
with_part FullMonthName g = once g.month (record g { month = true })
with_part UnpaddedDay g = once g.day (record g { day = true })
with_part FullWeekdayName g = once g.weekday (record g { weekday = true })
with_part UnpaddedTwelveHour g = once g.hour (record g { hour = true; twelve = true })
with_part (FixedFraction digits) g = once g.fraction (record g { fraction = true })
with_part FractionPoint g = once g.fraction (record g { fraction = true })
with_part (Offset colon) g = once g.zone (record g { zone = true })
with_part ZoneName g = once g.zone (record g { zone = true })

-- a year, a month and a day, and both of `%I` and `%p` or none
abbrev pub is_complete : Given → Bool
is_complete g = g.year && g.month && g.day && (if g.twelve then g.meridiem else not g.meridiem)

-- what is read of a layout: its parts, what they give, and the place of a percent sign that is the last byte
pub record Draft : Type 0 where
  pub parts : List Part
  pub given : Given
  pub percent : Option ℕ

abbrev pub start : Draft
start = record { parts = []; given = nothing_given; percent = None }

abbrev pub added : List Part → Draft → Option Draft
added [] s = Some s
added (part ∷ parts) s = option_and_then (λ given. added parts (record s { given = given; parts = s.parts ++ part ∷ [] })) (with_part part s.given)

abbrev pub or_fault : ℕ → Option Draft → Result Draft ℕ
or_fault place None = Err place
or_fault place (Some s) = Ok s

abbrev pub directed : Draft → ℕ → Option Draft
directed s byte = option_and_then (λ parts. added parts s) (parts_of byte)

abbrev pub step_in : Option ℕ → Draft → ℕ → ℕ → Result Draft ℕ
step_in None s at byte = (if byte == 37 then Ok (record s { percent = Some at }) else Ok (record s { parts = s.parts ++ Literal byte ∷ [] }))
step_in (Some place) s at byte = or_fault place (directed (record s { percent = None }) byte)

-- with the byte at this place
abbrev pub step : Draft → ℕ → ℕ → Result Draft ℕ
step s at byte = step_in s.percent s at byte

abbrev pub finished_in : Option ℕ → Draft → ℕ → Result (List Part) ℕ
finished_in None s at = (if is_complete s.given then Ok s.parts else Err at)
finished_in (Some place) s at = Err place

-- at the text's end
abbrev pub finished : Draft → ℕ → Result (List Part) ℕ
finished s at = finished_in s.percent s at

abbrev pub stepped : Result Draft ℕ → (Draft → Result (List Part) ℕ) → Result (List Part) ℕ
stepped (Ok s) rest = rest s
stepped (Err place) rest = Err place

abbrev pub layout_from : List ℕ → ℕ → Draft → Result (List Part) ℕ
layout_from [] at s = finished s at
layout_from (byte ∷ text) at s = stepped (step s at byte) (λ next. layout_from text (at + 1) next)

-- the parts of a layout, or the place of its fault
abbrev pub layout_parts : List ℕ → Result (List Part) ℕ
layout_parts text = layout_from text 0 start
