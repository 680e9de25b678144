-- The parts that a layout of Go's package `time` spells: it is written as the package's reference time, 2006-01-02 15:04:05 at
-- seven hours west of UTC, and each name of `gotime_table` stands for the part of it that it shows.
use Rattle.std.specs.Prelude.{ℕ, zero, suc, ◌+◌, ◌-◌, List, [], ◌∷◌, ◌++◌, length, take, drop, slice_index, bytes_eq, Bool, false, ◌==◌, ◌&&◌, nat_lt, nat_le, if◌then◌else◌, Option, Some, None, option_map, option_and_then, Result, Ok, Err}
use Rattle.std.specs.Char.{is_ascii_digit}
use Rattle.case_table.specs.Rows.{first_code}
use Rattle.case_table.specs.Tables.{gotime_table}
use Rattle.time_layout.specs.declared.directives.Given.{Given}
use Rattle.time_layout.specs.declared.go_layouts.Symbol.{Symbol}
use Rattle.time_layout.specs.declared.parts.Colon.TheVariants.{Required, Missing}
use Rattle.time_layout.specs.declared.parts.Part.{Part}
use Rattle.time_layout.specs.declared.parts.Part.TheVariants.{Literal, Year, ShortYear, Month, MonthName, Day, PaddedDay, WeekdayName, Hour, TwelveHour, Meridiem, Minute, Second, PointFraction, Zone, UnpaddedMonth, FullMonthName, UnpaddedDay, FullWeekdayName, UnpaddedTwelveHour, FixedFraction, FractionPoint, Offset, ZoneName}
use Rattle.time_layout.specs.Atoms.{stands}
use Rattle.time_layout.specs.LayoutText.{with_part, is_complete, nothing_given}

-- the part for which the name with this code stands
abbrev pub part_named : ℕ → Part
part_named code =
    (if code == 1 then Offset Missing else
    (if code == 2 then Offset Required else
    (if code == 3 then FixedFraction 3 else
    (if code == 4 then FixedFraction 6 else
    (if code == 5 then FixedFraction 9 else
    (if code == 6 then Month else
    (if code == 7 then Day else
    (if code == 8 then TwelveHour else
    (if code == 9 then Minute else
    (if code == 10 then Second else
    (if code == 11 then ShortYear else
    (if code == 12 then UnpaddedMonth else
    (if code == 13 then Hour else
    (if code == 14 then UnpaddedDay else
    (if code == 15 then Year else
    (if code == 16 then UnpaddedTwelveHour else
    (if code == 17 then MonthName else
    (if code == 18 then FullMonthName else
    (if code == 19 then ZoneName else
    (if code == 20 then WeekdayName else
    (if code == 21 then FullWeekdayName else
    (if code == 22 then Meridiem else
    (if code == 23 then Zone Missing else
    (if code == 24 then Zone Required else PaddedDay))))))))))))))))))))))))

-- the code of the name that is just so many bytes of the text
abbrev pub name_of : ℕ → List ℕ → Option ℕ
name_of size text = if nat_lt (length text) size then None else first_code (bytes_eq (take size text)) gotime_table

abbrev pub named_before : Option ℕ → ℕ → Option (ℕ × ℕ) → Option (ℕ × ℕ)
named_before None size shorter = shorter
named_before (Some code) size shorter = Some (code, size)

-- the code and the length of the longest name of at most so many bytes with which the text begins
abbrev pub longest : ℕ → List ℕ → Option (ℕ × ℕ)
longest zero text = None
longest (suc size) text = named_before (name_of (suc size) text) (suc size) (longest size text)

-- the longest name; none has more bytes than `.000000000`
unfoldable pub longest_name : List ℕ → Option (ℕ × ℕ)
longest_name text = longest 10 text

abbrev pub is_fraction : Option (ℕ × ℕ) → Bool
is_fraction None = false
is_fraction (Some name) = nat_le 3 name.0 && nat_le name.0 5

abbrev pub symbol_with : Part → Option Part → ℕ → Symbol
symbol_with part more size = record { part = part; more = more; size = size }

-- `05`, which has so many bytes, before the text behind it: where no fraction is named there, a time may have one, also before
-- a point
abbrev pub second_before : List ℕ → ℕ → Symbol
second_before behind size =
    if is_fraction (longest_name behind) then symbol_with Second None size
    else (if stands 46 behind 0 then symbol_with Second (Some FractionPoint) (size + 1) else symbol_with Second (Some (PointFraction 9)) size)

abbrev pub named_symbol : List ℕ → ℕ → ℕ → Symbol
named_symbol text code size = if code == 10 then second_before (drop size text) size else symbol_with (part_named code) None size

abbrev pub symbol_in : Option (ℕ × ℕ) → List ℕ → Option Symbol
symbol_in (Some name) text = Some (named_symbol text name.0 name.1)
symbol_in None text = if is_ascii_digit (slice_index text 0) then None else Some (symbol_with (Literal (slice_index text 0)) None 1)

-- what a text begins with: the longest name, or a byte that stands for itself, which no digit does
unfoldable pub symbol_at : List ℕ → Option Symbol
symbol_at text = symbol_in (longest_name text) text

abbrev pub parts_with : Part → Option Part → List Part
parts_with part None = part ∷ []
parts_with part (Some more) = part ∷ more ∷ []

-- what is read of a layout: its parts, what they give, and how many bytes of the last name are still to be passed over
pub record NameDraft : Type 0 where
  pub parts : List Part
  pub given : Given
  pub inside : ℕ

abbrev pub names_start : NameDraft
names_start = record { parts = []; given = nothing_given; inside = 0 }

-- with one name more, where it gives nothing twice
abbrev pub with_symbol : Symbol → NameDraft → Option NameDraft
with_symbol symbol s =
    option_map (λ given. record { parts = s.parts ++ parts_with symbol.part symbol.more; given = given; inside = symbol.size - 1 })
    (with_part symbol.part s.given)

abbrev pub or_place : ℕ → Option NameDraft → Result NameDraft ℕ
or_place at None = Err at
or_place at (Some s) = Ok s

abbrev pub step_inside : ℕ → NameDraft → ℕ → List ℕ → Result NameDraft ℕ
step_inside zero s at text = or_place at (option_and_then (λ found. with_symbol found s) (symbol_at text))
step_inside (suc inside) s at text = Ok (record s { inside = inside })

-- with the byte at this place, from which on the text is this
abbrev pub names_step : NameDraft → ℕ → List ℕ → Result NameDraft ℕ
names_step s at text = step_inside s.inside s at text

abbrev pub names_stepped : Result NameDraft ℕ → (NameDraft → Result NameDraft ℕ) → Result NameDraft ℕ
names_stepped (Ok s) rest = rest s
names_stepped (Err at) rest = Err at

abbrev pub names_finished : NameDraft → ℕ → Result NameDraft ℕ
names_finished s at = if is_complete s.given then Ok s else Err at

abbrev pub names_from : List ℕ → ℕ → NameDraft → Result NameDraft ℕ
names_from [] at s = names_finished s at
names_from (byte ∷ text) at s = names_stepped (names_step s at (byte ∷ text)) (λ next. names_from text (at + 1) next)

-- what a layout gives, or the place of its fault
abbrev pub go_draft : List ℕ → Result NameDraft ℕ
go_draft text = names_from text 0 names_start

abbrev pub drafted_parts : Result NameDraft ℕ → Result (List Part) ℕ
drafted_parts (Ok s) = Ok s.parts
drafted_parts (Err at) = Err at

-- the parts of a layout, or the place of its fault
abbrev pub go_parts : List ℕ → Result (List Part) ℕ
go_parts text = drafted_parts (go_draft text)
