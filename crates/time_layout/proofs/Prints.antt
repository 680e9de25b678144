-- What is printed is a text of the parts.
use Rattle.std.proofs.Common.{◌≡◌, ◌≢◌, ◌∙◌, sym, ap, refl, ℕ, zero, suc, ◌+◌, ◌-◌, ◌*◌, ◌/◌, ◌%◌, ◌^◌, ◌<◌, ◌≤◌, min, List, [], ◌∷◌, length, Bool, true, false, cond, nat_lt, ℤ, pos, negsuc, nat_abs, Ok, ◌⊎◌, inl, inr, arith}
use Rattle.std.proofs.Math.Nat.{pow-le-pow_right, mul-one, mul-le-mul_right}
use Rattle.std.proofs.lemmas.Nat.{pow-add}
use Rattle.std.proofs.lemmas.Bool.{ltb-true, cases_lt}
use Rattle.std.proofs.lemmas.Bool.Decides.{nat_tests}
use Rattle.case_table.specs.Tables.{month_table, month_name_table, day_name_table}
use Rattle.jiff_core.specs.Calendar.{days_from_civil}
use Rattle.jiff_core.proofs.CalendarLemmas.{weekday_number_bound}
use Rattle.time_layout.specs.declared.parts.Clock.{Clock}
use Rattle.time_layout.specs.declared.parts.Clock.TheVariants.{Full, Am, Pm}
use Rattle.time_layout.specs.declared.parts.Colon.{Colon}
use Rattle.time_layout.specs.declared.parts.Colon.TheVariants.{Optional, Required, Missing}
use Rattle.time_layout.specs.declared.parts.Part.{Part}
use Rattle.time_layout.specs.declared.parts.Part.TheVariants.{Literal, Year, ShortYear, Month, MonthName, Day, PaddedDay, WeekdayName, Hour, TwelveHour, Meridiem, Minute, Second, Fraction, PointFraction, Zone, UnpaddedMonth, FullMonthName, UnpaddedDay, FullWeekdayName, UnpaddedTwelveHour, FixedFraction, FractionPoint, Offset, ZoneName}
use Rattle.time_layout.specs.declared.parts.Said.{Said}
use Rattle.time_layout.specs.Atoms.{value_of}
use Rattle.time_layout.specs.Names.{weekday_table, meridiem_table}
use Rattle.time_layout.specs.Parts.{full_year, clock_of, layout_read, nothing_said}
use Rattle.time_layout.specs.Printed.{digits_text, name_text, minutes_text, offset_text, zone_text, clock_code, weekday_code, part_text, CanTell, CanTellBy, told, told_by, printed}
use Rattle.time_layout.proofs.CompleteParts.{layout_reads}
use Rattle.time_layout.proofs.Numbers.{are_digits, length-digits_text, value_of-digits_text, number_text}
use Rattle.time_layout.specs.Texts.{IsFraction, IsFixedFraction, IsName, IsFullName, IsPaddedDay, AreMinutes, IsOffset, IsSigned, Spells, IsTextOf}

fraction_text : (most n : ℕ) (rest : List ℕ) → most ≡ 9 → n < 1_000_000_000 → IsFraction most (digits_text 9 n) rest n
fraction_text most n rest is small = record {
  all = are_digits 9 n;
  some = omega (arith, length-digits_text 9 n);
  few = omega (arith, length-digits_text 9 n);
  ends = inl (length-digits_text 9 n ∙ sym is);
  value_is = mul-one (value_of (digits_text 9 n)) ∙ value_of-digits_text 9 n small;
}

month_text : (code : ℕ) → 1 ≤ code → code ≤ 12 → IsName month_table 3 (name_text month_table code) code
month_text zero least greatest = absurd (omega arith)
month_text (suc zero) least greatest = record { size_is = refl; named = refl }
month_text (suc (suc zero)) least greatest = record { size_is = refl; named = refl }
month_text (suc (suc (suc zero))) least greatest = record { size_is = refl; named = refl }
month_text (suc (suc (suc (suc zero)))) least greatest = record { size_is = refl; named = refl }
month_text (suc (suc (suc (suc (suc zero))))) least greatest = record { size_is = refl; named = refl }
month_text (suc (suc (suc (suc (suc (suc zero)))))) least greatest = record { size_is = refl; named = refl }
month_text (suc (suc (suc (suc (suc (suc (suc zero))))))) least greatest = record { size_is = refl; named = refl }
month_text (suc (suc (suc (suc (suc (suc (suc (suc zero)))))))) least greatest = record { size_is = refl; named = refl }
month_text (suc (suc (suc (suc (suc (suc (suc (suc (suc zero))))))))) least greatest = record { size_is = refl; named = refl }
month_text (suc (suc (suc (suc (suc (suc (suc (suc (suc (suc zero)))))))))) least greatest = record { size_is = refl; named = refl }
month_text (suc (suc (suc (suc (suc (suc (suc (suc (suc (suc (suc zero))))))))))) least greatest = record { size_is = refl; named = refl }
month_text (suc (suc (suc (suc (suc (suc (suc (suc (suc (suc (suc (suc zero)))))))))))) least greatest = record { size_is = refl; named = refl }
month_text (suc (suc (suc (suc (suc (suc (suc (suc (suc (suc (suc (suc (suc code))))))))))))) least greatest = absurd (omega arith)

weekday_text : (code : ℕ) → 1 ≤ code → code ≤ 7 → IsName weekday_table 3 (name_text weekday_table code) code
weekday_text zero least greatest = absurd (omega arith)
weekday_text (suc zero) least greatest = record { size_is = refl; named = refl }
weekday_text (suc (suc zero)) least greatest = record { size_is = refl; named = refl }
weekday_text (suc (suc (suc zero))) least greatest = record { size_is = refl; named = refl }
weekday_text (suc (suc (suc (suc zero)))) least greatest = record { size_is = refl; named = refl }
weekday_text (suc (suc (suc (suc (suc zero))))) least greatest = record { size_is = refl; named = refl }
weekday_text (suc (suc (suc (suc (suc (suc zero)))))) least greatest = record { size_is = refl; named = refl }
weekday_text (suc (suc (suc (suc (suc (suc (suc zero))))))) least greatest = record { size_is = refl; named = refl }
weekday_text (suc (suc (suc (suc (suc (suc (suc (suc code)))))))) least greatest = absurd (omega arith)

meridiem_text : (code : ℕ) → 1 ≤ code → code ≤ 2 → IsName meridiem_table 2 (name_text meridiem_table code) code
meridiem_text zero least greatest = absurd (omega arith)
meridiem_text (suc zero) least greatest = record { size_is = refl; named = refl }
meridiem_text (suc (suc zero)) least greatest = record { size_is = refl; named = refl }
meridiem_text (suc (suc (suc code))) least greatest = absurd (omega arith)

short_year : (year : ℕ) → 1969 ≤ year → year ≤ 2068 → year ≡ full_year (year % 100)
short_year year least greatest = grind (arith, nat_tests)

padded_day_cases : (test : Bool) (day : ℕ) (rest : List ℕ) → nat_lt day 10 ≡ test → 1 ≤ day → day ≤ 31
    → IsPaddedDay (cond test (32 ∷ digits_text 1 day) (digits_text 2 day)) rest day
padded_day_cases true day rest is least greatest =
    inl (digits_text 1 day, refl, number_text 1 1 31 day (omega (arith, ltb-true day 10 is)) least greatest)
padded_day_cases false day rest is least greatest = inr (inl (number_text 2 1 31 day (omega arith) least greatest))

pub minutes_are_text : (colon : Colon) (minutes : ℕ) → minutes ≤ 59 → AreMinutes colon (minutes_text colon minutes) minutes
minutes_are_text Optional minutes few = inl (digits_text 2 minutes, refl, number_text 2 0 59 minutes (omega arith) (omega arith) few)
minutes_are_text Required minutes few = (digits_text 2 minutes, refl, number_text 2 0 59 minutes (omega arith) (omega arith) few)
minutes_are_text Missing minutes few = number_text 2 0 59 minutes (omega arith) (omega arith) few

offset_is_text : (colon : Colon) (seconds : ℕ) → seconds < 86_400 → seconds % 60 ≡ 0 → IsOffset colon (offset_text colon seconds) seconds
offset_is_text colon seconds small whole = record {
  hours_text = digits_text 2 (seconds / 3600);
  minutes_text = minutes_text colon (seconds % 3600 / 60);
  hours = seconds / 3600;
  minutes = seconds % 3600 / 60;
  is = refl;
  are_hours = number_text 2 0 23 (seconds / 3600) (omega arith) (omega arith) (omega arith);
  are_minutes = minutes_are_text colon (seconds % 3600 / 60) (omega arith);
  seconds_are = omega arith;
}

pub zone_is_text : (colon : Colon) (offset : ℤ) → nat_abs offset < 86_400 → nat_abs offset % 60 ≡ 0 → IsSigned colon (zone_text colon offset) offset
zone_is_text colon (pos seconds) small whole = inl (offset_text colon seconds, seconds, refl, refl, offset_is_text colon seconds small whole)
zone_is_text colon (negsuc n) small whole = inr (offset_text colon (suc n), suc n, refl, refl, offset_is_text colon (suc n) small whole)

meridiem_is_text : (clock : Clock) → clock ≢ Full
    → (code : ℕ) × IsName meridiem_table 2 (name_text meridiem_table (clock_code clock)) code × (clock ≡ clock_of code)
meridiem_is_text Full half = absurd (half refl)
meridiem_is_text Am half = (1, meridiem_text 1 (omega arith) (omega arith), refl)
meridiem_is_text Pm half = (2, meridiem_text 2 (omega arith) (omega arith), refl)

full_month_text : (code : ℕ) → 1 ≤ code → code ≤ 12 → IsFullName month_name_table (name_text month_name_table code) code
full_month_text zero least greatest = absurd (omega arith)
full_month_text (suc zero) least greatest = refl
full_month_text (suc (suc zero)) least greatest = refl
full_month_text (suc (suc (suc zero))) least greatest = refl
full_month_text (suc (suc (suc (suc zero)))) least greatest = refl
full_month_text (suc (suc (suc (suc (suc zero))))) least greatest = refl
full_month_text (suc (suc (suc (suc (suc (suc zero)))))) least greatest = refl
full_month_text (suc (suc (suc (suc (suc (suc (suc zero))))))) least greatest = refl
full_month_text (suc (suc (suc (suc (suc (suc (suc (suc zero)))))))) least greatest = refl
full_month_text (suc (suc (suc (suc (suc (suc (suc (suc (suc zero))))))))) least greatest = refl
full_month_text (suc (suc (suc (suc (suc (suc (suc (suc (suc (suc zero)))))))))) least greatest = refl
full_month_text (suc (suc (suc (suc (suc (suc (suc (suc (suc (suc (suc zero))))))))))) least greatest = refl
full_month_text (suc (suc (suc (suc (suc (suc (suc (suc (suc (suc (suc (suc zero)))))))))))) least greatest = refl
full_month_text (suc (suc (suc (suc (suc (suc (suc (suc (suc (suc (suc (suc (suc code))))))))))))) least greatest = absurd (omega arith)

full_weekday_text : (code : ℕ) → 1 ≤ code → code ≤ 7 → IsFullName day_name_table (name_text day_name_table code) code
full_weekday_text zero least greatest = absurd (omega arith)
full_weekday_text (suc zero) least greatest = refl
full_weekday_text (suc (suc zero)) least greatest = refl
full_weekday_text (suc (suc (suc zero))) least greatest = refl
full_weekday_text (suc (suc (suc (suc zero)))) least greatest = refl
full_weekday_text (suc (suc (suc (suc (suc zero))))) least greatest = refl
full_weekday_text (suc (suc (suc (suc (suc (suc zero)))))) least greatest = refl
full_weekday_text (suc (suc (suc (suc (suc (suc (suc zero))))))) least greatest = refl
full_weekday_text (suc (suc (suc (suc (suc (suc (suc (suc code)))))))) least greatest = absurd (omega arith)

-- the front of nine digits is no greater than so many digits can spell
front_fits : (digits front nanos : ℕ) → digits ≤ 9 → nanos < 1_000_000_000 → front * 10 ^ (9 - digits) ≡ nanos → (front < 10 ^ digits) ⊎ (10 ^ digits ≤ front) → front < 10 ^ digits
front_fits digits front nanos few small is (inl below) = below
front_fits digits front nanos few small is (inr past) =
    let most : 10 ^ digits * 10 ^ (9 - digits) ≤ front * 10 ^ (9 - digits) = mul-le-mul_right (10 ^ (9 - digits)) past in
    let nine : digits + (9 - digits) ≡ 9 = omega arith in
    let all : 10 ^ digits * 10 ^ (9 - digits) ≡ 10 ^ 9 = sym (pow-add 10 digits (9 - digits)) ∙ ap (λ n. 10 ^ n) nine in
    absurd (omega arith)

fixed_fraction_text : (digits front nanos : ℕ) → digits ≤ 9 → nanos < 1_000_000_000 → front * 10 ^ (9 - digits) ≡ nanos
    → IsFixedFraction digits (46 ∷ digits_text digits front) nanos
fixed_fraction_text digits front nanos few small is =
    let fits = front_fits digits front nanos few small is (cases_lt front (10 ^ digits)) in
    let most : 10 ^ digits ≤ 10 ^ 9 = pow-le-pow_right (omega arith) few in
    record {
      behind = digits_text digits front;
      value = front;
      is = refl;
      number = number_text digits 0 999_999_999 front fits (omega arith) (omega arith);
      nanos_are = sym is;
    }

pub part_prints : (part : Part) (s before : Said) (rest : List ℕ) → CanTell part s → Spells part (part_text part s) rest before (told part s before)
part_prints (Literal byte) s before rest can = (refl, refl)
part_prints Year s before rest can = (s.year, number_text 4 0 9999 s.year (omega arith) (omega arith) can, refl)
part_prints ShortYear s before rest can =
    (s.year % 100, number_text 2 0 99 (s.year % 100) (omega arith) (omega arith) (omega arith), ap (λ year. record before { year = year }) (short_year s.year can.0 can.1))
part_prints Month s before rest can = (s.month, number_text 2 1 12 s.month (omega arith) can.0 can.1, refl)
part_prints MonthName s before rest can = (s.month, month_text s.month can.0 can.1, refl)
part_prints Day s before rest can = (s.day, number_text 2 1 31 s.day (omega arith) can.0 can.1, refl)
part_prints PaddedDay s before rest can = (s.day, padded_day_cases (nat_lt s.day 10) s.day rest refl can.0 can.1, refl)
part_prints WeekdayName s before rest can = (weekday_code s, weekday_text (weekday_code s) (omega arith) (omega (arith, weekday_number_bound (days_from_civil (pos s.year) s.month s.day))), refl)
part_prints Hour s before rest can = (s.hour, number_text 2 0 23 s.hour (omega arith) (omega arith) can, refl)
part_prints TwelveHour s before rest can = (s.hour, number_text 2 1 12 s.hour (omega arith) can.0 can.1, refl)
part_prints Meridiem s before rest can =
    let is = meridiem_is_text s.clock can in (is.0, is.1, ap (λ clock. record before { clock = clock }) is.2)
part_prints Minute s before rest can = (s.minute, number_text 2 0 59 s.minute (omega arith) (omega arith) can, refl)
part_prints Second s before rest can = (s.second, number_text 2 0 59 s.second (omega arith) (omega arith) can, refl)
part_prints Fraction s before rest can = (s.nanosecond, fraction_text 9 s.nanosecond rest refl can, refl)
part_prints (PointFraction most) s before rest can =
    inr (digits_text 9 s.nanosecond, s.nanosecond, refl, fraction_text (min most 9) s.nanosecond rest (omega arith) can.0, refl)
part_prints (Zone colon) s before rest can = (s.offset, inr (zone_is_text colon s.offset can.0 can.1), refl)
part_prints UnpaddedMonth s before rest can = (s.month, inl (number_text 2 1 12 s.month (omega arith) can.0 can.1), refl)
part_prints FullMonthName s before rest can = (s.month, full_month_text s.month can.0 can.1, refl)
part_prints UnpaddedDay s before rest can = (s.day, inl (number_text 2 1 31 s.day (omega arith) can.0 can.1), refl)
part_prints FullWeekdayName s before rest can =
    (weekday_code s, full_weekday_text (weekday_code s) (omega arith) (omega (arith, weekday_number_bound (days_from_civil (pos s.year) s.month s.day))), refl)
part_prints UnpaddedTwelveHour s before rest can = (s.hour, inl (number_text 2 1 12 s.hour (omega arith) can.0 can.1), refl)
part_prints (FixedFraction digits) s before rest can =
    (s.nanosecond, fixed_fraction_text (min digits 9) (s.nanosecond / 10 ^ (9 - min digits 9)) s.nanosecond (omega arith) can.0 can.1, refl)
part_prints FractionPoint s before rest can = (s.nanosecond, inr (digits_text 9 s.nanosecond, refl, fraction_text 9 s.nanosecond (46 ∷ rest) refl can), refl)
part_prints (Offset colon) s before rest can = (s.offset, zone_is_text colon s.offset can.0 can.1, refl)
part_prints ZoneName s before rest can = (s.offset, (inr refl, can), refl)

-- what is printed in a layout is a text of it
pub parts_print : (parts : List Part) (s before : Said) → CanTellBy parts s → IsTextOf parts (printed parts s) before (told_by parts s before)
parts_print [] s before can = (refl, refl)
parts_print (part ∷ parts) s before can =
    (part_text part s, printed parts s, told part s before, refl, part_prints part s before (printed parts s) can.0, parts_print parts s (told part s before) can.1)

-- and is read as what it tells
pub prints_back : (parts : List Part) (location : ℤ) (s : Said) → CanTellBy parts s → told_by parts s (nothing_said location) ≡ s
    → layout_read parts location (printed parts s) ≡ Ok (s, length (printed parts s))
prints_back parts location s can all =
    layout_reads parts location (printed parts s) (told_by parts s (nothing_said location)) (parts_print parts s (nothing_said location) can)
    ∙ ap (λ said. Ok (said, length (printed parts s))) all
