-- Where a text can't be read, the bytes before the place begin a text of the parts.
use Rattle.std.proofs.Common.{◌≡◌, ◌∙◌, sym, ap, refl, subst, ℕ, ◌+◌, ◌-◌, ◌*◌, ◌^◌, ◌<◌, ◌≤◌, min, List, [], ◌∷◌, ◌++◌, length, take, drop, Bool, true, false, cond, not, nat_lt, ◌&&◌, Ok, Err, ℤ, pos, ◌⊎◌, inl, inr, arith, append_assoc}
use Rattle.std.proofs.Math.ListN.{length-append}
use Rattle.std.proofs.Math.Nat.{one-le-pow}
use Rattle.std.proofs.lemmas.List.{append-nil, take-append-drop}
use Rattle.std.proofs.lemmas.Bool.{lt-ltb, ltb-true, false≢true}
use Rattle.std.specs.Char.{is_ascii_digit}
use Rattle.std.specs.List.{prefix_len}
use Rattle.case_table.specs.Tables.{month_table, month_name_table, day_name_table}
use Rattle.time_layout.specs.declared.fault.TimeFault.TheVariants.{Mismatch}
use Rattle.time_layout.specs.declared.parts.Part.{Part}
use Rattle.time_layout.specs.declared.parts.Part.TheVariants.{Literal, Year, ShortYear, Month, MonthName, Day, PaddedDay, WeekdayName, Hour, TwelveHour, Meridiem, Minute, Second, Fraction, PointFraction, Zone, UnpaddedMonth, FullMonthName, UnpaddedDay, FullWeekdayName, UnpaddedTwelveHour, FixedFraction, FractionPoint, Offset, ZoneName}
use Rattle.time_layout.specs.declared.parts.Said.{Said}
use Rattle.time_layout.specs.Atoms.{Reading, value_of, stands, number, fraction, name_at, full_name_at, unpadded, padded_day, optional_fraction, fixed_fraction, fraction_point, signed, zone, zone_name}
use Rattle.time_layout.specs.Beginnings.{IsBeginning, begins_with_digit, digit_follows, is_unpadded, has_digits, are_separate}
use Rattle.time_layout.specs.Iso.{rfc3339_parts}
use Rattle.time_layout.specs.Names.{weekday_table, meridiem_table}
use Rattle.time_layout.specs.Parts.{part_read, parts_read, layout_read, nothing_said, whole, full_year, clock_of}
use Rattle.time_layout.specs.Printed.{digits_text, zone_text}
use Rattle.time_layout.specs.Texts.{BeginsNoDigit, IsNumber, IsFraction, IsUnpadded, Spells, IsTextOf}
use Rattle.time_layout.proofs.Begun.{BeginsUpTo, begun_with, begun_here, begun_behind_byte, front_is, first_inside, number_begun, unpadded_begun, padded_day_begun, whole_fraction, fraction_ends, fraction_begun, fixed_of, fixed_fraction_begun, fraction_point_begun, signed_begun, zone_begun, zone_name_begun, zero_point}
use Rattle.time_layout.proofs.BegunNames.{name_begun, full_name_begun}
use Rattle.time_layout.proofs.DeadEnds.{same_place}
use Rattle.time_layout.proofs.DeadForms.{Faulted, faulted}
use Rattle.time_layout.proofs.DeadParts.{said_fault, same_spelling, whole_faults}
use Rattle.time_layout.proofs.Numbers.{are_digits, both_digits, length-digits_text, number_text}
use Rattle.time_layout.proofs.Prints.{zone_is_text}
use Rattle.time_layout.proofs.SoundParts.{part_sound}
use Rattle.time_layout.proofs.Sounds.{Between, both, opened, same_next}

-- own is a text of the part, whatever stands behind it
abbrev pub IsOwn : Part → Said → List ℕ → Type 0
IsOwn part before own = (said : Said) × ((rest : List ℕ) → Spells part own rest before said)

point_of : (most : ℕ) (before : Said) (own : List ℕ) → ((value : ℕ) × ((rest : List ℕ) → IsFraction (min most 9) own rest value))
    → IsOwn (PointFraction most) before (46 ∷ own)
point_of most before own digits = (record before { nanosecond = digits.0 }, λ rest. inr (own, digits.0, refl, digits.1 rest, refl))

point_cases : (there : Bool) (most : ℕ) (text : List ℕ) (at fault : ℕ) (before : Said) → 1 ≤ most → stands 46 text at ≡ there
    → cond {A = Reading ℕ} there (fraction (min most 9) text (at + 1)) (Ok (0, at)) ≡ Err (Mismatch fault)
    → BeginsUpTo text at fault (IsOwn (PointFraction most) before)
point_cases true most text at fault before some there is =
    begun_behind_byte 46 text at fault (λ own. (value : ℕ) × ((rest : List ℕ) → IsFraction (min most 9) own rest value)) (IsOwn (PointFraction most) before) there
    (point_of most before) (fraction_begun (min most 9) text (at + 1) fault (omega arith) is)
point_cases false most text at fault before some there is = cc

literal_cases : (there : Bool) (byte : ℕ) (text : List ℕ) (at fault : ℕ) (before : Said)
    → cond {A = Reading Said} there (Ok (before, at + 1)) (Err (Mismatch at)) ≡ Err (Mismatch fault) → BeginsUpTo text at fault (IsOwn (Literal byte) before)
literal_cases true byte text at fault before is = cc
literal_cases false byte text at fault before is =
    begun_here text (byte ∷ []) at fault (IsOwn (Literal byte) before) (before, λ rest. (refl, refl)) (same_place at fault is)

-- a part that can't be read
part_begun : (part : Part) (text : List ℕ) (at fault : ℕ) (before : Said) → has_digits part ≡ true → part_read part text at before ≡ Err (Mismatch fault)
    → BeginsUpTo text at fault (IsOwn part before)
part_begun (Literal byte) text at fault before some is = literal_cases (stands byte text at) byte text at fault before is
part_begun (PointFraction most) text at fault before some is =
    point_cases (stands 46 text at) most text at fault before (ltb-true 0 most some) refl
    (said_fault (optional_fraction (min most 9) text at) (λ v. record before { nanosecond = v }) fault is)
part_begun Year text at fault before some is =
    begun_with text at fault _ (IsOwn Year before) (λ own holds. (record before { year = holds.0 }, λ rest. (holds.0, holds.1, refl)))
    (number_begun 4 0 9999 text at fault (omega arith) (omega arith) (said_fault (number 4 0 9999 text at) (λ v. record before { year = v }) fault is))
part_begun ShortYear text at fault before some is =
    begun_with text at fault _ (IsOwn ShortYear before) (λ own holds. (record before { year = full_year holds.0 }, λ rest. (holds.0, holds.1, refl)))
    (number_begun 2 0 99 text at fault (omega arith) (omega arith) (said_fault (number 2 0 99 text at) (λ v. record before { year = full_year v }) fault is))
part_begun Month text at fault before some is =
    begun_with text at fault _ (IsOwn Month before) (λ own holds. (record before { month = holds.0 }, λ rest. (holds.0, holds.1, refl)))
    (number_begun 2 1 12 text at fault (omega arith) (omega arith) (said_fault (number 2 1 12 text at) (λ v. record before { month = v }) fault is))
part_begun MonthName text at fault before some is =
    begun_with text at fault _ (IsOwn MonthName before) (λ own holds. (record before { month = holds.0 }, λ rest. (holds.0, holds.1, refl)))
    (name_begun _ _ 3 text at fault refl (said_fault (name_at month_table 3 text at) (λ v. record before { month = v }) fault is))
part_begun Day text at fault before some is =
    begun_with text at fault _ (IsOwn Day before) (λ own holds. (record before { day = holds.0 }, λ rest. (holds.0, holds.1, refl)))
    (number_begun 2 1 31 text at fault (omega arith) (omega arith) (said_fault (number 2 1 31 text at) (λ v. record before { day = v }) fault is))
part_begun PaddedDay text at fault before some is =
    begun_with text at fault _ (IsOwn PaddedDay before) (λ own holds. (record before { day = holds.0 }, λ rest. (holds.0, holds.1 rest, refl)))
    (padded_day_begun text at fault (said_fault (padded_day text at) (λ v. record before { day = v }) fault is))
part_begun WeekdayName text at fault before some is =
    begun_with text at fault _ (IsOwn WeekdayName before) (λ own holds. (before, λ rest. (holds.0, holds.1, refl)))
    (name_begun _ _ 3 text at fault refl (said_fault (name_at weekday_table 3 text at) (λ v. before) fault is))
part_begun Hour text at fault before some is =
    begun_with text at fault _ (IsOwn Hour before) (λ own holds. (record before { hour = holds.0 }, λ rest. (holds.0, holds.1, refl)))
    (number_begun 2 0 23 text at fault (omega arith) (omega arith) (said_fault (number 2 0 23 text at) (λ v. record before { hour = v }) fault is))
part_begun TwelveHour text at fault before some is =
    begun_with text at fault _ (IsOwn TwelveHour before) (λ own holds. (record before { hour = holds.0 }, λ rest. (holds.0, holds.1, refl)))
    (number_begun 2 1 12 text at fault (omega arith) (omega arith) (said_fault (number 2 1 12 text at) (λ v. record before { hour = v }) fault is))
part_begun Meridiem text at fault before some is =
    begun_with text at fault _ (IsOwn Meridiem before) (λ own holds. (record before { clock = clock_of holds.0 }, λ rest. (holds.0, holds.1, refl)))
    (name_begun _ _ 2 text at fault refl (said_fault (name_at meridiem_table 2 text at) (λ v. record before { clock = clock_of v }) fault is))
part_begun Minute text at fault before some is =
    begun_with text at fault _ (IsOwn Minute before) (λ own holds. (record before { minute = holds.0 }, λ rest. (holds.0, holds.1, refl)))
    (number_begun 2 0 59 text at fault (omega arith) (omega arith) (said_fault (number 2 0 59 text at) (λ v. record before { minute = v }) fault is))
part_begun Second text at fault before some is =
    begun_with text at fault _ (IsOwn Second before) (λ own holds. (record before { second = holds.0 }, λ rest. (holds.0, holds.1, refl)))
    (number_begun 2 0 59 text at fault (omega arith) (omega arith) (said_fault (number 2 0 59 text at) (λ v. record before { second = v }) fault is))
part_begun Fraction text at fault before some is =
    begun_with text at fault _ (IsOwn Fraction before) (λ own holds. (record before { nanosecond = holds.0 }, λ rest. (holds.0, holds.1 rest, refl)))
    (fraction_begun 9 text at fault (omega arith) (said_fault (fraction 9 text at) (λ v. record before { nanosecond = v }) fault is))
part_begun (Zone colon) text at fault before some is =
    begun_with text at fault _ (IsOwn (Zone colon) before) (λ own holds. (record before { offset = holds.0 }, λ rest. (holds.0, holds.1, refl)))
    (zone_begun colon text at fault (said_fault (zone colon text at) (λ v. record before { offset = v }) fault is))
part_begun UnpaddedMonth text at fault before some is =
    begun_with text at fault _ (IsOwn UnpaddedMonth before) (λ own holds. (record before { month = holds.0 }, λ rest. (holds.0, holds.1 rest, refl)))
    (unpadded_begun 12 text at fault (omega arith) (said_fault (unpadded 12 text at) (λ v. record before { month = v }) fault is))
part_begun FullMonthName text at fault before some is =
    begun_with text at fault _ (IsOwn FullMonthName before) (λ own holds. (record before { month = holds.0 }, λ rest. (holds.0, holds.1, refl)))
    (full_name_begun _ _ text at fault (said_fault (full_name_at month_name_table text at) (λ v. record before { month = v }) fault is))
part_begun UnpaddedDay text at fault before some is =
    begun_with text at fault _ (IsOwn UnpaddedDay before) (λ own holds. (record before { day = holds.0 }, λ rest. (holds.0, holds.1 rest, refl)))
    (unpadded_begun 31 text at fault (omega arith) (said_fault (unpadded 31 text at) (λ v. record before { day = v }) fault is))
part_begun FullWeekdayName text at fault before some is =
    begun_with text at fault _ (IsOwn FullWeekdayName before) (λ own holds. (before, λ rest. (holds.0, holds.1, refl)))
    (full_name_begun _ _ text at fault (said_fault (full_name_at day_name_table text at) (λ v. before) fault is))
part_begun UnpaddedTwelveHour text at fault before some is =
    begun_with text at fault _ (IsOwn UnpaddedTwelveHour before) (λ own holds. (record before { hour = holds.0 }, λ rest. (holds.0, holds.1 rest, refl)))
    (unpadded_begun 12 text at fault (omega arith) (said_fault (unpadded 12 text at) (λ v. record before { hour = v }) fault is))
part_begun (FixedFraction digits) text at fault before some is =
    begun_with text at fault _ (IsOwn (FixedFraction digits) before) (λ own holds. (record before { nanosecond = holds.0 }, λ rest. (holds.0, holds.1, refl)))
    (fixed_fraction_begun (min digits 9) text at fault (said_fault (fixed_fraction (min digits 9) text at) (λ v. record before { nanosecond = v }) fault is))
part_begun FractionPoint text at fault before some is =
    begun_with text at fault _ (IsOwn FractionPoint before) (λ own holds. (record before { nanosecond = holds.0 }, λ rest. (holds.0, holds.1 rest, refl)))
    (fraction_point_begun text at fault (said_fault (fraction_point text at) (λ v. record before { nanosecond = v }) fault is))
part_begun (Offset colon) text at fault before some is =
    begun_with text at fault _ (IsOwn (Offset colon) before) (λ own holds. (record before { offset = holds.0 }, λ rest. (holds.0, holds.1, refl)))
    (signed_begun colon text at fault (said_fault (signed colon text at) (λ v. record before { offset = v }) fault is))
part_begun ZoneName text at fault before some is =
    begun_with text at fault _ (IsOwn ZoneName before) (λ own holds. (record before { offset = holds.0 }, λ rest. (holds.0, holds.1, refl)))
    (zone_name_begun text at fault (said_fault (zone_name text at) (λ v. record before { offset = v }) fault is))

-- some text of a part: with no digit in front where it can be
abbrev pub Sampled : Part → Type 0
Sampled part = (own : List ℕ) × ((before : Said) → IsOwn part before own) × (begins_with_digit part ≡ false → (more : List ℕ) → BeginsNoDigit (own ++ more))

numbered : (digits low high : ℕ) (part : Part) → low ≤ high → low < 10 ^ digits → begins_with_digit part ≡ true
    → (say : Said → Said) → ((own rest : List ℕ) (before : Said) → IsNumber digits low high own low → Spells part own rest before (say before)) → Sampled part
numbered digits low high part order small first say says = (
  digits_text digits low,
  λ before. (say before, λ rest. says (digits_text digits low) rest before (number_text digits low high low small (omega arith) order)),
  λ none. absurd (false≢true (sym none ∙ first)),
)

other_first : (test : Bool) (n : ℕ) → test ≡ false → cond {A = ℕ} test (1 + n) 0 ≡ 0
other_first test n is = rw is refl

sampled : (part : Part) → has_digits part ≡ true → Sampled part
sampled (Literal byte) some = (byte ∷ [], λ before. (before, λ rest. (refl, refl)), λ none more. other_first (is_ascii_digit byte) (prefix_len is_ascii_digit more) none)
sampled Year some = numbered 4 0 9999 Year (omega arith) (omega arith) refl (λ before. record before { year = 0 }) (λ own rest before n. (0, n, refl))
sampled ShortYear some = numbered 2 0 99 ShortYear (omega arith) (omega arith) refl (λ before. record before { year = full_year 0 }) (λ own rest before n. (0, n, refl))
sampled Month some = numbered 2 1 12 Month (omega arith) (omega arith) refl (λ before. record before { month = 1 }) (λ own rest before n. (1, n, refl))
sampled MonthName some =
    (74 ∷ 97 ∷ 110 ∷ [], λ before. (record before { month = 1 }, λ rest. (1, record { size_is = refl; named = refl }, refl)), λ none more. refl)
sampled Day some = numbered 2 1 31 Day (omega arith) (omega arith) refl (λ before. record before { day = 1 }) (λ own rest before n. (1, n, refl))
sampled PaddedDay some =
    (32 ∷ digits_text 1 1, λ before. (record before { day = 1 }, λ rest. (1, inl (digits_text 1 1, refl, number_text 1 1 31 1 (omega arith) (omega arith) (omega arith)), refl)), λ none more. refl)
sampled WeekdayName some =
    (77 ∷ 111 ∷ 110 ∷ [], λ before. (before, λ rest. (1, record { size_is = refl; named = refl }, refl)), λ none more. refl)
sampled Hour some = numbered 2 0 23 Hour (omega arith) (omega arith) refl (λ before. record before { hour = 0 }) (λ own rest before n. (0, n, refl))
sampled TwelveHour some = numbered 2 1 12 TwelveHour (omega arith) (omega arith) refl (λ before. record before { hour = 1 }) (λ own rest before n. (1, n, refl))
sampled Meridiem some =
    (65 ∷ 77 ∷ [], λ before. (record before { clock = clock_of 1 }, λ rest. (1, record { size_is = refl; named = refl }, refl)), λ none more. refl)
sampled Minute some = numbered 2 0 59 Minute (omega arith) (omega arith) refl (λ before. record before { minute = 0 }) (λ own rest before n. (0, n, refl))
sampled Second some = numbered 2 0 59 Second (omega arith) (omega arith) refl (λ before. record before { second = 0 }) (λ own rest before n. (0, n, refl))
sampled Fraction some =
    let nanos : ℕ = value_of (digits_text 9 0) * 10 ^ (9 - length (digits_text 9 0)) in
    (digits_text 9 0, λ before. (record before { nanosecond = nanos }, λ rest. (nanos, whole_fraction 9 rest (omega arith), refl)), λ none more. absurd (false≢true (sym none)))
sampled (PointFraction most) some =
    let digits = ltb-true 0 most some in
    (46 ∷ digits_text (min most 9) 0, λ before. point_of most before (digits_text (min most 9) 0) (_, λ rest. whole_fraction (min most 9) rest (omega arith)), λ none more. refl)
sampled (Zone colon) some = (90 ∷ [], λ before. (record before { offset = pos 0 }, λ rest. (pos 0, inl (refl, refl), refl)), λ none more. refl)
sampled UnpaddedMonth some = numbered 2 1 12 UnpaddedMonth (omega arith) (omega arith) refl (λ before. record before { month = 1 }) (λ own rest before n. (1, inl n, refl))
sampled FullMonthName some =
    (77 ∷ 97 ∷ 121 ∷ [], λ before. (record before { month = 5 }, λ rest. (5, refl, refl)), λ none more. refl)
sampled UnpaddedDay some = numbered 2 1 31 UnpaddedDay (omega arith) (omega arith) refl (λ before. record before { day = 1 }) (λ own rest before n. (1, inl n, refl))
sampled FullWeekdayName some =
    (77 ∷ 111 ∷ 110 ∷ 100 ∷ 97 ∷ 121 ∷ [], λ before. (before, λ rest. (1, refl, refl)), λ none more. refl)
sampled UnpaddedTwelveHour some = numbered 2 1 12 UnpaddedTwelveHour (omega arith) (omega arith) refl (λ before. record before { hour = 1 }) (λ own rest before n. (1, inl n, refl))
sampled (FixedFraction digits) some =
    let front : List ℕ = digits_text (min digits 9) 0 in
    let fixed = fixed_of (min digits 9) front (0, number_text (min digits 9) 0 999_999_999 0 (one-le-pow (min digits 9) 10 (omega arith)) (omega arith) (omega arith)) in
    (46 ∷ front, λ before. (record before { nanosecond = fixed.0 }, λ rest. (fixed.0, fixed.1, refl)), λ none more. refl)
sampled FractionPoint some = (46 ∷ 48 ∷ 46 ∷ [], λ before. (record before { nanosecond = 0 }, λ rest. (0, zero_point rest, refl)), λ none more. refl)
sampled (Offset colon) some = (zone_text colon (pos 0), λ before. (record before { offset = pos 0 }, λ rest. (pos 0, zone_is_text colon (pos 0) (omega arith) refl, refl)), λ none more. refl)
sampled ZoneName some = (85 ∷ 84 ∷ 67 ∷ [], λ before. (record before { offset = pos 0 }, λ rest. (pos 0, (inr refl, refl), refl)), λ none more. refl)

no_digit_follows : (unpadded follows : Bool) → not (unpadded && follows) ≡ true → unpadded ≡ true → follows ≡ false
no_digit_follows true true is unpadded_is = absurd (false≢true is)
no_digit_follows true false is unpadded_is = refl
no_digit_follows false follows is unpadded_is = absurd (false≢true unpadded_is)

-- what separate parts are
pub record Separate (part : Part) (parts : List Part) : Type 0 where
  pub apart : is_unpadded part ≡ true → digit_follows parts ≡ false
  pub some : has_digits part ≡ true
  pub others : are_separate parts ≡ true

separate : (part : Part) (parts : List Part) → are_separate (part ∷ parts) ≡ true → Separate part parts
separate part parts is =
    let tests = both (not (is_unpadded part && digit_follows parts) && has_digits part) (are_separate parts) is in
    let first = both (not (is_unpadded part && digit_follows parts)) (has_digits part) tests.0 in
    record { apart = no_digit_follows (is_unpadded part) (digit_follows parts) first.0; some = first.1; others = tests.1 }

-- some text of the parts, whatever was said before
abbrev pub SampledText : List Part → Type 0
SampledText parts = (text : List ℕ) × ((before : Said) → (said : Said) × IsTextOf parts text before said) × (digit_follows parts ≡ false → BeginsNoDigit text)

sampled_text : (parts : List Part) → are_separate parts ≡ true → SampledText parts
sampled_text [] is = ([], λ before. (before, (refl, refl)), λ none. refl)
sampled_text (part ∷ parts) is =
    let s = separate part parts is in
    let first = sampled part s.some in
    let later = sampled_text parts s.others in (
      first.0 ++ later.0,
      λ before.
          let own = first.1 before in
          let told = later.1 own.0 in (told.0, (first.0, later.0, own.0, refl, own.1 later.0, told.1)),
      λ none. first.2 none later.0,
    )

-- the text of a part with more digits, where others are to follow
pub record Extended (part : Part) (own rest : List ℕ) (before : Said) : Type 0 where
  pub more : List ℕ
  pub said : Said
  pub spells : Spells part (own ++ more) rest before said

kept : (part : Part) (own rest : List ℕ) (before said : Said) → Spells part own rest before said → Extended part own rest before
kept part own rest before said spells =
    record { more = []; said = said; spells = subst (λ bytes. Spells part bytes rest before said) (sym (append-nil own)) spells }

-- the digits of a fraction, with as many more as may stand there
filled : (most : ℕ) (own rest other : List ℕ) (nanos : ℕ) → IsFraction most own rest nanos
    → IsFraction most (own ++ digits_text (most - length own) 0) other (value_of (own ++ digits_text (most - length own) 0) * 10 ^ (9 - length (own ++ digits_text (most - length own) 0)))
filled most own rest other nanos f =
    let more : List ℕ = digits_text (most - length own) 0 in
    let size : length (own ++ more) ≡ most = omega (arith, f.few, length-append own more, length-digits_text (most - length own) 0) in
    record {
      all = both_digits own more f.all (are_digits (most - length own) 0);
      some = omega (arith, f.some, f.few);
      few = omega arith;
      ends = inl size;
      value_is = refl;
    }

unpadded_on : (high value : ℕ) (own rest other : List ℕ) → IsUnpadded high own rest value → BeginsNoDigit other → IsUnpadded high own other value
unpadded_on high value own rest other (inl two) none = inl two
unpadded_on high value own rest other (inr one) none = inr (one.0, none)

extended : (part : Part) (own rest other : List ℕ) (before said : Said) → has_digits part ≡ true → (is_unpadded part ≡ true → BeginsNoDigit other)
    → Spells part own rest before said → Extended part own other before
extended (Literal byte) own rest other before said some none spells = kept (Literal byte) own other before said spells
extended Year own rest other before said some none spells = kept Year own other before said spells
extended ShortYear own rest other before said some none spells = kept ShortYear own other before said spells
extended Month own rest other before said some none spells = kept Month own other before said spells
extended MonthName own rest other before said some none spells = kept MonthName own other before said spells
extended Day own rest other before said some none spells = kept Day own other before said spells
extended WeekdayName own rest other before said some none spells = kept WeekdayName own other before said spells
extended Hour own rest other before said some none spells = kept Hour own other before said spells
extended TwelveHour own rest other before said some none spells = kept TwelveHour own other before said spells
extended Meridiem own rest other before said some none spells = kept Meridiem own other before said spells
extended Minute own rest other before said some none spells = kept Minute own other before said spells
extended Second own rest other before said some none spells = kept Second own other before said spells
extended (Zone colon) own rest other before said some none spells = kept (Zone colon) own other before said spells
extended FullMonthName own rest other before said some none spells = kept FullMonthName own other before said spells
extended FullWeekdayName own rest other before said some none spells = kept FullWeekdayName own other before said spells
extended (FixedFraction digits) own rest other before said some none spells = kept (FixedFraction digits) own other before said spells
extended (Offset colon) own rest other before said some none spells = kept (Offset colon) own other before said spells
extended ZoneName own rest other before said some none spells = kept ZoneName own other before said spells
extended UnpaddedMonth own rest other before said some none (value, unpadded_is, is) =
    kept UnpaddedMonth own other before said (value, unpadded_on 12 value own rest other unpadded_is (none refl), is)
extended UnpaddedDay own rest other before said some none (value, unpadded_is, is) =
    kept UnpaddedDay own other before said (value, unpadded_on 31 value own rest other unpadded_is (none refl), is)
extended UnpaddedTwelveHour own rest other before said some none (value, unpadded_is, is) =
    kept UnpaddedTwelveHour own other before said (value, unpadded_on 12 value own rest other unpadded_is (none refl), is)
extended PaddedDay own rest other before said some none (day, inl spaced, is) = kept PaddedDay own other before said (day, inl spaced, is)
extended PaddedDay own rest other before said some none (day, inr bare, is) =
    kept PaddedDay own other before said (day, inr (unpadded_on 31 day own rest other bare (none refl)), is)
extended Fraction own rest other before said some none (nanos, f, is) =
    let whole = filled 9 own rest other nanos f in
    record { more = digits_text (9 - length own) 0; said = record before { nanosecond = _ }; spells = (_, whole, refl) }
extended (PointFraction most) own rest other before said some none (inl nothing) =
    let digits = ltb-true 0 most some in
    let front : List ℕ = digits_text (min most 9) 0 in
    let point = point_of most before front (_, λ behind. whole_fraction (min most 9) behind (omega arith)) in
    record { more = 46 ∷ front; said = point.0; spells = subst (λ bytes. Spells (PointFraction most) (bytes ++ 46 ∷ front) other before point.0) (sym nothing.0) (point.1 other) }
extended (PointFraction most) own rest other before said some none (inr f) =
    let whole = filled (min most 9) f.0 rest other f.1 f.3 in
    let front : List ℕ = digits_text (min most 9 - length f.0) 0 in
    record { more = front; said = record before { nanosecond = _ }; spells = inr (f.0 ++ front, _, ap (λ bytes. bytes ++ front) f.2, whole, refl) }
extended FractionPoint own rest other before said some none (nanos, inl point, is) =
    record {
      more = 48 ∷ 46 ∷ [];
      said = record before { nanosecond = 0 };
      spells = subst (λ bytes. Spells FractionPoint (bytes ++ 48 ∷ 46 ∷ []) other before (record before { nanosecond = 0 })) (sym point.0) (0, zero_point other, refl);
    }
extended FractionPoint own rest other before said some none (nanos, inr pointed, is) =
    kept FractionPoint own other before said (nanos, inr (pointed.0, pointed.1, fraction_ends 9 pointed.0 (46 ∷ rest) other nanos pointed.2), is)

-- the bytes begin a text of the parts
abbrev pub BeginsText : List Part → List ℕ → Said → Type 0
BeginsText parts front before = (more : List ℕ) × (said : Said) × IsTextOf parts (front ++ more) before said

-- the bytes from a place up to another begin a text of the parts
abbrev pub BegunText : List Part → List ℕ → ℕ → ℕ → Said → Type 0
BegunText parts text at fault before =
    (at ≤ fault) × (at ≤ length text → fault ≤ length text) × BeginsText parts (take (fault - at) (drop at text)) before

-- a part that was read, and what begins a text of the others
joined : (part : Part) (parts : List Part) (own front x : List ℕ) (before said : Said) → Separate part parts → Spells part own (front ++ x) before said
    → BeginsText parts front said → BeginsText (part ∷ parts) (own ++ front) before
joined part parts own [] x before said s spells later =
    let next = sampled_text parts s.others in
    let whole = extended part own x next.0 before said s.some (λ unpadded_is. next.2 (s.apart unpadded_is)) spells in
    let told = next.1 whole.said in (
      whole.more ++ next.0,
      told.0,
      (
        own ++ whole.more,
        next.0,
        whole.said,
        ap (λ bytes. bytes ++ (whole.more ++ next.0)) (append-nil own) ∙ sym (append_assoc own whole.more next.0),
        whole.spells,
        told.1,
      ),
    )
joined part parts own (byte ∷ front) x before said s spells (more, told, made) = (
  more,
  told,
  (own, byte ∷ (front ++ more), said, append_assoc own (byte ∷ front) more, same_spelling part own byte (front ++ x) (front ++ more) before said spells, made),
)

-- a part that can't be read, and some text of the others
begun_part : (part : Part) (parts : List Part) (text : List ℕ) (at fault : ℕ) (before : Said) → are_separate parts ≡ true
    → BeginsUpTo text at fault (IsOwn part before) → BegunText (part ∷ parts) text at fault before
begun_part part parts text at fault before is begun =
    let next = sampled_text parts is in
    let own = begun.4 in
    let told = next.1 own.0 in (
      begun.0,
      begun.5,
      (
        begun.2 ++ next.0,
        told.0,
        (
          begun.1,
          next.0,
          own.0,
          sym (append_assoc (take (fault - at) (drop at text)) begun.2 next.0) ∙ ap (λ bytes. bytes ++ next.0) (sym begun.3),
          own.1 next.0,
          told.1,
        ),
      ),
    )

begun_later : (part : Part) (parts : List Part) (text : List ℕ) (at next fault : ℕ) (before said : Said) → Separate part parts
    → Between text at next (λ own. Spells part own (drop next text) before said)
    → BegunText parts text next fault said
    → BegunText (part ∷ parts) text at fault before
begun_later part parts text at next fault before said s b (within, inside, later) =
    let front : List ℕ = take (fault - next) (drop next text) in
    let x : List ℕ = drop (fault - next) (drop next text) in
    let spells : Spells part b.own (front ++ x) before said = subst (λ rest. Spells part b.own rest before said) (sym (take-append-drop (fault - next) (drop next text))) b.holds in (
      omega (arith, b.size),
      λ few. inside (first_inside text b.own at next b.splits b.size few),
      subst (λ bytes. BeginsText (part ∷ parts) bytes before) (sym (front_is text b.own at next fault b.splits b.size within))
          (joined part parts b.own front x before said s spells later),
    )

-- what was read up to a place
read_begins : (parts : List Part) (text : List ℕ) (at fault : ℕ) (before said : Said) → are_separate parts ≡ true → parts_read parts text at before ≡ Ok (said, fault)
    → BegunText parts text at fault before
read_begins [] text at fault before said separate_is is =
    let here : at ≡ fault = same_next before said at fault is in
    let none : fault - at ≡ 0 = omega arith in
    (omega arith, λ few. omega arith, ([], before, (ap (λ n. take n (drop at text) ++ []) none, refl)))
read_begins (part ∷ parts) text at fault before said separate_is is =
    let s = separate part parts separate_is in
    let o = opened (part_read part text at before) (λ s end. parts_read parts text end s) said fault is in
    begun_later part parts text at o.next fault before o.value s (part_sound part text at before o.value o.next o.read)
    (read_begins parts text o.next fault o.value said s.others o.then)

fault_or_later : (part : Part) (parts : List Part) (text : List ℕ) (at fault : ℕ) (before : Said) → Separate part parts
    → ((next : ℕ) (said : Said) → parts_read parts text next said ≡ Err (Mismatch fault) → BegunText parts text next fault said)
    → (part_read part text at before ≡ Err (Mismatch fault)) ⊎ Faulted (part_read part text at before) (λ s end. parts_read parts text end s) fault
    → BegunText (part ∷ parts) text at fault before
fault_or_later part parts text at fault before s later (inl is) = begun_part part parts text at fault before s.others (part_begun part text at fault before s.some is)
fault_or_later part parts text at fault before s later (inr read) =
    begun_later part parts text at read.next fault before read.value s (part_sound part text at before read.value read.next read.read) (later read.next read.value read.then)

-- up to a fault
fault_begins : (parts : List Part) (text : List ℕ) (at fault : ℕ) (before : Said) → are_separate parts ≡ true → parts_read parts text at before ≡ Err (Mismatch fault)
    → BegunText parts text at fault before
fault_begins [] text at fault before separate_is is = cc
fault_begins (part ∷ parts) text at fault before separate_is is =
    let s = separate part parts separate_is in
    fault_or_later part parts text at fault before s (λ next said then. fault_begins parts text next fault said s.others then)
    (faulted (part_read part text at before) (λ s end. parts_read parts text end s) fault is)

from_front : (parts : List Part) (location : ℤ) (text : List ℕ) (at : ℕ) → BegunText parts text 0 at (nothing_said location)
    → (at ≤ length text) × IsBeginning parts location (take at text)
from_front parts location text at (within, inside, begins) =
    let far : at - 0 ≡ at = omega arith in
    (inside (omega arith), subst (λ n. BeginsText parts (take n text) (nothing_said location)) far begins)

layout_cases : (parts : List Part) (location : ℤ) (text : List ℕ) (at : ℕ) → are_separate parts ≡ true
    → (parts_read parts text 0 (nothing_said location) ≡ Err (Mismatch at)) ⊎ Faulted (parts_read parts text 0 (nothing_said location)) (whole text) at
    → (at ≤ length text) × IsBeginning parts location (take at text)
layout_cases parts location text at separate_is (inl is) = from_front parts location text at (fault_begins parts text 0 at (nothing_said location) separate_is is)
layout_cases parts location text at separate_is (inr read) =
    let place : read.next ≡ at = whole_faults (nat_lt read.next (length text)) text read.next at read.value read.then in
    from_front parts location text at (read_begins parts text 0 at (nothing_said location) read.value separate_is (read.read ∙ ap (λ next. Ok (read.value, next)) place))

-- the bytes before a fault begin a text
pub begins_up_to_fault : (parts : List Part) (location : ℤ) (text : List ℕ) (at : ℕ) → are_separate parts ≡ true → layout_read parts location text ≡ Err (Mismatch at)
    → (at ≤ length text) × IsBeginning parts location (take at text)
begins_up_to_fault parts location text at separate_is is =
    layout_cases parts location text at separate_is (faulted (parts_read parts text 0 (nothing_said location)) (whole text) at is)

pub iso_parts_separate : (digits : ℕ) → 1 ≤ digits → are_separate (rfc3339_parts digits) ≡ true
unfolding rfc3339_parts
iso_parts_separate digits some = rw (lt-ltb 0 digits (omega arith)) refl
