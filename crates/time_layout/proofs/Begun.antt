-- Where a number, a fraction or a zone can't be read, the bytes before the place begin one.
use Rattle.std.proofs.Common.{◌≡◌, ◌∙◌, sym, ap, refl, ℕ, ◌+◌, ◌-◌, ◌*◌, ◌^◌, ◌<◌, ◌≤◌, List, [], ◌∷◌, ◌++◌, length, take, drop, Bool, true, false, cond, ◌==◌, Ok, Err, ℤ, pos, neg_ℤ, ◌⊎◌, inl, inr, arith, append_assoc}
use Rattle.std.proofs.Math.Seq.{take-append-add}
use Rattle.std.proofs.Math.ListN.{length-append, length-drop, length-take}
use Rattle.std.proofs.Math.Nat.{one-le-pow}
use Rattle.std.proofs.lemmas.Bool.{eqb-true}
use Rattle.std.specs.Char.{is_ascii_digit}
use Rattle.std.specs.List.{prefix_len}
use Rattle.time_layout.specs.declared.fault.TimeFault.TheVariants.{Mismatch}
use Rattle.time_layout.specs.declared.parts.Colon.{Colon}
use Rattle.time_layout.specs.declared.parts.Colon.TheVariants.{Optional, Required, Missing}
use Rattle.time_layout.specs.Atoms.{Reading, and_then, value_of, may_lie, stands, number, fraction, fixed_fraction, point_behind, fraction_point, unpadded, padded_day, minutes_behind, offset, signed, zone, letters, zone_name}
use Rattle.time_layout.specs.Printed.{digits_text, minutes_text, zone_text}
use Rattle.time_layout.specs.Texts.{IsNumber, IsFraction, IsFixedFraction, IsFractionPoint, IsUnpadded, IsPaddedDay, AreMinutes, IsOffset, IsSigned, IsZone, IsZoneName}
use Rattle.time_layout.proofs.DeadEnds.{IsNumberFault, same_place, number_faults, fraction_fault_cases}
use Rattle.time_layout.proofs.DeadForms.{Faulted, faulted}
use Rattle.time_layout.proofs.DeadPoints.{fixed_fault}
use Rattle.time_layout.proofs.Numbers.{goes_on, number_text, are_digits, length-digits_text}
use Rattle.time_layout.proofs.Prints.{minutes_are_text, zone_is_text}
use Rattle.time_layout.proofs.Sounds.{standing, front_digits, number_sound, fraction_sound}

-- the bytes from a place up to that of a fault begin something for which this holds
abbrev pub BeginsUpTo : List ℕ → ℕ → ℕ → (List ℕ → Type 0) → Type 0
BeginsUpTo text at fault Holds =
    (at ≤ fault) × (own : List ℕ) × (more : List ℕ) × (own ≡ take (fault - at) (drop at text) ++ more) × Holds own
    × (at ≤ length text → fault ≤ length text)

pub begun_with : (text : List ℕ) (at fault : ℕ) (Holds More : List ℕ → Type 0) → ((own : List ℕ) → Holds own → More own) → BeginsUpTo text at fault Holds
    → BeginsUpTo text at fault More
begun_with text at fault Holds More with_more (within, own, more, is, holds, inside) = (within, own, more, is, with_more own holds, inside)

-- a fault at the place itself
pub begun_here : (text own : List ℕ) (at fault : ℕ) (Holds : List ℕ → Type 0) → Holds own → at ≡ fault → BeginsUpTo text at fault Holds
begun_here text own at fault Holds holds here =
    let none : fault - at ≡ 0 = omega arith in
    (omega arith, own, own, ap (λ n. take n (drop at text) ++ own) (sym none), holds, λ few. omega arith)

-- something stands behind what is begun
pub begun_first : (text second : List ℕ) (at fault : ℕ) (First Both : List ℕ → Type 0) → ((own : List ℕ) → First own → Both (own ++ second))
    → BeginsUpTo text at fault First → BeginsUpTo text at fault Both
begun_first text second at fault First Both joined (within, own, more, is, holds, inside) = (
  within,
  own ++ second,
  more ++ second,
  ap (λ bytes. bytes ++ second) is ∙ append_assoc (take (fault - at) (drop at text)) more second,
  joined own holds,
  inside,
)

-- the bytes up to the fault are those of what stands before, and others
pub front_is : (text own : List ℕ) (at next fault : ℕ) → drop at text ≡ own ++ drop next text → next ≡ at + length own → next ≤ fault
    → take (fault - at) (drop at text) ≡ own ++ take (fault - next) (drop next text)
front_is text own at next fault splits size within =
    let far : fault - at ≡ length own + (fault - next) = omega arith in
    ap (λ n. take n (drop at text)) far ∙ ap (take (length own + (fault - next))) splits ∙ take-append-add own (drop next text) (fault - next)

-- what stands before lies in the text
pub first_inside : (text first : List ℕ) (at next : ℕ) → drop at text ≡ first ++ drop next text → next ≡ at + length first → at ≤ length text → next ≤ length text
first_inside text first at next splits size few =
    omega (arith, ap length splits, length-append first (drop next text), length-drop at text)

-- something stands before what is begun
pub begun_behind : (text first : List ℕ) (at next fault : ℕ) (Second Both : List ℕ → Type 0) → drop at text ≡ first ++ drop next text → next ≡ at + length first
    → ((own : List ℕ) → Second own → Both (first ++ own)) → BeginsUpTo text next fault Second → BeginsUpTo text at fault Both
begun_behind text first at next fault Second Both splits size joined (within, own, more, is, holds, inside) = (
  omega arith,
  first ++ own,
  more,
  ap (λ bytes. first ++ bytes) is ∙ sym (append_assoc first (take (fault - next) (drop next text)) more)
      ∙ ap (λ bytes. bytes ++ more) (sym (front_is text first at next fault splits size within)),
  joined own holds,
  λ few. inside (first_inside text first at next splits size few),
)

pub begun_behind_byte : (byte : ℕ) (text : List ℕ) (at fault : ℕ) (Second Both : List ℕ → Type 0) → stands byte text at ≡ true
    → ((own : List ℕ) → Second own → Both (byte ∷ own)) → BeginsUpTo text (at + 1) fault Second → BeginsUpTo text at fault Both
begun_behind_byte byte text at fault Second Both there joined begun =
    begun_behind text (byte ∷ []) at (at + 1) fault Second Both (standing byte at text there) refl joined begun

number_begun_cases : (digits low high : ℕ) (text : List ℕ) (at fault : ℕ) → low ≤ high → low < 10 ^ digits → IsNumberFault digits low high (drop at text) at fault
    → BeginsUpTo text at fault (λ own. (value : ℕ) × IsNumber digits low high own value)
number_begun_cases digits low high text at fault order small (inl short) =
    let count : ℕ = prefix_len is_ascii_digit (take digits (drop at text)) in
    let front : List ℕ = take count (drop at text) in
    let stand = front_digits digits (drop at text) in
    let may : may_lie (digits - length front) low high (value_of front) ≡ true = ap (λ n. may_lie (digits - n) low high (value_of front)) stand.1 ∙ short.0 in
    let whole = goes_on digits low high front stand.0 (omega (arith, stand.1, stand.2)) order may in
    let far : count ≡ fault - at = omega (arith, short.2) in
    let size : length front ≡ count = stand.1 in (
      omega (arith, short.2),
      front ++ whole.0,
      whole.0,
      ap (λ n. take n (drop at text) ++ whole.0) far,
      (whole.1, whole.2),
      λ few. omega (arith, short.2, size, length-take count (drop at text), length-drop at text),
    )
number_begun_cases digits low high text at fault order small (inr out) =
    begun_here text (digits_text digits low) at fault (λ own. (value : ℕ) × IsNumber digits low high own value)
    (low, number_text digits low high low small (omega arith) order) out.1

-- of any number of digits
pub number_begun : (digits low high : ℕ) (text : List ℕ) (at fault : ℕ) → low ≤ high → low < 10 ^ digits → number digits low high text at ≡ Err (Mismatch fault)
    → BeginsUpTo text at fault (λ own. (value : ℕ) × IsNumber digits low high own value)
number_begun digits low high text at fault order small is =
    number_begun_cases digits low high text at fault order small (number_faults digits low high text at fault is)

-- one digit or two: no fault is behind the first
one_place : (digits low high : ℕ) (text : List ℕ) (at fault : ℕ) → digits ≤ prefix_len is_ascii_digit (take digits (drop at text)) ⊎ (digits ≡ 1)
    → IsNumberFault digits low high (drop at text) at fault → at ≡ fault
one_place digits low high text at fault (inl all) (inl short) = absurd (omega (arith, short.1))
one_place digits low high text at fault (inr one) (inl short) = omega (arith, short.1, short.2)
one_place digits low high text at fault digits_are (inr out) = out.1

unpadded_place : (two : Bool) (high : ℕ) (text : List ℕ) (at fault : ℕ) → (prefix_len is_ascii_digit (take 2 (drop at text)) == 2) ≡ two
    → number (cond two 2 1) 1 high text at ≡ Err (Mismatch fault) → at ≡ fault
unpadded_place true high text at fault count is =
    one_place 2 1 high text at fault (inl (omega (arith, eqb-true (prefix_len is_ascii_digit (take 2 (drop at text))) 2 count))) (number_faults 2 1 high text at fault is)
unpadded_place false high text at fault count is = one_place 1 1 high text at fault (inr refl) (number_faults 1 1 high text at fault is)

pub unpadded_begun : (high : ℕ) (text : List ℕ) (at fault : ℕ) → 1 ≤ high → unpadded high text at ≡ Err (Mismatch fault)
    → BeginsUpTo text at fault (λ own. (value : ℕ) × ((rest : List ℕ) → IsUnpadded high own rest value))
unpadded_begun high text at fault some is =
    begun_here text (digits_text 2 1) at fault (λ own. (value : ℕ) × ((rest : List ℕ) → IsUnpadded high own rest value))
    (1, λ rest. inl (number_text 2 1 high 1 (omega arith) (omega arith) some))
    (unpadded_place (prefix_len is_ascii_digit (take 2 (drop at text)) == 2) high text at fault refl is)

padded_cases : (spaced : Bool) (text : List ℕ) (at fault : ℕ) → stands 32 text at ≡ spaced
    → cond spaced (number 1 1 31 text (at + 1)) (unpadded 31 text at) ≡ Err (Mismatch fault)
    → BeginsUpTo text at fault (λ own. (day : ℕ) × ((rest : List ℕ) → IsPaddedDay own rest day))
padded_cases true text at fault there is =
    begun_behind_byte 32 text at fault (λ own. (value : ℕ) × IsNumber 1 1 31 own value) (λ own. (day : ℕ) × ((rest : List ℕ) → IsPaddedDay own rest day)) there
    (λ own holds. (holds.0, λ rest. inl (own, refl, holds.1)))
    (number_begun 1 1 31 text (at + 1) fault (omega arith) (omega arith) is)
padded_cases false text at fault there is =
    begun_with text at fault (λ own. (value : ℕ) × ((rest : List ℕ) → IsUnpadded 31 own rest value)) (λ own. (day : ℕ) × ((rest : List ℕ) → IsPaddedDay own rest day))
    (λ own holds. (holds.0, λ rest. inr (holds.1 rest))) (unpadded_begun 31 text at fault (omega arith) is)

pub padded_day_begun : (text : List ℕ) (at fault : ℕ) → padded_day text at ≡ Err (Mismatch fault)
    → BeginsUpTo text at fault (λ own. (day : ℕ) × ((rest : List ℕ) → IsPaddedDay own rest day))
padded_day_begun text at fault is = padded_cases (stands 32 text at) text at fault refl is

-- as many digits as may stand there, behind which anything may
pub whole_fraction : (most : ℕ) (rest : List ℕ) → 1 ≤ most → IsFraction most (digits_text most 0) rest (value_of (digits_text most 0) * 10 ^ (9 - length (digits_text most 0)))
whole_fraction most rest some = record {
  all = are_digits most 0;
  some = omega (arith, length-digits_text most 0);
  few = omega (arith, length-digits_text most 0);
  ends = inl (length-digits_text most 0);
  value_is = refl;
}

pub fraction_begun : (most : ℕ) (text : List ℕ) (at fault : ℕ) → 1 ≤ most → fraction most text at ≡ Err (Mismatch fault)
    → BeginsUpTo text at fault (λ own. (value : ℕ) × ((rest : List ℕ) → IsFraction most own rest value))
unfolding fraction
fraction_begun most text at fault some is =
    let count : ℕ = prefix_len is_ascii_digit (take most (drop at text)) in
    let test = fraction_fault_cases (count == 0) at (value_of (take count (drop at text)) * 10 ^ (9 - count)) count fault is in
    begun_here text (digits_text most 0) at fault (λ own. (value : ℕ) × ((rest : List ℕ) → IsFraction most own rest value))
    (value_of (digits_text most 0) * 10 ^ (9 - length (digits_text most 0)), λ rest. whole_fraction most rest some) test.1

pub fixed_of : (digits : ℕ) (own : List ℕ) → ((value : ℕ) × IsNumber digits 0 999_999_999 own value) → (nanos : ℕ) × IsFixedFraction digits (46 ∷ own) nanos
fixed_of digits own (value, number) =
    (value * 10 ^ (9 - digits), record { behind = own; value = value; is = refl; number = number; nanos_are = refl })

fixed_cases : (there : Bool) (digits : ℕ) (text : List ℕ) (at fault : ℕ) → stands 46 text at ≡ there
    → cond {A = Reading ℕ} there (and_then (number digits 0 999_999_999 text (at + 1)) (λ value next. Ok (value * 10 ^ (9 - digits), next))) (Err (Mismatch at)) ≡ Err (Mismatch fault)
    → BeginsUpTo text at fault (λ own. (nanos : ℕ) × IsFixedFraction digits own nanos)
fixed_cases true digits text at fault there is =
    let number_is = fixed_fault digits text (at + 1) fault (faulted (number digits 0 999_999_999 text (at + 1)) (λ value next. Ok (value * 10 ^ (9 - digits), next)) fault is) in
    begun_behind_byte 46 text at fault (λ own. (value : ℕ) × IsNumber digits 0 999_999_999 own value) (λ own. (nanos : ℕ) × IsFixedFraction digits own nanos) there
    (fixed_of digits) (number_begun digits 0 999_999_999 text (at + 1) fault (omega arith) (one-le-pow digits 10 (omega arith)) number_is)
fixed_cases false digits text at fault there is =
    begun_here text (46 ∷ digits_text digits 0) at fault (λ own. (nanos : ℕ) × IsFixedFraction digits own nanos)
    (fixed_of digits (digits_text digits 0) (0, number_text digits 0 999_999_999 0 (one-le-pow digits 10 (omega arith)) (omega arith) (omega arith))) (same_place at fault is)

pub fixed_fraction_begun : (digits : ℕ) (text : List ℕ) (at fault : ℕ) → fixed_fraction digits text at ≡ Err (Mismatch fault)
    → BeginsUpTo text at fault (λ own. (nanos : ℕ) × IsFixedFraction digits own nanos)
fixed_fraction_begun digits text at fault is = fixed_cases (stands 46 text at) digits text at fault refl is

-- a point, a fraction and another point
abbrev pub IsPointed : List ℕ → Type 0
IsPointed own = (nanos : ℕ) × ((rest : List ℕ) → IsFractionPoint own rest nanos)

-- the fraction is over where a point stands
pub fraction_ends : (most : ℕ) (own rest other : List ℕ) (nanos : ℕ) → IsFraction most own rest nanos → IsFraction most own (46 ∷ other) nanos
fraction_ends most own rest other nanos f = record { all = f.all; some = f.some; few = f.few; ends = inr refl; value_is = f.value_is }

pub zero_point : (rest : List ℕ) → IsFractionPoint (46 ∷ 48 ∷ 46 ∷ []) rest 0
zero_point rest = inr (48 ∷ [], refl, record { all = refl; some = omega arith; few = omega arith; ends = inr refl; value_is = refl })

point_cases : (there : Bool) (text : List ℕ) (at next nanos fault : ℕ) → fraction 9 text at ≡ Ok (nanos, next) → stands 46 text next ≡ there
    → cond {A = Reading ℕ} there (Ok (nanos, next + 1)) (Err (Mismatch next)) ≡ Err (Mismatch fault)
    → BeginsUpTo text at fault (λ own. IsPointed (46 ∷ own))
point_cases true text at next nanos fault read there is = cc
point_cases false text at next nanos fault read there is =
    let b = fraction_sound 9 text at nanos next read in
    begun_behind text b.own at next fault (λ own. own ≡ 46 ∷ []) (λ own. IsPointed (46 ∷ own)) b.splits b.size
    (λ own point. (nanos, λ rest. inr (b.own, ap (λ bytes. 46 ∷ (b.own ++ bytes)) point, fraction_ends 9 b.own (drop next text) rest nanos b.holds)))
    (begun_here text (46 ∷ []) next fault (λ own. own ≡ 46 ∷ []) refl (same_place next fault is))

behind_point : (text : List ℕ) (at fault : ℕ)
    → (fraction 9 text at ≡ Err (Mismatch fault)) ⊎ Faulted (fraction 9 text at) (λ n next. point_behind n text next) fault
    → BeginsUpTo text at fault (λ own. IsPointed (46 ∷ own))
behind_point text at fault (inl is) =
    begun_first text (46 ∷ []) at fault (λ own. (value : ℕ) × ((rest : List ℕ) → IsFraction 9 own rest value)) (λ own. IsPointed (46 ∷ own))
    (λ own holds. (holds.0, λ rest. inr (own, refl, holds.1 (46 ∷ rest)))) (fraction_begun 9 text at fault (omega arith) is)
behind_point text at fault (inr read) = point_cases (stands 46 text read.next) text at read.next read.value fault read.read refl read.then

digits_cases : (none : Bool) (text : List ℕ) (at fault : ℕ)
    → cond {A = Reading ℕ} none (Ok (0, at)) (and_then (fraction 9 text at) (λ n next. point_behind n text next)) ≡ Err (Mismatch fault)
    → BeginsUpTo text at fault (λ own. IsPointed (46 ∷ own))
digits_cases true text at fault is = cc
digits_cases false text at fault is = behind_point text at fault (faulted (fraction 9 text at) (λ n next. point_behind n text next) fault is)

fraction_point_cases : (there : Bool) (text : List ℕ) (at fault : ℕ) → stands 46 text at ≡ there
    → cond {A = Reading ℕ} there (cond {A = Reading ℕ} (prefix_len is_ascii_digit (take 1 (drop (at + 1) text)) == 0) (Ok (0, at + 1)) (and_then (fraction 9 text (at + 1)) (λ n next. point_behind n text next))) (Err (Mismatch at)) ≡ Err (Mismatch fault)
    → BeginsUpTo text at fault IsPointed
fraction_point_cases true text at fault there is =
    begun_behind_byte 46 text at fault (λ own. IsPointed (46 ∷ own)) IsPointed there (λ own holds. holds)
    (digits_cases (prefix_len is_ascii_digit (take 1 (drop (at + 1) text)) == 0) text (at + 1) fault is)
fraction_point_cases false text at fault there is = begun_here text (46 ∷ 48 ∷ 46 ∷ []) at fault IsPointed (0, zero_point) (same_place at fault is)

pub fraction_point_begun : (text : List ℕ) (at fault : ℕ) → fraction_point text at ≡ Err (Mismatch fault) → BeginsUpTo text at fault IsPointed
fraction_point_begun text at fault is = fraction_point_cases (stands 46 text at) text at fault refl is

-- minutes behind a colon, or without one
minutes_cases : (colon : Colon) (there : Bool) (text : List ℕ) (at fault : ℕ) → stands 58 text at ≡ there → minutes_behind colon text at ≡ Err (Mismatch fault)
    → BeginsUpTo text at fault (λ own. (minutes : ℕ) × AreMinutes colon own minutes)
minutes_cases Optional true text at fault there is =
    begun_behind_byte 58 text at fault (λ own. (value : ℕ) × IsNumber 2 0 59 own value) (λ own. (minutes : ℕ) × AreMinutes Optional own minutes) there
    (λ own holds. (holds.0, inl (own, refl, holds.1))) (number_begun 2 0 59 text (at + 1) fault (omega arith) (omega arith) (rw there at is))
minutes_cases Optional false text at fault there is =
    begun_with text at fault (λ own. (value : ℕ) × IsNumber 2 0 59 own value) (λ own. (minutes : ℕ) × AreMinutes Optional own minutes)
    (λ own holds. (holds.0, inr holds.1)) (number_begun 2 0 59 text at fault (omega arith) (omega arith) (rw there at is))
minutes_cases Required true text at fault there is =
    begun_behind_byte 58 text at fault (λ own. (value : ℕ) × IsNumber 2 0 59 own value) (λ own. (minutes : ℕ) × AreMinutes Required own minutes) there
    (λ own holds. (holds.0, (own, refl, holds.1))) (number_begun 2 0 59 text (at + 1) fault (omega arith) (omega arith) (rw there at is))
minutes_cases Required false text at fault there is =
    begun_here text (minutes_text Required 0) at fault (λ own. (minutes : ℕ) × AreMinutes Required own minutes) (0, minutes_are_text Required 0 (omega arith)) (same_place at fault (rw there at is))
minutes_cases Missing there text at fault begins is = number_begun 2 0 59 text at fault (omega arith) (omega arith) is

hours_minutes : (colon : Colon) (hours minutes : ℕ) (own behind : List ℕ) → IsNumber 2 0 23 own hours → AreMinutes colon behind minutes
    → (seconds : ℕ) × IsOffset colon (own ++ behind) seconds
hours_minutes colon hours minutes own behind are_hours are_minutes = (
  hours * 3600 + minutes * 60,
  record {
    hours_text = own;
    minutes_text = behind;
    hours = hours;
    minutes = minutes;
    is = refl;
    are_hours = are_hours;
    are_minutes = are_minutes;
    seconds_are = refl;
  },
)

offset_minutes : (colon : Colon) (text : List ℕ) (at fault hours : ℕ)
    → (minutes_behind colon text at ≡ Err (Mismatch fault)) ⊎ Faulted (minutes_behind colon text at) (λ minutes next. Ok (hours * 3600 + minutes * 60, next)) fault
    → BeginsUpTo text at fault (λ own. (minutes : ℕ) × AreMinutes colon own minutes)
offset_minutes colon text at fault hours (inl is) = minutes_cases colon (stands 58 text at) text at fault refl is
offset_minutes colon text at fault hours (inr read) = let never = read.then in cc

offset_cases : (colon : Colon) (text : List ℕ) (at fault : ℕ)
    → (number 2 0 23 text at ≡ Err (Mismatch fault))
    ⊎ Faulted (number 2 0 23 text at) (λ hours behind. and_then (minutes_behind colon text behind) (λ minutes next. Ok (hours * 3600 + minutes * 60, next))) fault
    → BeginsUpTo text at fault (λ own. (seconds : ℕ) × IsOffset colon own seconds)
offset_cases colon text at fault (inl is) =
    begun_first text (minutes_text colon 0) at fault (λ own. (value : ℕ) × IsNumber 2 0 23 own value) (λ own. (seconds : ℕ) × IsOffset colon own seconds)
    (λ own hours. hours_minutes colon hours.0 0 own (minutes_text colon 0) hours.1 (minutes_are_text colon 0 (omega arith)))
    (number_begun 2 0 23 text at fault (omega arith) (omega arith) is)
offset_cases colon text at fault (inr hours) =
    let first = number_sound 2 0 23 text at hours.value hours.next hours.read in
    begun_behind text first.own at hours.next fault (λ own. (minutes : ℕ) × AreMinutes colon own minutes) (λ own. (seconds : ℕ) × IsOffset colon own seconds)
    first.splits first.size
    (λ own minutes. hours_minutes colon hours.value minutes.0 first.own own first.holds minutes.1)
    (offset_minutes colon text hours.next fault hours.value (faulted (minutes_behind colon text hours.next) (λ minutes next. Ok (hours.value * 3600 + minutes * 60, next)) fault hours.then))

offset_begun : (colon : Colon) (text : List ℕ) (at fault : ℕ) → offset colon text at ≡ Err (Mismatch fault)
    → BeginsUpTo text at fault (λ own. (seconds : ℕ) × IsOffset colon own seconds)
offset_begun colon text at fault is =
    offset_cases colon text at fault
    (faulted (number 2 0 23 text at) (λ hours behind. and_then (minutes_behind colon text behind) (λ minutes next. Ok (hours * 3600 + minutes * 60, next))) fault is)

signed_fault : (colon : Colon) (text : List ℕ) (at fault : ℕ) (sign : ℕ → ℤ)
    → (offset colon text at ≡ Err (Mismatch fault)) ⊎ Faulted (offset colon text at) (λ seconds end. Ok (sign seconds, end)) fault
    → BeginsUpTo text at fault (λ own. (seconds : ℕ) × IsOffset colon own seconds)
signed_fault colon text at fault sign (inl is) = offset_begun colon text at fault is
signed_fault colon text at fault sign (inr read) = let never = read.then in cc

behind_sign : (colon : Colon) (text : List ℕ) (at fault : ℕ) (sign : ℕ → ℤ)
    → and_then (offset colon text at) (λ seconds end. Ok (sign seconds, end)) ≡ Err (Mismatch fault)
    → BeginsUpTo text at fault (λ own. (seconds : ℕ) × IsOffset colon own seconds)
behind_sign colon text at fault sign is = signed_fault colon text at fault sign (faulted (offset colon text at) (λ seconds end. Ok (sign seconds, end)) fault is)

signed_cases : (east west : Bool) (colon : Colon) (text : List ℕ) (at fault : ℕ)
    → stands 43 text at ≡ east → stands 45 text at ≡ west → signed colon text at ≡ Err (Mismatch fault)
    → BeginsUpTo text at fault (λ own. (offset : ℤ) × IsSigned colon own offset)
unfolding signed
signed_cases true west colon text at fault is_east is_west is =
    begun_behind_byte 43 text at fault (λ own. (seconds : ℕ) × IsOffset colon own seconds) (λ own. (offset : ℤ) × IsSigned colon own offset) is_east
    (λ own holds. (pos holds.0, inl (own, holds.0, refl, refl, holds.1)))
    (behind_sign colon text (at + 1) fault (λ seconds. pos seconds) (rw is_east at is))
signed_cases false true colon text at fault is_east is_west is =
    begun_behind_byte 45 text at fault (λ own. (seconds : ℕ) × IsOffset colon own seconds) (λ own. (offset : ℤ) × IsSigned colon own offset) is_west
    (λ own holds. (neg_ℤ (pos holds.0), inr (own, holds.0, refl, refl, holds.1)))
    (behind_sign colon text (at + 1) fault (λ seconds. neg_ℤ (pos seconds)) (rw (is_east, is_west) at is))
signed_cases false false colon text at fault is_east is_west is =
    begun_here text (zone_text colon (pos 0)) at fault (λ own. (offset : ℤ) × IsSigned colon own offset) (pos 0, zone_is_text colon (pos 0) (omega arith) refl)
    (same_place at fault (rw (is_east, is_west) at is))

pub signed_begun : (colon : Colon) (text : List ℕ) (at fault : ℕ) → signed colon text at ≡ Err (Mismatch fault)
    → BeginsUpTo text at fault (λ own. (offset : ℤ) × IsSigned colon own offset)
signed_begun colon text at fault is = signed_cases (stands 43 text at) (stands 45 text at) colon text at fault refl refl is

zone_cases : (utc : Bool) (colon : Colon) (text : List ℕ) (at fault : ℕ) → stands 90 text at ≡ utc → zone colon text at ≡ Err (Mismatch fault)
    → BeginsUpTo text at fault (λ own. (offset : ℤ) × IsZone colon own offset)
unfolding zone
zone_cases true colon text at fault is_utc is = let never = rw is_utc at is in cc
zone_cases false colon text at fault is_utc is =
    begun_with text at fault (λ own. (offset : ℤ) × IsSigned colon own offset) (λ own. (offset : ℤ) × IsZone colon own offset)
    (λ own holds. (holds.0, inr holds.1)) (signed_begun colon text at fault (rw is_utc at is))

pub zone_begun : (colon : Colon) (text : List ℕ) (at fault : ℕ) → zone colon text at ≡ Err (Mismatch fault)
    → BeginsUpTo text at fault (λ own. (offset : ℤ) × IsZone colon own offset)
zone_begun colon text at fault is = zone_cases (stands 90 text at) colon text at fault refl is

letter_cases : (there : Bool) (byte : ℕ) (name text : List ℕ) (at fault : ℕ) → stands byte text at ≡ there
    → cond {A = Reading ℤ} there (letters name text (at + 1)) (Err (Mismatch at)) ≡ Err (Mismatch fault)
    → (letters name text (at + 1) ≡ Err (Mismatch fault) → BeginsUpTo text (at + 1) fault (λ own. own ≡ name)) → BeginsUpTo text at fault (λ own. own ≡ byte ∷ name)
letter_cases true byte name text at fault there is later =
    begun_behind_byte byte text at fault (λ own. own ≡ name) (λ own. own ≡ byte ∷ name) there (λ own own_is. ap (λ bytes. byte ∷ bytes) own_is) (later is)
letter_cases false byte name text at fault there is later =
    begun_here text (byte ∷ name) at fault (λ own. own ≡ byte ∷ name) refl (same_place at fault is)

letters_begun : (name text : List ℕ) (at fault : ℕ) → letters name text at ≡ Err (Mismatch fault) → BeginsUpTo text at fault (λ own. own ≡ name)
letters_begun [] text at fault is = cc
letters_begun (byte ∷ name) text at fault is =
    letter_cases (stands byte text at) byte name text at fault refl is (λ later. letters_begun name text (at + 1) fault later)

name_cases : (greenwich : Bool) (text : List ℕ) (at fault : ℕ)
    → cond greenwich (letters (71 ∷ 77 ∷ 84 ∷ []) text at) (letters (85 ∷ 84 ∷ 67 ∷ []) text at) ≡ Err (Mismatch fault)
    → BeginsUpTo text at fault (λ own. (offset : ℤ) × IsZoneName own offset)
name_cases true text at fault is =
    begun_with text at fault (λ own. own ≡ 71 ∷ 77 ∷ 84 ∷ []) (λ own. (offset : ℤ) × IsZoneName own offset) (λ own own_is. (pos 0, (inl own_is, refl)))
    (letters_begun (71 ∷ 77 ∷ 84 ∷ []) text at fault is)
name_cases false text at fault is =
    begun_with text at fault (λ own. own ≡ 85 ∷ 84 ∷ 67 ∷ []) (λ own. (offset : ℤ) × IsZoneName own offset) (λ own own_is. (pos 0, (inr own_is, refl)))
    (letters_begun (85 ∷ 84 ∷ 67 ∷ []) text at fault is)

pub zone_name_begun : (text : List ℕ) (at fault : ℕ) → zone_name text at ≡ Err (Mismatch fault) → BeginsUpTo text at fault (λ own. (offset : ℤ) × IsZoneName own offset)
zone_name_begun text at fault is = name_cases (stands 71 text at) text at fault is
