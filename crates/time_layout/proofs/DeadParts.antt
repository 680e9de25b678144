-- Where a text can't be read, no text that begins alike is of the parts.
use Rattle.std.proofs.Common.{◌≡◌, ◌≢◌, ◌∙◌, sym, ap, refl, subst, ℕ, ◌+◌, ◌^◌, ◌≤◌, min, List, [], ◌∷◌, ◌++◌, length, take, drop, get_or, Bool, true, false, cond, nat_lt, Ok, Err, ℤ, ◌⊎◌, inl, inr, arith, append_assoc}
use Rattle.std.proofs.Math.ListN.{length-append, length-take}
use Rattle.std.proofs.Math.Nat.{pow-le-pow_right}
use Rattle.std.proofs.lemmas.List.{take-append-drop}
use Rattle.std.proofs.lemmas.Bool.{eqb-true}
use Rattle.std.specs.Char.{is_ascii_digit}
use Rattle.std.specs.List.{prefix_len}
use Rattle.case_table.specs.Tables.{month_table, month_name_table, day_name_table}
use Rattle.time_layout.specs.declared.fault.TimeFault.TheVariants.{Mismatch}
use Rattle.time_layout.specs.declared.parts.Part.{Part}
use Rattle.time_layout.specs.declared.parts.Part.TheVariants.{Literal, Year, ShortYear, Month, MonthName, Day, PaddedDay, WeekdayName, Hour, TwelveHour, Meridiem, Minute, Second, Fraction, PointFraction, Zone, UnpaddedMonth, FullMonthName, UnpaddedDay, FullWeekdayName, UnpaddedTwelveHour, FixedFraction, FractionPoint, Offset, ZoneName}
use Rattle.time_layout.specs.declared.parts.Said.{Said}
use Rattle.time_layout.specs.Atoms.{Reading, and_then, stands, number, fraction, name_at, full_name_at, unpadded, padded_day, optional_fraction, fixed_fraction, fraction_point, signed, zone, zone_name}
use Rattle.time_layout.specs.DeadEnds.{IsDeadEnd, StopsAt}
use Rattle.time_layout.specs.Names.{weekday_table, meridiem_table}
use Rattle.time_layout.specs.Parts.{part_read, parts_read, layout_read, nothing_said, whole, full_year, clock_of}
use Rattle.time_layout.specs.Texts.{IsFraction, IsUnpadded, Spells, IsTextOf}
use Rattle.time_layout.proofs.CompleteParts.{part_reads}
use Rattle.time_layout.proofs.Completes.{stands_is}
use Rattle.time_layout.proofs.DeadEnds.{IsDead, NeverThere, same_place, number_dead, fraction_dead, or_never, never_dead, less_dead, other_byte, deeper}
use Rattle.time_layout.proofs.DeadForms.{Faulted, faulted, unpadded_dead, padded_day_dead, signed_dead, zone_dead, front_behind, same_rest}
use Rattle.time_layout.proofs.DeadNames.{name_dead}
use Rattle.time_layout.proofs.DeadPoints.{same_end, same_fraction, wide_number_dead, fixed_fraction_dead, fraction_point_dead, zone_name_dead}
use Rattle.time_layout.proofs.FullNames.{months_apart, days_apart, full_name_dead}
use Rattle.time_layout.proofs.SoundParts.{part_sound}
use Rattle.time_layout.proofs.Sounds.{Between, opened, same_value, same_next}

said_cases : {A : Type 0} (reading : Reading A) (say : A → Said) (fault : ℕ)
    → (reading ≡ Err (Mismatch fault)) ⊎ Faulted reading (λ v next. Ok (say v, next)) fault → reading ≡ Err (Mismatch fault)
said_cases reading say fault (inl is) = is
said_cases reading say fault (inr read) = let never = read.then in cc

pub said_fault : {A : Type 0} (reading : Reading A) (say : A → Said) (fault : ℕ)
    → and_then reading (λ v next. Ok (say v, next)) ≡ Err (Mismatch fault) → reading ≡ Err (Mismatch fault)
said_fault reading say fault is = said_cases reading say fault (faulted reading (λ v next. Ok (say v, next)) fault is)

point_of : (most : ℕ) (before : Said) (own rest : List ℕ) → ((said : Said) × Spells (PointFraction most) own rest before said)
    → ((behind : List ℕ) × (own ≡ 46 ∷ behind) × ((value : ℕ) × IsFraction (min most 9) behind rest value)) ⊎ ((own ≡ []) × ((more : List ℕ) → rest ≢ 46 ∷ more))
point_of most before own rest (said, inl none) = inr (none.0, none.1)
point_of most before own rest (said, inr some) = inl (some.0, some.2, (some.1, some.3))

none_never : (text : List ℕ) (at : ℕ) → stands 46 text at ≡ true → NeverThere text at (λ own rest. (own ≡ []) × ((more : List ℕ) → rest ≢ 46 ∷ more))
none_never text at there [] x splits some more own rest is none = absurd (omega arith)
none_never text at there (first ∷ front) x splits some more own rest is none =
    let point : first ≡ 46 = eqb-true first 46 (sym (stands_is 46 at text first (front ++ x) splits) ∙ there) in
    none.1 (front ++ more) (sym (is ∙ ap (λ bytes. bytes ++ rest) none.0) ∙ ap (λ byte. byte ∷ (front ++ more)) point)

point_cases : (there : Bool) (most : ℕ) (text : List ℕ) (at fault : ℕ) (before : Said) → stands 46 text at ≡ there
    → cond {A = Reading ℕ} there (fraction (min most 9) text (at + 1)) (Ok (0, at)) ≡ Err (Mismatch fault)
    → IsDead text at fault (λ own rest. (said : Said) × Spells (PointFraction most) own rest before said)
point_cases true most text at fault before there is =
    less_dead text at fault _ (λ own rest. (said : Said) × Spells (PointFraction most) own rest before said) (point_of most before)
    (or_never text at fault _ _
    (deeper 46 text at fault (λ own rest. (value : ℕ) × IsFraction (min most 9) own rest value) (fraction_dead (min most 9) text (at + 1) fault is))
    (none_never text at there))
point_cases false most text at fault before there is = cc

literal_cases : (there : Bool) (byte : ℕ) (text : List ℕ) (at fault : ℕ) (before : Said) → stands byte text at ≡ there
    → cond {A = Reading Said} there (Ok (before, at + 1)) (Err (Mismatch at)) ≡ Err (Mismatch fault)
    → IsDead text at fault (λ own rest. (said : Said) × Spells (Literal byte) own rest before said)
literal_cases true byte text at fault before there is = cc
literal_cases false byte text at fault before there is =
    subst (λ place. IsDead text at place (λ own rest. (said : Said) × Spells (Literal byte) own rest before said)) (same_place at fault is)
    (never_dead text at (λ own rest. (said : Said) × Spells (Literal byte) own rest before said)
    (λ front x splits some more own rest begins spelled. other_byte byte text at there front x splits some more own rest begins ([], spelled.1.0)))

few_digits : (digits : ℕ) → digits ≤ 9 → 10 ^ digits ≤ 1_000_000_000
few_digits digits few = pow-le-pow_right (omega arith) few

part_dead : (part : Part) (text : List ℕ) (at fault : ℕ) (before : Said) → part_read part text at before ≡ Err (Mismatch fault)
    → IsDead text at fault (λ own rest. (said : Said) × Spells part own rest before said)
part_dead (Literal byte) text at fault before is = literal_cases (stands byte text at) byte text at fault before refl is
part_dead (PointFraction most) text at fault before is =
    point_cases (stands 46 text at) most text at fault before refl (said_fault (optional_fraction (min most 9) text at) (λ v. record before { nanosecond = v }) fault is)
part_dead Year text at fault before is =
    less_dead text at fault _ (λ own rest. (said : Said) × Spells Year own rest before said) (λ own rest spelled. (spelled.1.0, spelled.1.1))
    (wide_number_dead 4 9999 text at fault (omega arith) (said_fault (number 4 0 9999 text at) (λ v. record before { year = v }) fault is))
part_dead ShortYear text at fault before is =
    less_dead text at fault _ (λ own rest. (said : Said) × Spells ShortYear own rest before said) (λ own rest spelled. (spelled.1.0, spelled.1.1))
    (number_dead 2 0 99 text at fault (omega arith) (omega arith) (said_fault (number 2 0 99 text at) (λ v. record before { year = full_year v }) fault is))
part_dead Month text at fault before is =
    less_dead text at fault _ (λ own rest. (said : Said) × Spells Month own rest before said) (λ own rest spelled. (spelled.1.0, spelled.1.1))
    (number_dead 2 1 12 text at fault (omega arith) (omega arith) (said_fault (number 2 1 12 text at) (λ v. record before { month = v }) fault is))
part_dead MonthName text at fault before is =
    less_dead text at fault _ (λ own rest. (said : Said) × Spells MonthName own rest before said) (λ own rest spelled. (spelled.1.0, spelled.1.1))
    (name_dead month_table 3 text at fault (said_fault (name_at month_table 3 text at) (λ v. record before { month = v }) fault is))
part_dead Day text at fault before is =
    less_dead text at fault _ (λ own rest. (said : Said) × Spells Day own rest before said) (λ own rest spelled. (spelled.1.0, spelled.1.1))
    (number_dead 2 1 31 text at fault (omega arith) (omega arith) (said_fault (number 2 1 31 text at) (λ v. record before { day = v }) fault is))
part_dead PaddedDay text at fault before is =
    less_dead text at fault _ (λ own rest. (said : Said) × Spells PaddedDay own rest before said) (λ own rest spelled. (spelled.1.0, spelled.1.1))
    (padded_day_dead text at fault (said_fault (padded_day text at) (λ v. record before { day = v }) fault is))
part_dead WeekdayName text at fault before is =
    less_dead text at fault _ (λ own rest. (said : Said) × Spells WeekdayName own rest before said) (λ own rest spelled. (spelled.1.0, spelled.1.1))
    (name_dead weekday_table 3 text at fault (said_fault (name_at weekday_table 3 text at) (λ v. before) fault is))
part_dead Hour text at fault before is =
    less_dead text at fault _ (λ own rest. (said : Said) × Spells Hour own rest before said) (λ own rest spelled. (spelled.1.0, spelled.1.1))
    (number_dead 2 0 23 text at fault (omega arith) (omega arith) (said_fault (number 2 0 23 text at) (λ v. record before { hour = v }) fault is))
part_dead TwelveHour text at fault before is =
    less_dead text at fault _ (λ own rest. (said : Said) × Spells TwelveHour own rest before said) (λ own rest spelled. (spelled.1.0, spelled.1.1))
    (number_dead 2 1 12 text at fault (omega arith) (omega arith) (said_fault (number 2 1 12 text at) (λ v. record before { hour = v }) fault is))
part_dead Meridiem text at fault before is =
    less_dead text at fault _ (λ own rest. (said : Said) × Spells Meridiem own rest before said) (λ own rest spelled. (spelled.1.0, spelled.1.1))
    (name_dead meridiem_table 2 text at fault (said_fault (name_at meridiem_table 2 text at) (λ v. record before { clock = clock_of v }) fault is))
part_dead Minute text at fault before is =
    less_dead text at fault _ (λ own rest. (said : Said) × Spells Minute own rest before said) (λ own rest spelled. (spelled.1.0, spelled.1.1))
    (number_dead 2 0 59 text at fault (omega arith) (omega arith) (said_fault (number 2 0 59 text at) (λ v. record before { minute = v }) fault is))
part_dead Second text at fault before is =
    less_dead text at fault _ (λ own rest. (said : Said) × Spells Second own rest before said) (λ own rest spelled. (spelled.1.0, spelled.1.1))
    (number_dead 2 0 59 text at fault (omega arith) (omega arith) (said_fault (number 2 0 59 text at) (λ v. record before { second = v }) fault is))
part_dead Fraction text at fault before is =
    less_dead text at fault _ (λ own rest. (said : Said) × Spells Fraction own rest before said) (λ own rest spelled. (spelled.1.0, spelled.1.1))
    (fraction_dead 9 text at fault (said_fault (fraction 9 text at) (λ v. record before { nanosecond = v }) fault is))
part_dead (Zone colon) text at fault before is =
    less_dead text at fault _ (λ own rest. (said : Said) × Spells (Zone colon) own rest before said) (λ own rest spelled. (spelled.1.0, spelled.1.1))
    (zone_dead colon text at fault (said_fault (zone colon text at) (λ v. record before { offset = v }) fault is))
part_dead UnpaddedMonth text at fault before is =
    less_dead text at fault _ (λ own rest. (said : Said) × Spells UnpaddedMonth own rest before said) (λ own rest spelled. (spelled.1.0, spelled.1.1))
    (unpadded_dead 12 text at fault (said_fault (unpadded 12 text at) (λ v. record before { month = v }) fault is))
part_dead FullMonthName text at fault before is =
    less_dead text at fault _ (λ own rest. (said : Said) × Spells FullMonthName own rest before said) (λ own rest spelled. (spelled.1.0, spelled.1.1))
    (full_name_dead month_name_table text at fault months_apart (said_fault (full_name_at month_name_table text at) (λ v. record before { month = v }) fault is))
part_dead UnpaddedDay text at fault before is =
    less_dead text at fault _ (λ own rest. (said : Said) × Spells UnpaddedDay own rest before said) (λ own rest spelled. (spelled.1.0, spelled.1.1))
    (unpadded_dead 31 text at fault (said_fault (unpadded 31 text at) (λ v. record before { day = v }) fault is))
part_dead FullWeekdayName text at fault before is =
    less_dead text at fault _ (λ own rest. (said : Said) × Spells FullWeekdayName own rest before said) (λ own rest spelled. (spelled.1.0, spelled.1.1))
    (full_name_dead day_name_table text at fault days_apart (said_fault (full_name_at day_name_table text at) (λ v. before) fault is))
part_dead UnpaddedTwelveHour text at fault before is =
    less_dead text at fault _ (λ own rest. (said : Said) × Spells UnpaddedTwelveHour own rest before said) (λ own rest spelled. (spelled.1.0, spelled.1.1))
    (unpadded_dead 12 text at fault (said_fault (unpadded 12 text at) (λ v. record before { hour = v }) fault is))
part_dead (FixedFraction digits) text at fault before is =
    less_dead text at fault _ (λ own rest. (said : Said) × Spells (FixedFraction digits) own rest before said) (λ own rest spelled. (spelled.1.0, spelled.1.1))
    (fixed_fraction_dead (min digits 9) text at fault (few_digits (min digits 9) (omega arith)) (said_fault (fixed_fraction (min digits 9) text at) (λ v. record before { nanosecond = v }) fault is))
part_dead FractionPoint text at fault before is =
    less_dead text at fault _ (λ own rest. (said : Said) × Spells FractionPoint own rest before said) (λ own rest spelled. (spelled.1.0, spelled.1.1))
    (fraction_point_dead text at fault (said_fault (fraction_point text at) (λ v. record before { nanosecond = v }) fault is))
part_dead (Offset colon) text at fault before is =
    less_dead text at fault _ (λ own rest. (said : Said) × Spells (Offset colon) own rest before said) (λ own rest spelled. (spelled.1.0, spelled.1.1))
    (signed_dead colon text at fault (said_fault (signed colon text at) (λ v. record before { offset = v }) fault is))
part_dead ZoneName text at fault before is =
    less_dead text at fault _ (λ own rest. (said : Said) × Spells ZoneName own rest before said) (λ own rest spelled. (spelled.1.0, spelled.1.1))
    (zone_name_dead text at fault (said_fault (zone_name text at) (λ v. record before { offset = v }) fault is))

-- a part reads the same where what stands behind it begins alike
same_unpadded : {high value : ℕ} (own : List ℕ) (byte : ℕ) (rest other : List ℕ) → IsUnpadded high own (byte ∷ rest) value → IsUnpadded high own (byte ∷ other) value
same_unpadded own byte rest other (inl two) = inl two
same_unpadded own byte rest other (inr one) = inr (one.0, same_end (is_ascii_digit byte) (prefix_len is_ascii_digit rest) (prefix_len is_ascii_digit other) one.1)

pub same_spelling : (part : Part) (own : List ℕ) (byte : ℕ) (rest other : List ℕ) (before said : Said) → Spells part own (byte ∷ rest) before said → Spells part own (byte ∷ other) before said
same_spelling (Literal b) own byte rest other before said spelled = spelled
same_spelling Year own byte rest other before said spelled = spelled
same_spelling ShortYear own byte rest other before said spelled = spelled
same_spelling Month own byte rest other before said spelled = spelled
same_spelling MonthName own byte rest other before said spelled = spelled
same_spelling Day own byte rest other before said spelled = spelled
same_spelling WeekdayName own byte rest other before said spelled = spelled
same_spelling Hour own byte rest other before said spelled = spelled
same_spelling TwelveHour own byte rest other before said spelled = spelled
same_spelling Meridiem own byte rest other before said spelled = spelled
same_spelling Minute own byte rest other before said spelled = spelled
same_spelling Second own byte rest other before said spelled = spelled
same_spelling (Zone colon) own byte rest other before said spelled = spelled
same_spelling FullMonthName own byte rest other before said spelled = spelled
same_spelling FullWeekdayName own byte rest other before said spelled = spelled
same_spelling (FixedFraction digits) own byte rest other before said spelled = spelled
same_spelling (Offset colon) own byte rest other before said spelled = spelled
same_spelling ZoneName own byte rest other before said spelled = spelled
same_spelling UnpaddedMonth own byte rest other before said (value, unpadded_is, is) = (value, same_unpadded own byte rest other unpadded_is, is)
same_spelling UnpaddedDay own byte rest other before said (value, unpadded_is, is) = (value, same_unpadded own byte rest other unpadded_is, is)
same_spelling UnpaddedTwelveHour own byte rest other before said (value, unpadded_is, is) = (value, same_unpadded own byte rest other unpadded_is, is)
same_spelling FractionPoint own byte rest other before said (nanos, inl point, is) =
    (nanos, inl (point.0, same_end (is_ascii_digit byte) (prefix_len is_ascii_digit rest) (prefix_len is_ascii_digit other) point.1, point.2), is)
same_spelling FractionPoint own byte rest other before said (nanos, inr pointed, is) =
    (nanos, inr (pointed.0, pointed.1, same_fraction 9 pointed.0 46 (byte ∷ rest) (byte ∷ other) nanos pointed.2), is)
same_spelling PaddedDay own byte rest other before said (day, inl spaced, is) = (day, inl spaced, is)
same_spelling PaddedDay own byte rest other before said (day, inr (inl two), is) = (day, inr (inl two), is)
same_spelling PaddedDay own byte rest other before said (day, inr (inr one), is) =
    (day, inr (inr (one.0, same_end (is_ascii_digit byte) (prefix_len is_ascii_digit rest) (prefix_len is_ascii_digit other) one.1)), is)
same_spelling Fraction own byte rest other before said spelled = (spelled.0, same_fraction 9 own byte rest other spelled.0 spelled.1, spelled.2)
same_spelling (PointFraction most) own byte rest other before said (inl none) = inl (none.0, (λ more begins. none.1 rest (ap (λ first. first ∷ rest) (ap (λ bytes. get_or bytes 0 0) begins))), none.2)
same_spelling (PointFraction most) own byte rest other before said (inr some) =
    inr (some.0, some.1, some.2, same_fraction (min most 9) some.0 byte rest other some.1 some.3, some.4)

-- no text that has so many bytes in common is of the parts
abbrev pub DeadText : ℕ → List ℕ → ℕ → ℕ → List Part → Said → Type 0
DeadText width text at fault parts before =
    (front x : List ℕ) → drop at text ≡ front ++ x → at + length front ≡ fault + width → (more : List ℕ) (said : Said) → IsTextOf parts (front ++ more) before said → ⊥

-- what reads a text's own part reads it in a text that goes on otherwise
same_part : (part : Part) (own rest other_own other_rest : List ℕ) (before said other : Said) → own ++ rest ≡ other_own ++ other_rest
    → Spells part own rest before said → Spells part other_own other_rest before other → (length own ≡ length other_own) × (said ≡ other)
same_part part own rest other_own other_rest before said other is spelled spelled_so =
    let one = part_reads part 0 (own ++ rest) own rest before said refl spelled in
    let two = part_reads part 0 (own ++ rest) other_own other_rest before other is spelled_so in
    let both_read = sym one ∙ two in
    (omega (arith, same_next said other (0 + length own) (0 + length other_own) both_read), same_value said other (0 + length own) (0 + length other_own) both_read)

-- the front goes on behind a part
spelled_on : (part : Part) (own front x more rest : List ℕ) (before said : Said) → rest ≡ front ++ x → 1 ≤ length front → Spells part own rest before said
    → Spells part own (front ++ more) before said
spelled_on part own [] x more rest before said is some spelled = absurd (omega arith)
spelled_on part own (byte ∷ front) x more rest before said is some spelled =
    same_spelling part own byte (front ++ x) (front ++ more) before said (subst (λ bytes. Spells part own bytes before said) is spelled)

later_dead : (width : ℕ) (part : Part) (parts : List Part) (text : List ℕ) (at next fault : ℕ) (before said : Said) → 1 ≤ width → next ≤ fault
    → Between text at next (λ own. Spells part own (drop next text) before said) → DeadText width text next fault parts said
    → DeadText width text at fault (part ∷ parts) before
later_dead width part parts text at next fault before said some later b dead front x splits size more told made =
    let mine = front_behind front x b.own (drop next text) (sym splits ∙ b.splits) (omega (arith, b.size)) in
    let behind : List ℕ = drop (length b.own) front in
    let long : next + length behind ≡ fault + width = omega (arith, b.size, ap length mine.0, length-append b.own behind) in
    let spelled : Spells part b.own (behind ++ more) before said = spelled_on part b.own behind x more (drop next text) before said (sym mine.1) (omega arith) b.holds in
    let whole_is : b.own ++ (behind ++ more) ≡ made.0 ++ made.1 = sym (append_assoc b.own behind more) ∙ ap (λ bytes. bytes ++ more) (sym mine.0) ∙ made.3 in
    let same = same_part part b.own (behind ++ more) made.0 made.1 before said made.2 whole_is spelled made.4 in
    let rest_is : behind ++ more ≡ made.1 = same_rest b.own (behind ++ more) made.0 made.1 whole_is same.0 in
    dead behind x (sym mine.1) long more told
    (subst (λ bytes. IsTextOf parts bytes said told) (sym rest_is) (subst (λ s. IsTextOf parts made.1 s told) (sym same.1) made.5))

nothing_left : (front more : List ℕ) → 1 ≤ length front → front ++ more ≡ [] → ⊥
nothing_left [] more some is = omega arith
nothing_left (byte ∷ front) more some is = cc

-- all parts stand there, and a byte more
left_dead : (parts : List Part) (text : List ℕ) (at next : ℕ) (before said : Said) → parts_read parts text at before ≡ Ok (said, next)
    → (at ≤ next) × DeadText 1 text at next parts before
left_dead [] text at next before said is = (
  omega (arith, same_next before said at next is),
  λ front x splits size more told made. nothing_left front more (omega (arith, same_next before said at next is)) made.0,
)
left_dead (part ∷ parts) text at next before said is =
    let o = opened (part_read part text at before) (λ s end. parts_read parts text end s) said next is in
    let b = part_sound part text at before o.value o.next o.read in
    let later = left_dead parts text o.next next o.value said o.then in
    (omega (arith, b.size, later.0), later_dead 1 part parts text at o.next next before o.value (omega arith) later.0 b later.1)

abbrev pub IsDeadText : List ℕ → ℕ → ℕ → List Part → Said → Type 0
IsDeadText text at fault parts before =
    (at ≤ fault) × (DeadText 1 text at fault parts before ⊎ ((is_ascii_digit (get_or text fault 0) ≡ true) × DeadText 2 text at fault parts before))

here_dead : (part : Part) (parts : List Part) (text : List ℕ) (at fault : ℕ) (before : Said)
    → IsDead text at fault (λ own rest. (said : Said) × Spells part own rest before said) → IsDeadText text at fault (part ∷ parts) before
here_dead part parts text at fault before (within, inl dead) =
    (within, inl (λ front x splits size more told made. dead front x splits size more made.0 made.1 made.3 (made.2, made.4)))
here_dead part parts text at fault before (within, inr dead) =
    (within, inr (dead.0, λ front x splits size more told made. dead.1 front x splits size more made.0 made.1 made.3 (made.2, made.4)))

there_dead : (part : Part) (parts : List Part) (text : List ℕ) (at next fault : ℕ) (before said : Said)
    → Between text at next (λ own. Spells part own (drop next text) before said) → IsDeadText text next fault parts said → IsDeadText text at fault (part ∷ parts) before
there_dead part parts text at next fault before said b (within, inl dead) =
    (omega (arith, b.size), inl (later_dead 1 part parts text at next fault before said (omega arith) within b dead))
there_dead part parts text at next fault before said b (within, inr dead) =
    (omega (arith, b.size), inr (dead.0, later_dead 2 part parts text at next fault before said (omega arith) within b dead.1))

part_or_later : (part : Part) (parts : List Part) (text : List ℕ) (at fault : ℕ) (before : Said)
    → ((next : ℕ) (said : Said) → parts_read parts text next said ≡ Err (Mismatch fault) → IsDeadText text next fault parts said)
    → (part_read part text at before ≡ Err (Mismatch fault)) ⊎ Faulted (part_read part text at before) (λ s end. parts_read parts text end s) fault
    → IsDeadText text at fault (part ∷ parts) before
part_or_later part parts text at fault before later (inl is) = here_dead part parts text at fault before (part_dead part text at fault before is)
part_or_later part parts text at fault before later (inr read) =
    there_dead part parts text at read.next fault before read.value (part_sound part text at before read.value read.next read.read) (later read.next read.value read.then)

parts_dead : (parts : List Part) (text : List ℕ) (at fault : ℕ) (before : Said) → parts_read parts text at before ≡ Err (Mismatch fault)
    → IsDeadText text at fault parts before
parts_dead [] text at fault before is = cc
parts_dead (part ∷ parts) text at fault before is =
    part_or_later part parts text at fault before (λ next said then. parts_dead parts text next fault said then)
    (faulted (part_read part text at before) (λ s end. parts_read parts text end s) fault is)

dead_end : (width : ℕ) (parts : List Part) (location : ℤ) (text : List ℕ) (at : ℕ) → DeadText width text 0 at parts (nothing_said location)
    → at + width ≤ length text → IsDeadEnd parts location (take (at + width) text)
dead_end width parts location text at dead within more said made =
    dead (take (at + width) text) (drop (at + width) text) (sym (take-append-drop (at + width) text)) (omega (arith, length-take (at + width) text)) more said made

stops : (parts : List Part) (location : ℤ) (text : List ℕ) (at : ℕ) → IsDeadText text 0 at parts (nothing_said location) → StopsAt parts location text at
stops parts location text at (within, inl dead) = inl (λ inside. dead_end 1 parts location text at dead (omega arith))
stops parts location text at (within, inr dead) = inr (dead.0, λ inside. dead_end 2 parts location text at dead.1 inside)

pub whole_faults : (more : Bool) (text : List ℕ) (at fault : ℕ) (s : Said)
    → cond {A = Reading Said} more (Err (Mismatch at)) (Ok (s, at)) ≡ Err (Mismatch fault) → at ≡ fault
whole_faults true text at fault s is = same_place at fault is
whole_faults false text at fault s is = cc

layout_cases : (parts : List Part) (location : ℤ) (text : List ℕ) (at : ℕ)
    → (parts_read parts text 0 (nothing_said location) ≡ Err (Mismatch at)) ⊎ Faulted (parts_read parts text 0 (nothing_said location)) (whole text) at
    → StopsAt parts location text at
layout_cases parts location text at (inl is) = stops parts location text at (parts_dead parts text 0 at (nothing_said location) is)
layout_cases parts location text at (inr read) =
    let place : read.next ≡ at = whole_faults (nat_lt read.next (length text)) text read.next at read.value read.then in
    let dead = left_dead parts text 0 read.next (nothing_said location) read.value read.read in
    subst (λ fault. StopsAt parts location text fault) place (stops parts location text read.next (dead.0, inl dead.1))

-- where a text is refused it can't go on
pub fault_stops : (parts : List Part) (location : ℤ) (text : List ℕ) (at : ℕ) → layout_read parts location text ≡ Err (Mismatch at)
    → StopsAt parts location text at
fault_stops parts location text at is =
    layout_cases parts location text at (faulted (parts_read parts text 0 (nothing_said location)) (whole text) at is)
