-- What is read is a text of the parts.
use Rattle.std.proofs.Common.{◌≡◌, ◌∙◌, sym, ap, refl, subst, ℕ, ◌+◌, min, List, [], ◌∷◌, length, drop, Bool, true, false, cond, nat_lt, Ok, Err, ℤ, ◌↔◌, inl, inr, arith}
use Rattle.std.proofs.lemmas.List.{drop_all}
use Rattle.std.proofs.lemmas.Bool.{ltb-false, false≢true}
use Rattle.case_table.specs.Tables.{month_table, month_name_table, day_name_table}
use Rattle.time_layout.specs.declared.fault.TimeFault.TheVariants.{Mismatch}
use Rattle.time_layout.specs.declared.parts.Part.{Part}
use Rattle.time_layout.specs.declared.parts.Part.TheVariants.{Literal, Year, ShortYear, Month, MonthName, Day, PaddedDay, WeekdayName, Hour, TwelveHour, Meridiem, Minute, Second, Fraction, PointFraction, Zone, UnpaddedMonth, FullMonthName, UnpaddedDay, FullWeekdayName, UnpaddedTwelveHour, FixedFraction, FractionPoint, Offset, ZoneName}
use Rattle.time_layout.specs.declared.parts.Said.{Said}
use Rattle.time_layout.specs.Atoms.{Reading, and_then, number, name_at, full_name_at, unpadded, padded_day, signed, zone, zone_name, optional_fraction, fixed_fraction, fraction_point, stands, fraction}
use Rattle.time_layout.specs.Names.{weekday_table, meridiem_table}
use Rattle.time_layout.specs.Parts.{part_read, parts_read, layout_read, nothing_said, whole, full_year, clock_of}
use Rattle.time_layout.specs.Texts.{Spells, IsTextOf, IsFraction}
use Rattle.time_layout.proofs.CompleteParts.{layout_reads}
use Rattle.time_layout.proofs.Completes.{stands_is}
use Rattle.time_layout.proofs.FullNames.{full_name_sound}
use Rattle.time_layout.proofs.SoundForms.{fixed_fraction_sound, fraction_point_sound, zone_name_sound}
use Rattle.time_layout.proofs.Sounds.{Between, opened, same_value, same_next, standing, wider, weaker, number_sound, fraction_sound, name_sound, unpadded_sound, padded_day_sound, signed_sound, zone_sound}

-- a part's text, by what its reader read
spelled : {A : Type 0} (part : Part) (text : List ℕ) (at : ℕ) (before said : Said) (next : ℕ) (reading : Reading A) (say : A → Said)
    → and_then reading (λ v end. Ok (say v, end)) ≡ Ok (said, next)
    → ((v : A) (end : ℕ) → reading ≡ Ok (v, end) → Between text at end (λ own. Spells part own (drop end text) before (say v)))
    → Between text at next (λ own. Spells part own (drop next text) before said)
spelled part text at before said next reading say is sound =
    let o = opened reading (λ v end. Ok (say v, end)) said next is in
    let ends : o.next ≡ next = same_next (say o.value) said o.next next o.then in
    let says : say o.value ≡ said = same_value (say o.value) said o.next next o.then in
    let there = sound o.value o.next o.read in
    let P : Said → ℕ → Type 0 = λ s end. Between text at end (λ own. Spells part own (drop end text) before s) in
    subst (λ s. P s next) says (subst (P (say o.value)) ends there)

optional_cases : (point : Bool) (most : ℕ) (text : List ℕ) (at : ℕ) (before : Said) (v end : ℕ) → stands 46 text at ≡ point
    → cond point (fraction (min most 9) text (at + 1)) (Ok (0, at)) ≡ Ok (v, end)
    → Between text at end (λ own. Spells (PointFraction most) own (drop end text) before (record before { nanosecond = v }))
optional_cases true most text at before v end point is =
    wider text at end 46 (λ own. IsFraction (min most 9) own (drop end text) v) _ (standing 46 at text point)
    (λ own holds. inr (own, v, refl, holds, refl)) (fraction_sound (min most 9) text (at + 1) v end is)
optional_cases false most text at before v end point is = record {
  own = [];
  splits = ap (λ place. drop place text) (same_next 0 v at end is);
  size = omega (arith, same_next 0 v at end is);
  holds = inl (
    refl,
    (λ more begins. false≢true (sym point ∙ stands_is 46 at text 46 more (ap (λ place. drop place text) (same_next 0 v at end is) ∙ begins))),
    ap (λ n. record before { nanosecond = n }) (sym (same_value 0 v at end is)),
  );
}

literal_cases : (there : Bool) (byte : ℕ) (text : List ℕ) (at : ℕ) (before said : Said) (next : ℕ) → stands byte text at ≡ there
    → cond {A = Reading Said} there (Ok (before, at + 1)) (Err (Mismatch at)) ≡ Ok (said, next)
    → Between text at next (λ own. Spells (Literal byte) own (drop next text) before said)
literal_cases true byte text at before said next there is = record {
  own = byte ∷ [];
  splits = standing byte at text there ∙ ap (λ place. byte ∷ drop place text) (same_next before said (at + 1) next is);
  size = sym (same_next before said (at + 1) next is);
  holds = (refl, sym (same_value before said (at + 1) next is));
}
literal_cases false byte text at before said next there is = cc

pub part_sound : (part : Part) (text : List ℕ) (at : ℕ) (before said : Said) (next : ℕ) → part_read part text at before ≡ Ok (said, next)
    → Between text at next (λ own. Spells part own (drop next text) before said)
part_sound (Literal byte) text at before said next is = literal_cases (stands byte text at) byte text at before said next refl is
part_sound (PointFraction most) text at before said next is =
    spelled (PointFraction most) text at before said next (optional_fraction (min most 9) text at) (λ v. record before { nanosecond = v }) is
    (λ v end read. optional_cases (stands 46 text at) most text at before v end refl read)
part_sound Year text at before said next is =
    spelled Year text at before said next (number 4 0 9999 text at) (λ v. record before { year = v }) is
    (λ v end read. weaker text at end _ (λ own. Spells Year own (drop end text) before (record before { year = v })) (λ own splits holds. (v, holds, refl)) (number_sound 4 0 9999 text at v end read))
part_sound ShortYear text at before said next is =
    spelled ShortYear text at before said next (number 2 0 99 text at) (λ v. record before { year = full_year v }) is
    (λ v end read. weaker text at end _ (λ own. Spells ShortYear own (drop end text) before (record before { year = full_year v })) (λ own splits holds. (v, holds, refl)) (number_sound 2 0 99 text at v end read))
part_sound Month text at before said next is =
    spelled Month text at before said next (number 2 1 12 text at) (λ v. record before { month = v }) is
    (λ v end read. weaker text at end _ (λ own. Spells Month own (drop end text) before (record before { month = v })) (λ own splits holds. (v, holds, refl)) (number_sound 2 1 12 text at v end read))
part_sound MonthName text at before said next is =
    spelled MonthName text at before said next (name_at month_table 3 text at) (λ v. record before { month = v }) is
    (λ v end read. weaker text at end _ (λ own. Spells MonthName own (drop end text) before (record before { month = v })) (λ own splits holds. (v, holds, refl)) (name_sound month_table 3 text at v end read))
part_sound Day text at before said next is =
    spelled Day text at before said next (number 2 1 31 text at) (λ v. record before { day = v }) is
    (λ v end read. weaker text at end _ (λ own. Spells Day own (drop end text) before (record before { day = v })) (λ own splits holds. (v, holds, refl)) (number_sound 2 1 31 text at v end read))
part_sound PaddedDay text at before said next is =
    spelled PaddedDay text at before said next (padded_day text at) (λ v. record before { day = v }) is
    (λ v end read. weaker text at end _ (λ own. Spells PaddedDay own (drop end text) before (record before { day = v })) (λ own splits holds. (v, holds, refl)) (padded_day_sound text at v end read))
part_sound WeekdayName text at before said next is =
    spelled WeekdayName text at before said next (name_at weekday_table 3 text at) (λ v. before) is
    (λ v end read. weaker text at end _ (λ own. Spells WeekdayName own (drop end text) before (before)) (λ own splits holds. (v, holds, refl)) (name_sound weekday_table 3 text at v end read))
part_sound Hour text at before said next is =
    spelled Hour text at before said next (number 2 0 23 text at) (λ v. record before { hour = v }) is
    (λ v end read. weaker text at end _ (λ own. Spells Hour own (drop end text) before (record before { hour = v })) (λ own splits holds. (v, holds, refl)) (number_sound 2 0 23 text at v end read))
part_sound TwelveHour text at before said next is =
    spelled TwelveHour text at before said next (number 2 1 12 text at) (λ v. record before { hour = v }) is
    (λ v end read. weaker text at end _ (λ own. Spells TwelveHour own (drop end text) before (record before { hour = v })) (λ own splits holds. (v, holds, refl)) (number_sound 2 1 12 text at v end read))
part_sound Meridiem text at before said next is =
    spelled Meridiem text at before said next (name_at meridiem_table 2 text at) (λ v. record before { clock = clock_of v }) is
    (λ v end read. weaker text at end _ (λ own. Spells Meridiem own (drop end text) before (record before { clock = clock_of v })) (λ own splits holds. (v, holds, refl)) (name_sound meridiem_table 2 text at v end read))
part_sound Minute text at before said next is =
    spelled Minute text at before said next (number 2 0 59 text at) (λ v. record before { minute = v }) is
    (λ v end read. weaker text at end _ (λ own. Spells Minute own (drop end text) before (record before { minute = v })) (λ own splits holds. (v, holds, refl)) (number_sound 2 0 59 text at v end read))
part_sound Second text at before said next is =
    spelled Second text at before said next (number 2 0 59 text at) (λ v. record before { second = v }) is
    (λ v end read. weaker text at end _ (λ own. Spells Second own (drop end text) before (record before { second = v })) (λ own splits holds. (v, holds, refl)) (number_sound 2 0 59 text at v end read))
part_sound Fraction text at before said next is =
    spelled Fraction text at before said next (fraction 9 text at) (λ v. record before { nanosecond = v }) is
    (λ v end read. weaker text at end _ (λ own. Spells Fraction own (drop end text) before (record before { nanosecond = v })) (λ own splits holds. (v, holds, refl)) (fraction_sound 9 text at v end read))
part_sound (Zone colon) text at before said next is =
    spelled (Zone colon) text at before said next (zone colon text at) (λ v. record before { offset = v }) is
    (λ v end read. weaker text at end _ (λ own. Spells (Zone colon) own (drop end text) before (record before { offset = v })) (λ own splits holds. (v, holds, refl)) (zone_sound colon text at v end read))
part_sound UnpaddedMonth text at before said next is =
    spelled UnpaddedMonth text at before said next (unpadded 12 text at) (λ v. record before { month = v }) is
    (λ v end read. weaker text at end _ (λ own. Spells UnpaddedMonth own (drop end text) before (record before { month = v })) (λ own splits holds. (v, holds, refl)) (unpadded_sound 12 text at v end read))
part_sound FullMonthName text at before said next is =
    spelled FullMonthName text at before said next (full_name_at month_name_table text at) (λ v. record before { month = v }) is
    (λ v end read. weaker text at end _ (λ own. Spells FullMonthName own (drop end text) before (record before { month = v })) (λ own splits holds. (v, holds, refl)) (full_name_sound month_name_table text at v end read))
part_sound UnpaddedDay text at before said next is =
    spelled UnpaddedDay text at before said next (unpadded 31 text at) (λ v. record before { day = v }) is
    (λ v end read. weaker text at end _ (λ own. Spells UnpaddedDay own (drop end text) before (record before { day = v })) (λ own splits holds. (v, holds, refl)) (unpadded_sound 31 text at v end read))
part_sound FullWeekdayName text at before said next is =
    spelled FullWeekdayName text at before said next (full_name_at day_name_table text at) (λ v. before) is
    (λ v end read. weaker text at end _ (λ own. Spells FullWeekdayName own (drop end text) before (before)) (λ own splits holds. (v, holds, refl)) (full_name_sound day_name_table text at v end read))
part_sound UnpaddedTwelveHour text at before said next is =
    spelled UnpaddedTwelveHour text at before said next (unpadded 12 text at) (λ v. record before { hour = v }) is
    (λ v end read. weaker text at end _ (λ own. Spells UnpaddedTwelveHour own (drop end text) before (record before { hour = v })) (λ own splits holds. (v, holds, refl)) (unpadded_sound 12 text at v end read))
part_sound (FixedFraction digits) text at before said next is =
    spelled (FixedFraction digits) text at before said next (fixed_fraction (min digits 9) text at) (λ v. record before { nanosecond = v }) is
    (λ v end read. weaker text at end _ (λ own. Spells (FixedFraction digits) own (drop end text) before (record before { nanosecond = v })) (λ own splits holds. (v, holds, refl)) (fixed_fraction_sound (min digits 9) text at v end read))
part_sound FractionPoint text at before said next is =
    spelled FractionPoint text at before said next (fraction_point text at) (λ v. record before { nanosecond = v }) is
    (λ v end read. weaker text at end _ (λ own. Spells FractionPoint own (drop end text) before (record before { nanosecond = v })) (λ own splits holds. (v, holds, refl)) (fraction_point_sound text at v end read))
part_sound (Offset colon) text at before said next is =
    spelled (Offset colon) text at before said next (signed colon text at) (λ v. record before { offset = v }) is
    (λ v end read. weaker text at end _ (λ own. Spells (Offset colon) own (drop end text) before (record before { offset = v })) (λ own splits holds. (v, holds, refl)) (signed_sound colon text at v end read))
part_sound ZoneName text at before said next is =
    spelled ZoneName text at before said next (zone_name text at) (λ v. record before { offset = v }) is
    (λ v end read. weaker text at end _ (λ own. Spells ZoneName own (drop end text) before (record before { offset = v })) (λ own splits holds. (v, holds, refl)) (zone_name_sound text at v end read))

pub parts_sound : (parts : List Part) (text : List ℕ) (at : ℕ) (before said : Said) (next : ℕ) → parts_read parts text at before ≡ Ok (said, next)
    → drop next text ≡ [] → IsTextOf parts (drop at text) before said
parts_sound [] text at before said next is ends =
    (ap (λ place. drop place text) (same_next before said at next is) ∙ ends, sym (same_value before said at next is))
parts_sound (part ∷ parts) text at before said next is ends =
    let o = opened (part_read part text at before) (λ s end. parts_read parts text end s) said next is in
    let first = part_sound part text at before o.value o.next o.read in
    let rest = parts_sound parts text o.next o.value said next o.then ends in
    (first.own, drop o.next text, o.value, first.splits, first.holds, rest)

whole_cases : (more : Bool) (text : List ℕ) (at : ℕ) (s said : Said) (next : ℕ) → nat_lt at (length text) ≡ more
    → cond {A = Reading Said} more (Err (Mismatch at)) (Ok (s, at)) ≡ Ok (said, next) → (drop at text ≡ []) × (s ≡ said) × (at ≡ next)
whole_cases true text at s said next more is = cc
whole_cases false text at s said next more is = (drop_all at text (ltb-false at (length text) more), same_value s said at next is, same_next s said at next is)

pub layout_sound : (parts : List Part) (location : ℤ) (text : List ℕ) (said : Said) (next : ℕ) → layout_read parts location text ≡ Ok (said, next)
    → IsTextOf parts text (nothing_said location) said
layout_sound parts location text said next is =
    let o = opened (parts_read parts text 0 (nothing_said location)) (whole text) said next is in
    let all = whole_cases (nat_lt o.next (length text)) text o.next o.value said next refl o.then in
    parts_sound parts text 0 (nothing_said location) said o.next (o.read ∙ ap (λ s. Ok (s, o.next)) all.1) all.0

pub reads_exactly : (parts : List Part) (location : ℤ) (text : List ℕ) (said : Said)
    → (layout_read parts location text ≡ Ok (said, length text)) ↔ IsTextOf parts text (nothing_said location) said
reads_exactly parts location text said =
    (λ read. layout_sound parts location text said (length text) read, λ made. layout_reads parts location text said made)
