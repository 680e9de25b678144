-- A text of parts is read as them.
use Rattle.std.proofs.Common.{◌≡◌, ◌≢◌, ◌∙◌, sym, ap, refl, ℕ, ◌+◌, min, List, [], ◌∷◌, ◌++◌, length, drop, false, Ok, ℤ, ◌⊎◌, inl, inr, arith, zero-add, eq-eqb}
use Rattle.std.proofs.Math.ListN.{length-append}
use Rattle.std.proofs.lemmas.Bool.{le-ltb, ne_eqb}
use Rattle.case_table.specs.Tables.{month_table, month_name_table, day_name_table}
use Rattle.time_layout.specs.declared.parts.Part.{Part}
use Rattle.time_layout.specs.declared.parts.Part.TheVariants.{Literal, Year, ShortYear, Month, MonthName, Day, PaddedDay, WeekdayName, Hour, TwelveHour, Meridiem, Minute, Second, Fraction, PointFraction, Zone, UnpaddedMonth, FullMonthName, UnpaddedDay, FullWeekdayName, UnpaddedTwelveHour, FixedFraction, FractionPoint, Offset, ZoneName}
use Rattle.time_layout.specs.declared.parts.Said.{Said}
use Rattle.time_layout.specs.Atoms.{Reading, and_then, optional_fraction, stands}
use Rattle.time_layout.specs.Names.{weekday_table, meridiem_table}
use Rattle.time_layout.specs.Parts.{part_read, parts_read, layout_read, nothing_said, full_year, clock_of}
use Rattle.time_layout.specs.Texts.{Spells, IsTextOf, IsFraction}
use Rattle.time_layout.proofs.CompleteForms.{fixed_fraction_reads, fraction_point_reads, zone_name_reads}
use Rattle.time_layout.proofs.Completes.{stands_is, stands_nowhere, behind, behind_one, number_reads, fraction_reads, name_reads, unpadded_reads, padded_day_reads, signed_reads, zone_reads}
use Rattle.time_layout.proofs.FullNames.{months_apart, days_apart, full_name_reads}

through : {A : Type 0} (reading : Reading A) (value : A) (next : ℕ) (say : A → Said) (said : Said) → reading ≡ Ok (value, next) → said ≡ say value
    → and_then reading (λ v n. Ok (say v, n)) ≡ Ok (said, next)
through reading value next say said read said_is = rw (read, said_is) refl

no_point : (at : ℕ) (text rest : List ℕ) → drop at text ≡ rest → ((more : List ℕ) → rest ≢ 46 ∷ more) → stands 46 text at ≡ false
no_point at text [] is other = stands_nowhere 46 at text is
no_point at text (first ∷ rest) is other = stands_is 46 at text first rest is ∙ ne_eqb first 46 (λ same. other rest (ap (λ byte. byte ∷ rest) same))

optional_reads : (most at value : ℕ) (text own rest : List ℕ) → drop at text ≡ own ++ rest
    → ((own ≡ []) × ((more : List ℕ) → rest ≢ 46 ∷ more) × (value ≡ 0)) ⊎ ((digits : List ℕ) × (own ≡ 46 ∷ digits) × IsFraction most digits rest value)
    → optional_fraction most text at ≡ Ok (value, at + length own)
optional_reads most at value text own rest is (inl none) =
    let here : drop at text ≡ rest = is ∙ ap (λ bytes. bytes ++ rest) none.0 in
    let size : at ≡ at + length own = omega (arith, ap length none.0) in
    rw (no_point at text rest here none.1) (ap (λ n. Ok (n, at)) (sym none.2) ∙ ap (λ n. Ok (value, n)) size)
optional_reads most at value text own rest is (inr some) =
    let begins : drop at text ≡ 46 ∷ (some.0 ++ rest) = is ∙ ap (λ bytes. bytes ++ rest) some.1 in
    rw (stands_is 46 at text 46 (some.0 ++ rest) begins)
    (fraction_reads most (at + 1) value text some.0 rest (behind_one at text 46 (some.0 ++ rest) begins) some.2
    ∙ ap (λ next. Ok (value, next)) (omega (arith, ap length some.1)))

pub part_reads : (part : Part) (at : ℕ) (text own rest : List ℕ) (before said : Said) → drop at text ≡ own ++ rest → Spells part own rest before said
    → part_read part text at before ≡ Ok (said, at + length own)
part_reads (Literal byte) at text own rest before said is spelled =
    let begins : drop at text ≡ byte ∷ rest = is ∙ ap (λ bytes. bytes ++ rest) spelled.0 in
    let size : at + 1 ≡ at + length own = omega (arith, ap length spelled.0) in
    rw (stands_is byte at text byte rest begins, eq-eqb byte byte refl) (ap (λ s. Ok (s, at + 1)) (sym spelled.1) ∙ ap (λ n. Ok (said, n)) size)
part_reads Year at text own rest before said is spelled =
    through _ spelled.0 (at + length own) (λ v. record before { year = v }) said (number_reads 4 0 9999 at spelled.0 text own rest is spelled.1) spelled.2
part_reads ShortYear at text own rest before said is spelled =
    through _ spelled.0 (at + length own) (λ v. record before { year = full_year v }) said (number_reads 2 0 99 at spelled.0 text own rest is spelled.1) spelled.2
part_reads Month at text own rest before said is spelled =
    through _ spelled.0 (at + length own) (λ v. record before { month = v }) said (number_reads 2 1 12 at spelled.0 text own rest is spelled.1) spelled.2
part_reads MonthName at text own rest before said is spelled =
    through _ spelled.0 (at + length own) (λ v. record before { month = v }) said (name_reads month_table 3 at spelled.0 text own rest is spelled.1) spelled.2
part_reads Day at text own rest before said is spelled =
    through _ spelled.0 (at + length own) (λ v. record before { day = v }) said (number_reads 2 1 31 at spelled.0 text own rest is spelled.1) spelled.2
part_reads PaddedDay at text own rest before said is spelled =
    through _ spelled.0 (at + length own) (λ v. record before { day = v }) said (padded_day_reads at spelled.0 text own rest is spelled.1) spelled.2
part_reads WeekdayName at text own rest before said is spelled =
    through _ spelled.0 (at + length own) (λ v. before) said (name_reads weekday_table 3 at spelled.0 text own rest is spelled.1) spelled.2
part_reads Hour at text own rest before said is spelled =
    through _ spelled.0 (at + length own) (λ v. record before { hour = v }) said (number_reads 2 0 23 at spelled.0 text own rest is spelled.1) spelled.2
part_reads TwelveHour at text own rest before said is spelled =
    through _ spelled.0 (at + length own) (λ v. record before { hour = v }) said (number_reads 2 1 12 at spelled.0 text own rest is spelled.1) spelled.2
part_reads Meridiem at text own rest before said is spelled =
    through _ spelled.0 (at + length own) (λ v. record before { clock = clock_of v }) said (name_reads meridiem_table 2 at spelled.0 text own rest is spelled.1) spelled.2
part_reads Minute at text own rest before said is spelled =
    through _ spelled.0 (at + length own) (λ v. record before { minute = v }) said (number_reads 2 0 59 at spelled.0 text own rest is spelled.1) spelled.2
part_reads Second at text own rest before said is spelled =
    through _ spelled.0 (at + length own) (λ v. record before { second = v }) said (number_reads 2 0 59 at spelled.0 text own rest is spelled.1) spelled.2
part_reads Fraction at text own rest before said is spelled =
    through _ spelled.0 (at + length own) (λ v. record before { nanosecond = v }) said (fraction_reads 9 at spelled.0 text own rest is spelled.1) spelled.2
part_reads (PointFraction most) at text own rest before said is (inl none) =
    through _ 0 (at + length own) (λ v. record before { nanosecond = v }) said
    (optional_reads (min most 9) at 0 text own rest is (inl (none.0, none.1, refl))) none.2
part_reads (PointFraction most) at text own rest before said is (inr some) =
    through _ some.1 (at + length own) (λ v. record before { nanosecond = v }) said
    (optional_reads (min most 9) at some.1 text own rest is (inr (some.0, some.2, some.3))) some.4
part_reads (Zone colon) at text own rest before said is spelled =
    through _ spelled.0 (at + length own) (λ v. record before { offset = v }) said (zone_reads colon at spelled.0 text own rest is spelled.1) spelled.2
part_reads UnpaddedMonth at text own rest before said is spelled =
    through _ spelled.0 (at + length own) (λ v. record before { month = v }) said (unpadded_reads 12 at spelled.0 text own rest is spelled.1) spelled.2
part_reads FullMonthName at text own rest before said is spelled =
    through _ spelled.0 (at + length own) (λ v. record before { month = v }) said (full_name_reads month_name_table at spelled.0 text own rest months_apart is spelled.1) spelled.2
part_reads UnpaddedDay at text own rest before said is spelled =
    through _ spelled.0 (at + length own) (λ v. record before { day = v }) said (unpadded_reads 31 at spelled.0 text own rest is spelled.1) spelled.2
part_reads FullWeekdayName at text own rest before said is spelled =
    through _ spelled.0 (at + length own) (λ v. before) said (full_name_reads day_name_table at spelled.0 text own rest days_apart is spelled.1) spelled.2
part_reads UnpaddedTwelveHour at text own rest before said is spelled =
    through _ spelled.0 (at + length own) (λ v. record before { hour = v }) said (unpadded_reads 12 at spelled.0 text own rest is spelled.1) spelled.2
part_reads (FixedFraction digits) at text own rest before said is spelled =
    through _ spelled.0 (at + length own) (λ v. record before { nanosecond = v }) said (fixed_fraction_reads (min digits 9) at spelled.0 text own rest is spelled.1) spelled.2
part_reads FractionPoint at text own rest before said is spelled =
    through _ spelled.0 (at + length own) (λ v. record before { nanosecond = v }) said (fraction_point_reads at spelled.0 text own rest is spelled.1) spelled.2
part_reads (Offset colon) at text own rest before said is spelled =
    through _ spelled.0 (at + length own) (λ v. record before { offset = v }) said (signed_reads colon at spelled.0 text own rest is spelled.1) spelled.2
part_reads ZoneName at text own rest before said is spelled =
    through _ spelled.0 (at + length own) (λ v. record before { offset = v }) said (zone_name_reads at spelled.0 text own rest is spelled.1) spelled.2

pub parts_reads : (parts : List Part) (at : ℕ) (text own : List ℕ) (before said : Said) → drop at text ≡ own → IsTextOf parts own before said
    → parts_read parts text at before ≡ Ok (said, at + length own)
parts_reads [] at text own before said is made =
    let size : at ≡ at + length own = omega (arith, ap length made.0) in
    ap (λ s. Ok (s, at)) (sym made.1) ∙ ap (λ n. Ok (said, n)) size
parts_reads (part ∷ parts) at text own before said is made =
    let first = part_reads part at text made.0 made.1 before made.2 (is ∙ made.3) made.4 in
    let rest = parts_reads parts (at + length made.0) text made.1 made.2 said (behind at text made.0 made.1 (is ∙ made.3)) made.5 in
    let size : at + length made.0 + length made.1 ≡ at + length own = omega (arith, ap length made.3, length-append made.0 made.1) in
    rw first (rest ∙ ap (λ next. Ok (said, next)) size)

pub layout_reads : (parts : List Part) (location : ℤ) (text : List ℕ) (said : Said) → IsTextOf parts text (nothing_said location) said
    → layout_read parts location text ≡ Ok (said, length text)
layout_reads parts location text said made =
    let read = parts_reads parts 0 text text (nothing_said location) said refl made in
    rw (read, zero-add (length text), le-ltb (length text) (length text) (omega arith)) refl
