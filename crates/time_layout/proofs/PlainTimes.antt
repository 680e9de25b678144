-- Times of RFC 3339 that are read without a walk over their parts.
use Rattle.std.proofs.Common.{◌≡◌, ◌∙◌, ap, refl, ℕ, suc, ◌+◌, ◌*◌, ◌<◌, ◌≤◌, List, [], ◌∷◌, length, drop, get_or, ◌&&◌, true, Ok, pos, arith}
use Rattle.std.proofs.Math.Seq.{drop-cons}
use Rattle.time_layout.specs.declared.parts.Clock.TheVariants.{Full}
use Rattle.time_layout.specs.declared.parts.Part.{Part}
use Rattle.time_layout.specs.Atoms.{number, stands, IsPair}
use Rattle.time_layout.specs.Iso.{plain_parts, has_marks}
use Rattle.time_layout.specs.Parts.{parts_read, nothing_said}
use Rattle.time_layout.proofs.Completes.{number_reads}
use Rattle.time_layout.proofs.Sounds.{both}

-- the two bytes at a place and those behind
two_here : (text : List ℕ) (at : ℕ) → at + 1 < length text → drop at text ≡ get_or text at 0 ∷ get_or text (at + 1) 0 ∷ drop (at + 2) text
two_here text at within =
    let one : drop at text ≡ get_or text at 0 ∷ drop (suc at) text = drop-cons text at 0 (omega arith) in
    let next : suc at ≡ at + 1 = omega arith in
    let two : drop (at + 1) text ≡ get_or text (at + 1) 0 ∷ drop (suc (at + 1)) text = drop-cons text (at + 1) 0 within in
    let last : suc (at + 1) ≡ at + 2 = omega arith in
    one ∙ ap (λ n. get_or text at 0 ∷ drop n text) next ∙ ap (λ rest. get_or text at 0 ∷ rest) two
    ∙ ap (λ n. get_or text at 0 ∷ get_or text (at + 1) 0 ∷ drop n text) last

pub pair_read : (low high at value : ℕ) (text : List ℕ) → at + 1 < length text → IsPair text at value → low ≤ value → value ≤ high
    → number 2 low high text at ≡ Ok (value, at + 2)
pair_read low high at value text within pair least greatest =
    number_reads 2 low high at value text (get_or text at 0 ∷ get_or text (at + 1) 0 ∷ []) (drop (at + 2) text) (two_here text at within) (record {
      all = rw (pair.tens, pair.ones) refl;
      size = refl;
      value_is = omega (arith, pair.value_is);
      least = least;
      greatest = greatest;
    })

pub pairs_read : (century year : ℕ) (text : List ℕ) → 4 ≤ length text → IsPair text 0 century → IsPair text 2 year → century ≤ 99 → year ≤ 99
    → number 4 0 9999 text 0 ≡ Ok (century * 100 + year, 4)
pairs_read century year text within front behind few small =
    let is = two_here text 0 (omega arith) ∙ ap (λ rest. get_or text 0 0 ∷ get_or text 1 0 ∷ rest) (two_here text 2 (omega arith)) in
    number_reads 4 0 9999 0 (century * 100 + year) text (get_or text 0 0 ∷ get_or text 1 0 ∷ get_or text 2 0 ∷ get_or text 3 0 ∷ []) (drop 4 text) is (record {
      all = rw (front.tens, front.ones, behind.tens, behind.ones) refl;
      size = refl;
      value_is = omega (arith, front.value_is, behind.value_is);
      least = omega arith;
      greatest = omega arith;
    })

-- numbers of the parts with the bytes between them
pub plain_read : (text : List ℕ) (year month day hour minute second : ℕ) → has_marks text ≡ true
    → number 4 0 9999 text 0 ≡ Ok (year, 4) → number 2 1 12 text 5 ≡ Ok (month, 7) → number 2 1 31 text 8 ≡ Ok (day, 10)
    → number 2 0 23 text 11 ≡ Ok (hour, 13) → number 2 0 59 text 14 ≡ Ok (minute, 16) → number 2 0 59 text 17 ≡ Ok (second, 19)
    → (rest : List Part) → parts_read (plain_parts rest) text 0 (nothing_said (pos 0))
    ≡ parts_read rest text 19 (record { year = year; month = month; day = day; clock = Full; hour = hour; minute = minute; second = second; nanosecond = 0; offset = pos 0 })
plain_read text year month day hour minute second marks year_is month_is day_is hour_is minute_is second_is rest =
    let four = both (stands 45 text 4 && stands 45 text 7 && stands 84 text 10 && stands 58 text 13) (stands 58 text 16) marks in
    let three = both (stands 45 text 4 && stands 45 text 7 && stands 84 text 10) (stands 58 text 13) four.0 in
    let two = both (stands 45 text 4 && stands 45 text 7) (stands 84 text 10) three.0 in
    let one = both (stands 45 text 4) (stands 45 text 7) two.0 in
    rw (year_is, one.0, month_is, one.1, day_is, two.1, hour_is, three.1, minute_is, four.1, second_is) refl
