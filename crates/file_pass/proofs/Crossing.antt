-- The first line that passes a place.
use Rattle.std.proofs.Common.{◌≡◌, ℕ, ◌+◌, ◌-◌, ◌<◌, ◌≤◌, List, [], ◌∷◌, ◌++◌, length, drop, get_or, refl, sym, ◌∙◌, ap, subst, inl, inr, arith, length-append, length-drop, append_assoc, eq-eqb}
use Rattle.std.proofs.lemmas.Bool.{cases_lt, eqb-true}
use Rattle.std.proofs.lemmas.List.{append-nil, get_or-drop, get_or_append_left}
use Rattle.std.proofs.Math.Seq.{drop-append-add, get_or-append_seam}
use Rattle.std.specs.Prelude.{Option, Some, None, MatchOption}
use Rattle.memchr.specs.Find.{IsFirstByte, is_byte}
use Rattle.otlp_json.specs.IsOneLine.{IsOneLine}
use Rattle.standing.specs.Marks.{Mark}
use Rattle.file_pass.specs.Full.{Crosses, line_of, lines_text}

-- the first LF of the bytes stands there
pub record IsFirstLineFeed (bytes : List ℕ) (at : ℕ) : Type 0 where
  pub within : at < length bytes
  pub is : get_or bytes at 0 ≡ 10
  pub before : (k : ℕ) → k < at → get_or bytes k 0 ≡ 10 → ⊥

-- what a search tells
pub found_line_feed : (bytes : List ℕ) (r : Option ℕ) → IsFirstByte (is_byte 10) bytes r → MatchOption r ((k : ℕ) → k < length bytes → get_or bytes k 0 ≡ 10 → ⊥) (IsFirstLineFeed bytes)
found_line_feed bytes None none = λ k within is. none k (omega arith) within (eq-eqb (get_or bytes k 0) 10 is)
found_line_feed bytes (Some n) found = record {
  within = found.0.high;
  is = eqb-true (get_or bytes n 0) 10 found.1;
  before = λ k early is. found.0.before k (omega arith) early (eq-eqb (get_or bytes k 0) 10 is);
}

-- some line ends at the first LF from a place on, and those before it end before the place
pub record Splits (marks : List Mark) (place at : ℕ) : Type 0 where
  pub front : List Mark
  pub last : Mark
  pub back : List Mark
  pub split : marks ≡ front ++ last ∷ back
  pub within_before : length (lines_text front) ≤ place
  pub size_then : place + at + 1 ≡ length (lines_text (front ++ last ∷ []))

-- the first LF from a place on within a line is the line's own
ends_line : (content others all : List ℕ) (place at : ℕ) → all ≡ content ++ 10 ∷ others → ((k : ℕ) → k < length content → get_or content k 0 ≡ 10 → ⊥) → place ≤ length content → IsFirstLineFeed (drop place all) at → place + at ≡ length content
ends_line content others all place at is no_other within found = elim (cases_lt (place + at) (length content)) [
  | inl early ↦ absurd (no_other (place + at) early (sym (get_or_append_left content (10 ∷ others) 0 (place + at) early) ∙ ap (λ l. get_or l (place + at) 0) (sym is) ∙ sym (get_or-drop place all at 0) ∙ found.is))
  | inr late ↦ elim (cases_lt (length content) (place + at)) [
    | inl past ↦ absurd (found.before (length content - place) (omega (arith, past, within))
        (get_or-drop place all (length content - place) 0 ∙ ap (λ n. get_or all n 0) (omega (arith, within)) ∙ ap (λ l. get_or l (length content) 0) is ∙ get_or-append_seam content 10 others 0))
    | inr not_past ↦ omega (arith, late, not_past)
  ]
]

module _ (one_line : (mark : Mark) → IsOneLine (line_of mark)) where
  size_of : (mark : Mark) → length (line_of mark) ≡ length (one_line mark).content + 1
  size_of mark = omega (arith, ap length (one_line mark).ends, length-append (one_line mark).content (10 ∷ []))

  pub splits : (marks : List Mark) (place at : ℕ) (all : List ℕ) → all ≡ lines_text marks → place < length all → IsFirstLineFeed (drop place all) at → Splits marks place at
  splits [] place at all is within found = absurd (omega (arith, within, ap length is))
  splits (first ∷ rest) place at all is within found =
      let line = line_of first in
      let others = lines_text rest in
      let one = one_line first in
      let size : length line ≡ length one.content + 1 = size_of first in
      elim (cases_lt place (length line)) [
        | inl here ↦ record {
          front = [];
          last = first;
          back = rest;
          split = refl;
          within_before = omega arith;
          size_then = omega (arith, size, ap length (append-nil line), ends_line one.content others all place at (is ∙ ap (λ l. l ++ others) one.ends ∙ append_assoc one.content (10 ∷ []) others) (λ k lt. one.no_other k 0 lt) (omega (arith, here, size)) found);
        }
        | inr past ↦ (
            let shorter : drop place all ≡ drop (place - length line) others = ap (drop place) is ∙ ap (λ n. drop n (line ++ others)) (omega (arith, past)) ∙ drop-append-add line others (place - length line) in
            let next = splits rest (place - length line) at others refl (omega (arith, past, within, ap length is, length-append line others)) (subst (λ l. IsFirstLineFeed l at) shorter found) in
            record {
              front = first ∷ next.front;
              last = next.last;
              back = next.back;
              split = ap (λ (l : List Mark). first ∷ l) next.split;
              within_before = omega (arith, length-append line (lines_text next.front), next.within_before, past);
              size_then = omega (arith, past, next.size_then, length-append line (lines_text (next.front ++ next.last ∷ [])));
            })
      ]

  -- past each place in the lines there is an LF
  pub some_line_feed : (marks : List Mark) (place : ℕ) (all : List ℕ) → all ≡ lines_text marks → place < length all → ((k : ℕ) → k < length (drop place all) → get_or (drop place all) k 0 ≡ 10 → ⊥) → ⊥
  some_line_feed [] place all is within none = omega (arith, within, ap length is)
  some_line_feed (first ∷ rest) place all is within none =
      let line = line_of first in
      let others = lines_text rest in
      let one = one_line first in
      let size : length line ≡ length one.content + 1 = size_of first in
      elim (cases_lt place (length line)) [
        | inl here ↦ none (length one.content - place) (omega (arith, here, size, length-drop place all, ap length is, length-append line others))
            (get_or-drop place all (length one.content - place) 0 ∙ ap (λ n. get_or all n 0) (omega (arith, here, size))
            ∙ ap (λ l. get_or l (length one.content) 0) (is ∙ ap (λ l. l ++ others) one.ends ∙ append_assoc one.content (10 ∷ []) others) ∙ get_or-append_seam one.content 10 others 0)
        | inr past ↦ (
            let shorter : drop place all ≡ drop (place - length line) others = ap (drop place) is ∙ ap (λ n. drop n (line ++ others)) (omega (arith, past)) ∙ drop-append-add line others (place - length line) in
            some_line_feed rest (place - length line) others refl (omega (arith, past, within, ap length is, length-append line others))
            (subst (λ l. (k : ℕ) → k < length l → get_or l k 0 ≡ 10 → ⊥) shorter none))
      ]

  -- the line with which the output is too long
  pub crosses : (limit end : ℕ) (marks : List Mark) (at : ℕ) (all : List ℕ) → end ≤ limit → limit < end + length all → all ≡ lines_text marks → IsFirstLineFeed (drop (limit - end) all) at → Crosses limit end marks (limit + at + 1)
  crosses limit end marks at all le past is found =
      let parts = splits marks (limit - end) at all is (omega (arith, le, past)) found in
      record {
        front = parts.front;
        last = parts.last;
        back = parts.back;
        split = parts.split;
        within_before = omega (arith, le, parts.within_before);
        size_then = omega (arith, le, parts.size_then);
        too_much = omega arith;
      }
