-- The parts of a text between delimiters.
use Rattle.std.proofs.Common.{◌≡◌, ℕ, suc, ◌+◌, ◌<◌, ◌≤◌, List, [], ◌∷◌, ◌++◌, ◌∙◌, ap, sym, refl, subst, Bool, true, false, not, ◌==◌, cond, length, take, drop, get_or, arith, eqb-true}
use Rattle.std.proofs.lemmas.List.{take-append-drop, drop_more}
use Rattle.std.proofs.lemmas.List.Sums.{prefix_len_stops}
use Rattle.std.proofs.lemmas.Str.{IsCharBoundary-before_ascii, IsCharBoundary-after_ascii}
use Rattle.std.specs.Cmp.Derive.{both_true}
use Rattle.std.specs.List.{list_all, position_or_len, prefix_len}
use Rattle.std.specs.Str.{IsUtf8, IsCharBoundary}
use Rattle.text_parsers.specs.CsvRecords.{in_front, parts_of}
use Rattle.text_parsers.specs.Inner.FirstPart.{Lacks}

abbrev first_place : ℕ → List ℕ → ℕ
first_place delimiter text = position_or_len (λ byte. byte == delimiter) text

parts_at : (delimiter : ℕ) (text : List ℕ) → first_place delimiter text < length text
    → parts_of delimiter text ≡ take (first_place delimiter text) text ∷ parts_of delimiter (drop (first_place delimiter text + 1) text)
parts_at delimiter [] h = absurd (omega arith)
parts_at delimiter (byte ∷ rest) h = by (byte == delimiter) h (parts_at delimiter rest)
  where
    by : (b : Bool) → cond (not b) (1 + first_place delimiter rest) 0 < suc (length rest)
        → (first_place delimiter rest < length rest → parts_of delimiter rest ≡ take (first_place delimiter rest) rest ∷ parts_of delimiter (drop (first_place delimiter rest + 1) rest))
        → cond b ([] ∷ parts_of delimiter rest) (in_front byte (parts_of delimiter rest))
        ≡ take (cond (not b) (1 + first_place delimiter rest) 0) (byte ∷ rest) ∷ parts_of delimiter (drop (cond (not b) (1 + first_place delimiter rest) 0 + 1) (byte ∷ rest))
    by true h r = refl
    by false h r =
        let k = first_place delimiter rest in
        let one : 1 + k ≡ suc k = omega arith in
        let two : (1 + k) + 1 ≡ suc (k + 1) = omega arith in
        ap (in_front byte) (r (omega arith))
        ∙ ap (λ n. take n (byte ∷ rest) ∷ parts_of delimiter (drop (k + 1) rest)) (sym one)
        ∙ ap (λ n. take (1 + k) (byte ∷ rest) ∷ parts_of delimiter (drop n (byte ∷ rest))) (sym two)

parts_whole : (delimiter : ℕ) (text : List ℕ) → length text ≤ first_place delimiter text → parts_of delimiter text ≡ text ∷ []
parts_whole delimiter [] h = refl
parts_whole delimiter (byte ∷ rest) h = by (byte == delimiter) h (parts_whole delimiter rest)
  where
    by : (b : Bool) → suc (length rest) ≤ cond (not b) (1 + first_place delimiter rest) 0 → (length rest ≤ first_place delimiter rest → parts_of delimiter rest ≡ rest ∷ [])
        → cond b ([] ∷ parts_of delimiter rest) (in_front byte (parts_of delimiter rest)) ≡ (byte ∷ rest) ∷ []
    by true h r = absurd (omega arith)
    by false h r = ap (in_front byte) (r (omega arith))

pub front_passes : (p : ℕ → Bool) (xs : List ℕ) → list_all p (take (prefix_len p xs) xs) ≡ true
front_passes p [] = refl
front_passes p (x ∷ xs) = by (p x) refl (front_passes p xs)
  where
    by : (b : Bool) → p x ≡ b → list_all p (take (prefix_len p xs) xs) ≡ true → list_all p (take (cond b (1 + prefix_len p xs) 0) (x ∷ xs)) ≡ true
    by true e r = let one : 1 + prefix_len p xs ≡ suc (prefix_len p xs) = omega arith in rw one (both_true e r)
    by false e r = refl

-- what a part up to a byte leaves, where the byte stands
pub cut_there : (d : ℕ) (text behind : List ℕ) (n : ℕ) → n < length text → get_or text n 0 ≡ d → behind ≡ drop (n + 1) text → text ≡ take n text ++ d ∷ behind
cut_there d text behind n h here is =
    sym (take-append-drop n text)
    ∙ ap (λ (l : List ℕ). take n text ++ l) (drop_more text n 0 h)
    ∙ ap (λ (x : ℕ). take n text ++ x ∷ drop (n + 1) text) here
    ∙ ap (λ (l : List ℕ). take n text ++ d ∷ l) (sym is)

module _ (delimiter : ℕ) (text bytes : List ℕ) (n : ℕ) (same : bytes ≡ text) (is : n ≡ position_or_len (λ byte. byte == delimiter) bytes) where
  is_first : n ≡ first_place delimiter text
  is_first = is ∙ ap (first_place delimiter) same

  pub part_cut : n < length text → parts_of delimiter text ≡ take n text ∷ parts_of delimiter (drop (n + 1) text)
  part_cut h =
      let first = is_first in
      parts_at delimiter text (omega arith) ∙ ap (λ k. take k text ∷ parts_of delimiter (drop (k + 1) text)) (sym first)

  pub part_uncut : length text ≤ n → parts_of delimiter text ≡ text ∷ []
  part_uncut h = let first = is_first in parts_whole delimiter text (omega arith)

  delimiter_at : n < length text → get_or text n 0 ≡ delimiter
  delimiter_at h =
      let first = is_first in
      eqb-true (get_or text n 0) delimiter
      (by (get_or text n 0 == delimiter) (ap (λ k. not (get_or text k 0 == delimiter)) first ∙ prefix_len_stops (λ byte. not (byte == delimiter)) text 0 (omega arith)))
    where
      by : (b : Bool) → not b ≡ false → b ≡ true
      by true e = refl
      by false e = sym e

  pub front_lacks : Lacks delimiter (take n text)
  front_lacks =
      let first = is_first in
      ap (λ k. list_all (λ byte. not (byte == delimiter)) (take k text)) first ∙ front_passes (λ byte. not (byte == delimiter)) text

  pub part_stands : n < length text → text ≡ take n text ++ delimiter ∷ drop (n + 1) text
  part_stands h = cut_there delimiter text (drop (n + 1) text) n h (delimiter_at h) refl

  module _ (low : delimiter < 128) (h : n < length text) where
    byte_is_low : get_or text n 0 < 128
    byte_is_low = subst (λ b. b < 128) (sym (delimiter_at h)) low

    pub part_ends : IsCharBoundary text n
    part_ends = IsCharBoundary-before_ascii text n h byte_is_low

    pub part_begins : IsUtf8 text → IsCharBoundary text (n + 1)
    part_begins utf8 = IsCharBoundary-after_ascii text n utf8 h byte_is_low
