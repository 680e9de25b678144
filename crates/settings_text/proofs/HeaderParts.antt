-- The parts of a header between delimiters.
use denote.Ref.{Bor}
use Rattle.std.proofs.Common.{◌≡◌, ℕ, suc, ◌+◌, ◌<◌, ◌≤◌, List, [], ◌∷◌, ◌++◌, ◌∙◌, ap, sym, refl, Bool, true, false, not, ◌==◌, ◌&&◌, ◌||◌, cond, length, take, drop, arith}
use Rattle.std.proofs.lemmas.Map.Text.{is_eq-slice_cmp}
use Rattle.std.specs.BTreeMap.{is_at}
use Rattle.std.specs.BTreeSet.{BTreeSet, Updates}
use Rattle.std.specs.Cmp.Lexicographic.{slice_cmp}
use Rattle.std.specs.List.{list_any, position_or_len}
use Rattle.std.specs.Ordering.{nat_cmp}
use Rattle.std.specs.Str.{bytes_eq}
use Rattle.settings_text.specs.Ids.{is_taken}
use Rattle.settings_text.specs.Names.{in_front, parts_of, is_empty, are_names, has}

abbrev first_place : ℕ → List ℕ → ℕ
first_place delimiter text = position_or_len (λ byte. byte == delimiter) text

parts_at : (delimiter : ℕ) (text : List ℕ) → first_place delimiter text < length text
    → parts_of delimiter text ≡ take (first_place delimiter text) text ∷ parts_of delimiter (drop (first_place delimiter text + 1) text)
parts_at delimiter [] h = absurd (omega arith)
parts_at delimiter (byte ∷ rest) h = by (byte == delimiter) h (parts_at delimiter rest)
  where
    by : (b : Bool) → cond (not b) (1 + first_place delimiter rest) 0 < suc (length rest)
        → (first_place delimiter rest < length rest → parts_of delimiter rest ≡ take (first_place delimiter rest) rest ∷ parts_of delimiter (drop (first_place delimiter rest + 1) rest))
        → cond b ([] ∷ parts_of delimiter rest) (in_front byte (parts_of delimiter rest))
        ≡ take (cond (not b) (1 + first_place delimiter rest) 0) (byte ∷ rest) ∷ parts_of delimiter (drop (cond (not b) (1 + first_place delimiter rest) 0 + 1) (byte ∷ rest))
    by true h r = refl
    by false h r =
        let k = first_place delimiter rest in
        let one : 1 + k ≡ suc k = omega arith in
        let two : (1 + k) + 1 ≡ suc (k + 1) = omega arith in
        ap (in_front byte) (r (omega arith))
        ∙ ap (λ n. take n (byte ∷ rest) ∷ parts_of delimiter (drop (k + 1) rest)) (sym one)
        ∙ ap (λ n. take (1 + k) (byte ∷ rest) ∷ parts_of delimiter (drop n (byte ∷ rest))) (sym two)

parts_whole : (delimiter : ℕ) (text : List ℕ) → length text ≤ first_place delimiter text → parts_of delimiter text ≡ text ∷ []
parts_whole delimiter [] h = refl
parts_whole delimiter (byte ∷ rest) h = by (byte == delimiter) h (parts_whole delimiter rest)
  where
    by : (b : Bool) → suc (length rest) ≤ cond (not b) (1 + first_place delimiter rest) 0 → (length rest ≤ first_place delimiter rest → parts_of delimiter rest ≡ rest ∷ [])
        → cond b ([] ∷ parts_of delimiter rest) (in_front byte (parts_of delimiter rest)) ≡ (byte ∷ rest) ∷ []
    by true h r = absurd (omega arith)
    by false h r = ap (in_front byte) (r (omega arith))

pub part_cut : (delimiter : ℕ) (text : List ℕ) (n : ℕ) → n ≡ position_or_len (λ byte. byte == delimiter) text → n < length text → parts_of delimiter text ≡ take n text ∷ parts_of delimiter (drop (n + 1) text)
part_cut delimiter text n is h = parts_at delimiter text (omega (arith, is, h)) ∙ ap (λ k. take k text ∷ parts_of delimiter (drop (k + 1) text)) (sym is)

pub part_uncut : (delimiter : ℕ) (text : List ℕ) (n : ℕ) → n ≡ position_or_len (λ byte. byte == delimiter) text → length text ≤ n → parts_of delimiter text ≡ text ∷ []
part_uncut delimiter text n is h = parts_whole delimiter text (omega (arith, is, h))

-- ---- names, from the first on

-- whether the names are none of those that are seen, and make names
abbrev pub fresh : (List ℕ → Bool) → List (List ℕ) → Bool
fresh seen [] = true
fresh seen (name ∷ names) = not (is_empty name || seen name) && fresh (λ other. bytes_eq name other || seen other) names

fresh_alike : (seen known : List ℕ → Bool) → ((name : List ℕ) → seen name ≡ known name) → (names : List (List ℕ)) → fresh seen names ≡ fresh known names
fresh_alike seen known same [] = refl
fresh_alike seen known same (name ∷ names) =
    ap (λ b. not (is_empty name || b) && fresh (λ other. bytes_eq name other || seen other) names) (same name)
    ∙ ap (λ b. not (is_empty name || known name) && b) (fresh_alike (λ other. bytes_eq name other || seen other) (λ other. bytes_eq name other || known other) (λ other. ap (λ b. bytes_eq name other || b) (same other)) names)

taken_or : (one other : List ℕ → Bool) (names : List (List ℕ)) → list_any (λ name. one name || other name) names ≡ (list_any one names || list_any other names)
taken_or one other [] = refl
taken_or one other (name ∷ names) = ap (λ b. (one name || other name) || b) (taken_or one other names) ∙ by (one name) (other name) (list_any one names) (list_any other names)
  where
    by : (a b c d : Bool) → ((a || b) || (c || d)) ≡ ((a || c) || (b || d))
    by true b c d = refl
    by false true true d = refl
    by false true false d = refl
    by false false c d = refl

settled : (empty seen taken names more : Bool) → (not (empty || seen) && (names && not (taken || more))) ≡ ((not (empty || taken) && names) && not (seen || more))
settled true s t n m = refl
settled false true true n m = refl
settled false true false true m = refl
settled false true false false m = refl
settled false false true true m = refl
settled false false true false m = refl
settled false false false n m = refl

fresh_is : (seen : List ℕ → Bool) (names : List (List ℕ)) → fresh seen names ≡ (are_names names && not (list_any seen names))
fresh_is seen [] = refl
fresh_is seen (name ∷ names) =
    ap (λ b. not (is_empty name || seen name) && b) (fresh_is (λ other. bytes_eq name other || seen other) names)
    ∙ ap (λ b. not (is_empty name || seen name) && (are_names names && not b)) (taken_or (bytes_eq name) seen names)
    ∙ settled (is_empty name) (seen name) (is_taken name names) (are_names names) (list_any seen names)

fresh_of_none : (names : List (List ℕ)) → fresh (λ _. false) names ≡ are_names names
fresh_of_none names = fresh_is (λ _. false) names ∙ ap (λ b. are_names names && not b) (none names) ∙ by (are_names names)
  where
    none : (names : List (List ℕ)) → list_any (λ _. false) names ≡ false
    none [] = refl
    none (name ∷ names) = none names

    by : (b : Bool) → (b && true) ≡ b
    by true = refl
    by false = refl

pub fresh_at_first : (texts : BTreeSet (Bor (List ℕ))) → texts.keys ≡ [] → (names : List (List ℕ)) → fresh (has texts) names ≡ are_names names
fresh_at_first texts none names =
    fresh_alike (has texts) (λ _. false) (λ name. ap (list_any (is_at (λ (other : Bor (List ℕ)). slice_cmp nat_cmp name other.now))) none) names
    ∙ fresh_of_none names

-- ---- sets of texts

or_cond : (one other : Bool) → cond one true other ≡ (one || other)
or_cond true other = refl
or_cond false other = refl

pub has_more : (texts more : BTreeSet (Bor (List ℕ))) (text : Bor (List ℕ)) → Updates (λ x y. slice_cmp nat_cmp x.now y.now) texts more text true
    → (other : List ℕ) → has more other ≡ (bytes_eq text.now other || has texts other)
has_more texts more text updated other =
    updated.0 (record { ref_ptr = (0, 0); now = other })
    ∙ ap (λ b. cond b true (has texts other)) (is_eq-slice_cmp text.now other)
    ∙ or_cond (bytes_eq text.now other) (has texts other)
