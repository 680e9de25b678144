-- Numbers beside quotes.
use Rattle.std.proofs.Common.{◌≡◌, inl, inr, ℕ, zero, suc, ◌+◌, ◌-◌, ◌<◌, true, false, List, [], ◌∷◌, ◌++◌, refl, sym, ap, ◌∙◌, arith, length, get_or, decimal, append_assoc, length-append}
use Rattle.std.specs.Prelude.{Option, Some, None, codes}
use Rattle.std.specs.List.{list_all}
use Rattle.std.proofs.lemmas.Bool.{and_parts, eqb-true, eq-eqb, cases_order}
use Rattle.std.proofs.lemmas.List.{get_or_at, get_or-append_right, get_or_append_left, length_push}
use Rattle.memchr.specs.Find.{IsFirstByte, IsLastByte, is_byte, Passes}
use Rattle.otlp_json.specs.OutputLine.{line_tail}
use Rattle.otlp_json.proofs.Splits.{is_digit}

-- no digit is a quote
no_quote : (d : List ℕ) → list_all is_digit d ≡ true → (k : ℕ) → k < length d → get_or d k 0 ≡ 34 → ⊥
no_quote [] all k l e = absurd (omega arith)
no_quote (x ∷ d) all zero l e =
    let digit : is_digit x ≡ true = (and_parts (is_digit x) (list_all is_digit d) all).0 in
    let clash : true ≡ false = sym digit ∙ ap is_digit e in cc
no_quote (x ∷ d) all (suc k) l e = no_quote d (and_parts (is_digit x) (list_all is_digit d) all).1 k (omega arith) e

is_quote : (text : List ℕ) (k : ℕ) → get_or text k 0 ≡ 34 → Passes (is_byte 34) text k
is_quote text k e = eq-eqb (get_or text k 0) 34 e

quote_is : (text : List ℕ) (k : ℕ) → Passes (is_byte 34) text k → get_or text k 0 ≡ 34
quote_is text k e = eqb-true (get_or text k 0) 34 e

-- the first quote behind a number stands at its end
pub first_quote : (d rest : List ℕ) (found : Option ℕ) → list_all is_digit d ≡ true → IsFirstByte (is_byte 34) (d ++ 34 ∷ rest) found → found ≡ Some (length d)
first_quote d rest None all none =
    absurd (none (length d) (omega arith) (omega (arith, length-append d (34 ∷ rest))) (is_quote (d ++ 34 ∷ rest) (length d) (get_or_at d 34 rest 0 (length d) refl)))
first_quote d rest (Some k) all there =
    let passes = quote_is (d ++ 34 ∷ rest) k there.1 in
    elim (cases_order k (length d)) [
      | inl e ↦ ap Some e
      | inr o ↦ elim o [
        | inl l ↦ absurd (no_quote d all k l (sym (get_or_append_left d (34 ∷ rest) 0 k l) ∙ passes))
        | inr l ↦ absurd (there.0.before (length d) (omega arith) l (is_quote (d ++ 34 ∷ rest) (length d) (get_or_at d 34 rest 0 (length d) refl)))
      ]
    ]

at_quote : (x d : List ℕ) → get_or ((x ++ 34 ∷ []) ++ d) (length x) 0 ≡ 34
at_quote x d = ap (λ l. get_or l (length x) 0) (append_assoc x (34 ∷ []) d) ∙ get_or_at x 34 d 0 (length x) refl

-- the last quote before a number stands in front of it
pub last_quote : (x d : List ℕ) (found : Option ℕ) → list_all is_digit d ≡ true → IsLastByte (is_byte 34) ((x ++ 34 ∷ []) ++ d) found → found ≡ Some (length x)
last_quote x d None all none =
    absurd (none (length x) (omega arith) (omega (arith, length-append (x ++ 34 ∷ []) d, length-append x (34 ∷ [])))
    (is_quote ((x ++ 34 ∷ []) ++ d) (length x) (at_quote x d)))
last_quote x d (Some k) all there =
    let passes = quote_is ((x ++ 34 ∷ []) ++ d) k there.1 in
    let high = there.0.high in
    let long = length-append (x ++ 34 ∷ []) d in
    let one = length_push x 34 in
    elim (cases_order k (length x)) [
      | inl e ↦ ap Some e
      | inr o ↦ elim o [
        | inl l ↦ absurd (there.0.after (length x) (omega arith) (omega arith) (is_quote ((x ++ 34 ∷ []) ++ d) (length x) (at_quote x d)))
        | inr l ↦ absurd (no_quote d all (k - (length x + 1)) (omega arith)
            (sym (get_or-append_right (x ++ 34 ∷ []) d (length x + 1) k 0 one (omega arith)) ∙ passes))
      ]
    ]

-- ---- a line's end

abbrev pub end_of_line : List ℕ
end_of_line = codes "\"}}],\"name\":\"stanza_agent\"}}]}]}\n"

-- what stands between the ends of two numbers, without its last quote
abbrev pub before_number : ℕ → List ℕ
before_number id = codes "\"agent.file\",\"value\":{\"intValue\":\"" ++ decimal id ++ codes "\"}},{\"key\":\"agent.line\",\"value\":{\"intValue\":"

number_stands : (a b q d c : List ℕ) → ((a ++ b) ++ q) ++ (34 ∷ []) ++ d ++ c ≡ (a ++ b ++ (q ++ 34 ∷ [])) ++ d ++ c
number_stands a b q d c = ap (λ (l : List ℕ). l ++ d ++ c) (append_assoc (a ++ b) q (34 ∷ []))

-- a line is its front, a quote, its number and its end
pub told_at_end : (front : List ℕ) (id number : ℕ)
    → front ++ line_tail id number ≡ (((front ++ before_number id) ++ 34 ∷ []) ++ decimal number) ++ end_of_line
unfolding line_tail
told_at_end front id number =
    let a = codes "\"agent.file\",\"value\":{\"intValue\":\"" in
    let q = codes "\"}},{\"key\":\"agent.line\",\"value\":{\"intValue\":" in
    sym (append_assoc (front ++ before_number id ++ 34 ∷ []) (decimal number) end_of_line
    ∙ (ap (λ (l : List ℕ). l ++ (decimal number ++ end_of_line)) (append_assoc front (before_number id) (34 ∷ []))
    ∙ (append_assoc front (before_number id ++ 34 ∷ []) (decimal number ++ end_of_line)
    ∙ ap (λ (l : List ℕ). front ++ l) (sym (append_assoc (before_number id ++ 34 ∷ []) (decimal number) end_of_line)
    ∙ number_stands a (decimal id) q (decimal number) end_of_line))))
