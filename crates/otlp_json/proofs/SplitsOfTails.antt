-- The end of a line tells the file and the number, read from the right.
use Rattle.std.proofs.Common.{◌≡◌, ℕ, ◌<◌, ◌^◌, true, List, [], ◌∷◌, ◌++◌, ◌∙◌, refl, sym, ap, codes, decimal, reverse, drop}
use Rattle.std.proofs.lemmas.Bool.{and_parts}
use Rattle.std.proofs.lemmas.Fmt.{decimal_injective}
use Rattle.std.proofs.lemmas.List.{append_assoc, append_cancel_right, reverse-append, reverse-reverse}
use Rattle.std.proofs.lemmas.List.Folds.{list_all-append}
use Rattle.std.specs.List.{list_all}
use Rattle.otlp_json.specs.OutputLine.{line_tail}
use Rattle.otlp_json.proofs.Splits.{is_digit, goes_on, run_splits, digits_only}

digits_reversed : (bytes : List ℕ) → list_all is_digit bytes ≡ true → list_all is_digit (reverse bytes) ≡ true
digits_reversed [] e = refl
digits_reversed (x ∷ xs) e =
    let parts = and_parts (is_digit x) (list_all is_digit xs) e in
    ap (list_all is_digit) (reverse-append (x ∷ []) xs)
    ∙ list_all-append is_digit (reverse xs) (x ∷ [])
    ∙ rw (digits_reversed xs parts.1, parts.0) refl

-- two texts that end with a quote and a number tell the number
number_ends : (m n : ℕ) (x y : List ℕ) → m < 2 ^ 64 → n < 2 ^ 64 → x ++ 34 ∷ [] ++ decimal m ≡ y ++ 34 ∷ [] ++ decimal n → (m ≡ n) × (x ≡ y)
number_ends m n x y p q e =
    let turned : reverse (decimal m) ++ 34 ∷ reverse x ≡ reverse (decimal n) ++ 34 ∷ reverse y =
    sym (turn x (decimal m)) ∙ ap reverse e ∙ turn y (decimal n) in
    let same = run_splits (reverse (decimal m)) (reverse (decimal n)) (34 ∷ reverse x) (34 ∷ reverse y)
    (digits_reversed (decimal m) (digits_only m)) (digits_reversed (decimal n) (digits_only n)) (goes_on 34 (reverse x) refl) (goes_on 34 (reverse y) refl) turned in
    let number : decimal m ≡ decimal n = sym (reverse-reverse (decimal m)) ∙ ap reverse same.0 ∙ reverse-reverse (decimal n) in
    let front : x ≡ y = sym (reverse-reverse x) ∙ ap (λ l. reverse (drop 1 l)) same.1 ∙ reverse-reverse y in
    (decimal_injective m n p q number, front)
  where
    turn : (z ds : List ℕ) → reverse (z ++ 34 ∷ [] ++ ds) ≡ reverse ds ++ 34 ∷ reverse z
    turn z ds = reverse-append (z ++ 34 ∷ []) ds ∙ ap (λ l. reverse ds ++ l) (reverse-append z (34 ∷ []))

tail_regroup : (front : List ℕ) (id number : ℕ) → front ++ line_tail id number
    ≡ (((front ++ codes "\"agent.file\",\"value\":{\"intValue\":") ++ 34 ∷ [] ++ decimal id ++ codes "\"}},{\"key\":\"agent.line\",\"value\":{\"intValue\":") ++ 34 ∷ [] ++ decimal number) ++ codes "\"}}],\"name\":\"stanza_agent\"}}]}]}\n"
unfolding line_tail
tail_regroup front id number = sym (regroup_seven front (codes "\"agent.file\",\"value\":{\"intValue\":") (decimal id) (codes "\"}},{\"key\":\"agent.line\",\"value\":{\"intValue\":") (decimal number) (codes "\"}}],\"name\":\"stanza_agent\"}}]}]}\n"))
  where
    regroup_seven : (a b c d e f : List ℕ) → (((a ++ b) ++ 34 ∷ [] ++ c ++ d) ++ 34 ∷ [] ++ e) ++ f ≡ a ++ ((b ++ 34 ∷ []) ++ c ++ (d ++ 34 ∷ []) ++ e ++ f)
    regroup_seven a b c d e f = simp append_assoc

pub tail_splits : (id number other_id other_number : ℕ) (x y : List ℕ) → id < 2 ^ 64 → number < 2 ^ 64 → other_id < 2 ^ 64 → other_number < 2 ^ 64
    → x ++ line_tail id number ≡ y ++ line_tail other_id other_number → (id ≡ other_id) × (number ≡ other_number) × (x ≡ y)
tail_splits id number other_id other_number x y i n j m e =
    let file = codes "\"agent.file\",\"value\":{\"intValue\":" in
    let line = codes "\"}},{\"key\":\"agent.line\",\"value\":{\"intValue\":" in
    let end = codes "\"}}],\"name\":\"stanza_agent\"}}]}]}\n" in
    let my_file = (x ++ file) ++ 34 ∷ [] ++ decimal id in
    let your_file = (y ++ file) ++ 34 ∷ [] ++ decimal other_id in
    let ended = append_cancel_right (my_file ++ line ++ 34 ∷ [] ++ decimal number) (your_file ++ line ++ 34 ∷ [] ++ decimal other_number) end
    (sym (tail_regroup x id number) ∙ e ∙ tail_regroup y other_id other_number) in
    let numbers = number_ends number other_number (my_file ++ line) (your_file ++ line) n m ended in
    let ids = number_ends id other_id (x ++ file) (y ++ file) i j (append_cancel_right my_file your_file line numbers.1) in
    (ids.0, numbers.0, append_cancel_right x y file ids.1)
