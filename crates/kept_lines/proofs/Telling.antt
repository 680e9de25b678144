-- What the end of a line tells.
use Rattle.std.proofs.Common.{◌≡◌, ℕ, ◌+◌, ◌-◌, ◌<◌, ◌^◌, Bool, true, false, List, [], ◌∷◌, ◌++◌, refl, sym, subst, ap, ◌∙◌, length, take, drop, decimal, append_assoc}
use Rattle.std.specs.Prelude.{Option, Some, None, MatchBool, nat_eq, codes, IfSome, Result, Ok, Err}
use Rattle.std.specs.Result.{result_ok}
use Rattle.std.specs.Str.Parse.{ParsesUnsigned}
use Rattle.std.specs.List.{ends_with}
use Rattle.std.proofs.lemmas.Bool.Decides.{Decides-eqb}
use Rattle.std.proofs.lemmas.List.{append_cancel_right, drop_at, length_push}
use Rattle.std.proofs.lemmas.Slice.Eq.{ends_is}
use Rattle.memchr.specs.Find.{IsLastByte, is_byte}
use Rattle.otlp_json.specs.OutputLine.{line_tail}
use Rattle.otlp_json.proofs.Splits.{digits_only}
use Rattle.kept_lines.specs.OwnLines.{IsOf}
use Rattle.kept_lines.proofs.Quotes.{end_of_line, before_number, told_at_end, last_quote}

five : (o a b c d e : List ℕ) → o ++ a ++ b ++ c ++ d ++ e ≡ o ++ (a ++ b ++ c ++ d ++ e)
five o a b c d e = simp append_assoc

-- what stands before a line's end, where that is how a line of a file ends
pub before_end : (line front : List ℕ) (id number : ℕ) (rest : List ℕ) → line ≡ front ++ line_tail id number → line ≡ rest ++ end_of_line
    → rest ≡ ((front ++ before_number id) ++ 34 ∷ []) ++ decimal number
before_end line front id number rest e f =
    append_cancel_right rest (((front ++ before_number id) ++ 34 ∷ []) ++ decimal number) end_of_line (sym f ∙ (e ∙ told_at_end front id number))

-- a line of a file has that end
pub has_end : (line front : List ℕ) (id number : ℕ) → line ≡ front ++ line_tail id number
    → line ≡ (((front ++ before_number id) ++ 34 ∷ []) ++ decimal number) ++ end_of_line
has_end line front id number e = e ∙ told_at_end front id number

-- its digits stand behind its last quote
pub digits_behind : (rest front : List ℕ) (id number : ℕ) (quote : ℕ) → rest ≡ ((front ++ before_number id) ++ 34 ∷ []) ++ decimal number
    → IsLastByte (is_byte 34) rest (Some quote) → drop (quote + 1) rest ≡ decimal number
digits_behind rest front id number quote e found =
    let x = front ++ before_number id in
    let at = last_quote x (decimal number) (Some quote) (digits_only number) (subst (λ (l : List ℕ). IsLastByte (is_byte 34) l (Some quote)) e found) in
    let same : quote ≡ length x = cc in
    ap (λ (l : List ℕ). drop (quote + 1) l) e
    ∙ drop_at (x ++ 34 ∷ []) (decimal number) (quote + 1) (length_push x 34 ∙ ap (λ (n : ℕ). n + 1) (sym same))

pub quote_there : (rest front : List ℕ) (id number : ℕ) → rest ≡ ((front ++ before_number id) ++ 34 ∷ []) ++ decimal number → IsLastByte (is_byte 34) rest None → ⊥
quote_there rest front id number e none =
    let x = front ++ before_number id in
    let at = last_quote x (decimal number) None (digits_only number) (subst (λ (l : List ℕ). IsLastByte (is_byte 34) l None) e none) in
    absurd (nothing (length x) at)
  where
    nothing : (n : ℕ) → None ≡ Some n → ⊥
    nothing n at = cc

-- a line that ends as one with the number that it tells is of the file, and no other is
pub own_by_tail : (id number : ℕ) (line tail : List ℕ) (own : Bool) → number < 2 ^ 64 → tail ≡ line_tail id number → own ≡ ends_with nat_eq line tail
    → ((front : List ℕ) (other n : ℕ) → n < 2 ^ 64 → line ≡ front ++ line_tail other n → Some number ≡ Some n)
    → MatchBool own (IsOf id line) (IsOf id line → ⊥)
own_by_tail id number line tail true small t e told =
    let ends = ends_is Decides-eqb line tail true e in
    record { front = take (length line - length tail) line; number = number; small = small; ends = ends.0 refl ∙ ap (λ (l : List ℕ). take (length line - length tail) line ++ l) t }
own_by_tail id number line tail false small t e told = λ (is : IsOf id line).
    let ends = ends_is Decides-eqb line tail false e in
    let same : Some number ≡ Some is.number = told is.front id is.number is.small is.ends in
    let n : number ≡ is.number = cc in
    let f : false ≡ true = ends.1 is.front (is.ends ∙ ap (λ (l : List ℕ). is.front ++ l) (ap (line_tail id) (sym n) ∙ sym t)) in
    cc

pub none_told : (id : ℕ) (line : List ℕ) → ((front : List ℕ) (other n : ℕ) → n < 2 ^ 64 → line ≡ front ++ line_tail other n → None ≡ Some n) → MatchBool false (IsOf id line) (IsOf id line → ⊥)
none_told id line told = λ (is : IsOf id line).
    let none : None ≡ Some is.number = told is.front id is.number is.small is.ends in
    cc

-- a line's end, appended part by part
pub tail_parts : (out one two three : List ℕ) (id file number : ℕ) → file ≡ id → one ≡ out ++ codes "\"agent.file\",\"value\":{\"intValue\":\"" ++ decimal file
    → two ≡ one ++ codes "\"}},{\"key\":\"agent.line\",\"value\":{\"intValue\":\"" ++ decimal number → three ≡ two ++ end_of_line → three ≡ out ++ line_tail id number
unfolding line_tail
tail_parts out one two three id file number f a b c =
    let first = codes "\"agent.file\",\"value\":{\"intValue\":\"" in
    let second = codes "\"}},{\"key\":\"agent.line\",\"value\":{\"intValue\":\"" in
    c ∙ (ap (λ (l : List ℕ). l ++ end_of_line) (b ∙ ap (λ (l : List ℕ). l ++ second ++ decimal number) (a ∙ ap (λ (n : ℕ). out ++ first ++ decimal n) f))
    ∙ five out first (decimal id) second (decimal number) end_of_line)

-- a number that was read is of 64 bits
pub parsed_small : {E : Type 0} (number : Option ℕ) (digits : List ℕ) (read : Result ℕ E) → number ≡ result_ok read → ParsesUnsigned 64 10 digits read → IfSome number (λ n. n < 2 ^ 64)
parsed_small number digits (Ok n) e h =
    let P : Option ℕ → Type 0 = λ o. IfSome o (λ n. n < 2 ^ 64) in
    let high = h.0.1 in
    let small : n < 2 ^ 64 = subst (λ (m : ℕ). m < 2 ^ 64) (sym h.1) high in
    subst P (sym e) small
parsed_small number digits (Err fault) e h = let P : Option ℕ → Type 0 = λ o. IfSome o (λ n. n < 2 ^ 64) in subst P (sym e) tt
