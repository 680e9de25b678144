-- Numbers of rounds, and what `parse` makes of them.
use Rattle.std.proofs.Common.{◌≡◌, ◌≤◌, ◌<◌, ◌^◌, ◌==◌, ◌||◌, ℕ, List, Bool, Result, Ok, Err, true, false, refl, ap, sym, ◌∙◌, arith, get_or, true≢false, zero, suc}
use Rattle.std.specs.Fmt.{decimal}
use Rattle.std.specs.Str.Parse.{AllDigits, ParsesUnsigned, digits_value}
use Rattle.std.proofs.lemmas.Result.{OkIff-at_ok}
use Rattle.std.proofs.lemmas.Bool.{ne_eqb}
use Rattle.std.proofs.lemmas.Fmt.{decimal-digits_value, decimal_digit, first_decimal, parse-decimal}
use Rattle.std.proofs.lemmas.Str.Parse.{IsNumeralModel, numerals_by_value, parse_plain, tells_digits}
use Rattle.command_words.specs.Rounds.{SpellsRounds}

abbrev pub begins_otherwise : List ℕ → Bool
begins_otherwise text = get_or text 0 0 == 43 || get_or text 0 0 == 48

neither : (x : ℕ) → (x ≡ 43 → ⊥) → (x ≡ 48 → ⊥) → (x == 43 || x == 48) ≡ false
neither x no_plus no_zero = rw (ne_eqb x 43 no_plus, ne_eqb x 48 no_zero) refl

-- and the other way
is_neither : (x : ℕ) → (x == 43 || x == 48) ≡ false → (x ≡ 43 → ⊥) × (x ≡ 48 → ⊥)
is_neither x none = (λ e. let begun : (43 == 43 || 43 == 48) ≡ false = rw e at none in true≢false begun, λ e. let begun : (48 == 43 || 48 == 48) ≡ false = rw e at none in true≢false begun)

-- no number of rounds begins so
pub spelled_begins : (text : List ℕ) → begins_otherwise text ≡ true → (rounds : ℕ) → SpellsRounds text rounds → ⊥
spelled_begins text begun rounds spelled =
    let first = first_decimal rounds (omega (arith, spelled.0)) (omega (arith, spelled.1)) in
    let here : 48 < get_or text 0 0 = rw spelled.2 first in
    let not_begun : begins_otherwise text ≡ false = neither (get_or text 0 0) (λ e. omega (arith, here, e)) (λ e. omega (arith, here, e)) in
    true≢false (sym begun ∙ not_begun)

own : IsNumeralModel (AllDigits 10) (digits_value 10)
own = numerals_by_value _ tells_digits

-- a number that is parsed is spelled by the text
pub parsed_spells : {E : Type 0} (text : List ℕ) (r : Result ℕ E) (rounds : ℕ) → begins_otherwise text ≡ false → ParsesUnsigned 16 10 text r → r ≡ Ok rounds → rounds ≤ 1000
    → SpellsRounds text rounds
parsed_spells text r rounds begun parsed is few =
    let begins = is_neither (get_or text 0 0) begun in
    let number = OkIff-at_ok r _ _ rounds (parse_plain own 16 text r parsed begins.0) is in
    let small : digits_value 10 text < 2 ^ 64 = omega (arith, number.1, few) in
    let spelled : decimal (digits_value 10 text) ≡ text = decimal-digits_value own text number.0.0 number.0.1 (λ e. absurd (begins.1 e)) small in
    let same : text ≡ decimal rounds = sym spelled ∙ ap decimal (sym number.1) in
    (some rounds text same begins.1, few, same)
  where
    some : (n : ℕ) (text : List ℕ) → text ≡ decimal n → (get_or text 0 0 ≡ 48 → ⊥) → 1 ≤ n
    some zero text is begins = absurd (begins (ap (λ t. get_or t 0 0) (is ∙ decimal_digit 0 (omega arith))))
    some (suc n) text is begins = omega arith

-- a number of rounds is parsed
pub spelled_parses : {E : Type 0} (text : List ℕ) (r : Result ℕ E) (rounds : ℕ) → SpellsRounds text rounds → ParsesUnsigned 16 10 text r → r ≡ Ok rounds
spelled_parses text r rounds spelled parsed =
    parse-decimal 16 rounds text r (omega (arith, spelled.1)) (omega (arith, spelled.1)) spelled.2 parsed

abbrev number_or_zero : {E : Type 0} → Result ℕ E → ℕ
number_or_zero (Ok n) = n
number_or_zero (Err e) = 0

-- so a text of which too great a number is parsed spells none
pub great_spells_none : {E : Type 0} (text : List ℕ) (r : Result ℕ E) (great : ℕ) → ParsesUnsigned 16 10 text r → r ≡ Ok great → 1000 < great
    → (rounds : ℕ) → SpellsRounds text rounds → ⊥
great_spells_none text r great parsed is more rounds spelled =
    let same : great ≡ rounds = ap number_or_zero (sym is ∙ spelled_parses text r rounds spelled parsed) in
    omega (arith, same, more, spelled.1)

-- and one of which none is parsed
pub refused_spells_none : {E : Type 0} (text : List ℕ) (r : Result ℕ E) (e : E) → ParsesUnsigned 16 10 text r → r ≡ Err e → (rounds : ℕ) → SpellsRounds text rounds → ⊥
refused_spells_none text r e parsed is rounds spelled =
    let same : 0 ≡ rounds = ap number_or_zero (sym is ∙ spelled_parses text r rounds spelled parsed) in
    omega (arith, same, spelled.0)
