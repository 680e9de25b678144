-- A word has one byte at least, and no more than there are.
use Rattle.std.proofs.Common.{◌≡◌, ℕ, ℤ, suc, ◌+◌, ◌<◌, ◌≤◌, List, [], ◌∷◌, ◌∙◌, ap, sym, refl, subst, length, Option, None, Some, option_map, option_and_then, Bool, true, false, cond, nat_eq, ◌||◌, ◌⊎◌, inl, inr, arith}
use Rattle.std.specs.Option.{option_map_or}
use Rattle.std.specs.Prelude.{slice_index}
use Rattle.std.specs.List.{take_while}
use Rattle.std.proofs.lemmas.Bool.Decides.{nat_tests}
use Rattle.std.proofs.lemmas.List.Sums.{take_while-cons}
use Rattle.expr_lang.specs.declared.token.Comparison.TheVariants.{Equal, NotEqual, Less, LessOrEqual, Greater, GreaterOrEqual}
use Rattle.expr_lang.specs.declared.token.Token.{Token}
use Rattle.expr_lang.specs.declared.token.Token.TheVariants as token
use Rattle.expr_lang.specs.declared.lexer.Spot.TheVariants as spot
use Rattle.expr_lang.specs.Row.{IsToken, path_length, spot_after}
use Rattle.expr_lang.specs.Words.{is_digit, is_word_byte, is_quote, is_root, word, begins_path, plain_token, text_token, int_token, int_of, keyword, operand_word, operator_word, symbol, quoted, escaped, with_first}
use Rattle.std.proofs.Common.{drop, length-drop}
use Rattle.std.specs.Option.{IfSome}
use Rattle.expr_lang.specs.TokenOf.{IsTokenOf}
use Rattle.expr_lang.proofs.Boundaries.{path_within}

abbrev Word : Type 0
Word = Token × ℕ

-- so many bytes of a text of this length
abbrev Fits : ℕ → ℕ → Type 0
Fits n all = (0 < n) × (n ≤ all)

pub take_within : (p : ℕ → Bool) (bytes : List ℕ) → length (take_while p bytes) ≤ length bytes
take_within p [] = omega arith
take_within p (byte ∷ bytes) = subst (λ (l : List ℕ). length l ≤ length (byte ∷ bytes)) (sym (take_while-cons p byte bytes)) (by (p byte) (take_within p bytes))
  where
    by : (b : Bool) → length (take_while p bytes) ≤ length bytes → length (cond b (byte ∷ take_while p bytes) []) ≤ length (byte ∷ bytes)
    by true h = omega (arith, h)
    by false h = omega arith

count_is : (a b : List ℕ) (m n : ℕ) → ◌≡◌ {A = Option (List ℕ × ℕ)} (Some (a, m)) (Some (b, n)) → m ≡ n
count_is a b m n e = ap (λ (o : Option (List ℕ × ℕ)). option_map_or (λ (r : List ℕ × ℕ). r.1) o 0) e

length_is : (v w : Token) (m n : ℕ) → ◌≡◌ {A = Option Word} (Some (v, m)) (Some (w, n)) → m ≡ n
length_is v w m n e = ap (λ (o : Option Word). option_map_or (λ (r : Word). r.1) o 0) e

-- the claim of the bytes that follow
abbrev Inner : ℕ → List ℕ → Type 0
Inner quote bytes = (b : Bool) (content : List ℕ) (n : ℕ) → quoted quote b bytes ≡ Some (content, n) → n ≤ length bytes

within : (quote : ℕ) (bytes : List ℕ) (b : Bool) (f : List ℕ × ℕ → List ℕ × ℕ) → ((r : List ℕ × ℕ) → (f r).1 ≡ r.1 + 1) → Inner quote bytes
    → (content : List ℕ) (n : ℕ) → option_map f (quoted quote b bytes) ≡ Some (content, n) → n ≤ suc (length bytes)
within quote bytes b f one rec content n e = by (quoted quote b bytes) refl e
  where
    by : (o : Option (List ℕ × ℕ)) → quoted quote b bytes ≡ o → option_map f o ≡ Some (content, n) → n ≤ suc (length bytes)
    by None k e = absurd (cc e)
    by (Some rest) k e =
        let h = rec b rest.0 rest.1 k in
        let c = count_is (f rest).0 content (f rest).1 n e in
        let o = one rest in
        omega (arith, h, c, o)

quoted_within : (bytes : List ℕ) (quote : ℕ) → Inner quote bytes
unfolding quoted
quoted_within [] quote true content n e = absurd (cc e)
quoted_within [] quote false content n e = absurd (cc e)
quoted_within (byte ∷ bytes) quote true content n e = by (escaped byte) (quoted_within bytes quote) e
  where
    by : (o : Option ℕ) → Inner quote bytes → option_and_then (λ one. option_map (with_first one) (quoted quote false bytes)) o ≡ Some (content, n) → n ≤ length (byte ∷ bytes)
    by None rec e = absurd (cc e)
    by (Some one) rec e = within quote bytes false (with_first one) (λ r. refl) rec content n e
quoted_within (byte ∷ bytes) quote false content n e = by (nat_eq byte 92) (nat_eq byte quote) (quoted_within bytes quote) e
  where
    by : (s k : Bool) → Inner quote bytes
        → cond s (option_map {U = List ℕ × ℕ} (λ rest. (rest.0, rest.1 + 1)) (quoted quote true bytes)) (cond k (Some ([], 1)) (option_map (with_first byte) (quoted quote false bytes))) ≡ Some (content, n)
        → n ≤ length (byte ∷ bytes)
    by true k rec e = within quote bytes true (λ rest. (rest.0, rest.1 + 1)) (λ r. refl) rec content n e
    by false true rec e = let c = count_is [] content 1 n e in omega (arith, c)
    by false false rec e = within quote bytes false (with_first byte) (λ r. refl) rec content n e

text_fits : (byte : ℕ) (bytes : List ℕ) (w : Token) (n : ℕ) → text_token (byte ∷ bytes) ≡ Some (w, n) → Fits n (suc (length bytes))
text_fits byte bytes w n e = by (quoted byte false bytes) refl e
  where
    by : (o : Option (List ℕ × ℕ)) → quoted byte false bytes ≡ o → option_map {U = Word} (λ found. (token.Text found.0, 1 + found.1)) o ≡ Some (w, n) → Fits n (suc (length bytes))
    by None k e = absurd (cc e)
    by (Some found) k e =
        let h = quoted_within bytes byte false found.0 found.1 k in
        let c = length_is (token.Text found.0) w (1 + found.1) n e in
        (omega (arith, c), omega (arith, h, c))

-- an int has a digit
has_digit : (negative : Bool) (digits : List ℕ) (z : ℤ) → int_of negative digits ≡ Some z → 0 < length digits
unfolding int_of
has_digit true [] z e = absurd (cc e)
has_digit false [] z e = absurd (cc e)
has_digit negative (digit ∷ digits) z e = omega arith

int_fits : (byte : ℕ) (bytes : List ℕ) (w : Token) (n : ℕ) → int_token (byte ∷ bytes) ≡ Some (w, n) → Fits n (suc (length bytes))
int_fits byte bytes w n e = by (nat_eq byte 45) e
  where
    one : (start : ℕ) (negative : Bool) (digits : List ℕ) (o : Option ℤ) → int_of negative digits ≡ o → start + length digits ≤ suc (length bytes)
        → option_map {U = Word} (λ z. (token.Int z, start + length digits)) o ≡ Some (w, n) → Fits n (suc (length bytes))
    one start negative digits None k l e = absurd (cc e)
    one start negative digits (Some z) k l e =
        let c = length_is (token.Int z) w (start + length digits) n e in
        let d = has_digit negative digits z k in
        (omega (arith, c, d), omega (arith, c, l))

    plain : (o : Option ℤ) → int_of false (take_while is_digit (byte ∷ bytes)) ≡ o
        → option_map {U = Word} (λ z. (token.Int z, length (take_while is_digit (byte ∷ bytes)))) o ≡ Some (w, n) → Fits n (suc (length bytes))
    plain None k e = absurd (cc e)
    plain (Some z) k e =
        let c = length_is (token.Int z) w (length (take_while is_digit (byte ∷ bytes))) n e in
        let d = has_digit false (take_while is_digit (byte ∷ bytes)) z k in
        let l = take_within is_digit (byte ∷ bytes) in
        (omega (arith, c, d), omega (arith, c, l))

    by : (m : Bool) → cond m (option_map {U = Word} (λ z. (token.Int z, 1 + length (take_while is_digit bytes))) (int_of true (take_while is_digit bytes)))
        (option_map {U = Word} (λ z. (token.Int z, length (take_while is_digit (byte ∷ bytes)))) (int_of false (take_while is_digit (byte ∷ bytes)))) ≡ Some (w, n)
        → Fits n (suc (length bytes))
    by true e = one 1 true (take_while is_digit bytes) (int_of true (take_while is_digit bytes)) refl (let l = take_within is_digit bytes in omega (arith, l)) e
    by false e = plain (int_of false (take_while is_digit (byte ∷ bytes))) refl e

not_empty : (bytes : List ℕ) (w : Token) → keyword bytes ≡ Some w → 0 < length bytes
unfolding operand_word operator_word
not_empty [] w e = absurd (cc e)
not_empty (byte ∷ bytes) w e = omega arith

word_fits : (byte : ℕ) (bytes : List ℕ) (w : Token) (n : ℕ)
    → option_map {U = Word} (λ found. (found, length (word (byte ∷ bytes)))) (keyword (word (byte ∷ bytes))) ≡ Some (w, n) → Fits n (suc (length bytes))
word_fits byte bytes w n e = by (keyword (word (byte ∷ bytes))) refl e
  where
    by : (o : Option Token) → keyword (word (byte ∷ bytes)) ≡ o → option_map {U = Word} (λ found. (found, length (word (byte ∷ bytes)))) o ≡ Some (w, n) → Fits n (suc (length bytes))
    by None k e = absurd (cc e)
    by (Some found) k e =
        let c = length_is found w (length (word (byte ∷ bytes))) n e in
        let d = not_empty (word (byte ∷ bytes)) found k in
        let l = take_within is_word_byte (byte ∷ bytes) in
        (omega (arith, c, d), omega (arith, c, l))

symbol_length : (first second : ℕ) (w : Token) (n : ℕ) → symbol first second ≡ Some (w, n) → (n ≡ 1) ⊎ ((n ≡ 2) × (0 < second))
unfolding symbol
symbol_length first second w n e = by (nat_eq first 40) (nat_eq first 41) (nat_eq first 91) (nat_eq first 93) (nat_eq first 44) e
  where
    one : (v : Token) → ◌≡◌ {A = Option Word} (Some (v, 1)) (Some (w, n)) → (n ≡ 1) ⊎ ((n ≡ 2) × (0 < second))
    one v e = inl (sym (length_is v w 1 n e))

    two : (v : Token) (b : Bool) (k : ℕ) (o : Option Word) → nat_eq second (suc k) ≡ b → ((n ≡ 1) ⊎ ((n ≡ 2) × (0 < second)) → Unit {0}) → cond {A = Option Word} b (Some (v, 2)) o ≡ Some (w, n)
        → (o ≡ Some (w, n) → (n ≡ 1) ⊎ ((n ≡ 2) × (0 < second))) → (n ≡ 1) ⊎ ((n ≡ 2) × (0 < second))
    two v true k o b u e f = inr (sym (length_is v w 2 n e), (let s : second ≡ suc k = grind (arith, nat_tests) in omega (arith, s)))
    two v false k o b u e f = f e

    by : (a b c d f : Bool)
        → cond {A = Option Word} a (Some (token.OpenGroup, 1)) (cond {A = Option Word} b (Some (token.CloseGroup, 1)) (cond {A = Option Word} c (Some (token.OpenList, 1)) (cond {A = Option Word} d (Some (token.CloseList, 1)) (cond {A = Option Word} f (Some (token.Comma, 1))
        (cond {A = Option Word} (nat_eq first 61) (cond {A = Option Word} (nat_eq second 61) (Some (token.Compares Equal, 2)) None)
        (cond {A = Option Word} (nat_eq first 33) (cond {A = Option Word} (nat_eq second 61) (Some (token.Compares NotEqual, 2)) (Some (token.Not, 1)))
        (cond {A = Option Word} (nat_eq first 60) (cond {A = Option Word} (nat_eq second 61) (Some (token.Compares LessOrEqual, 2)) (Some (token.Compares Less, 1)))
        (cond {A = Option Word} (nat_eq first 62) (cond {A = Option Word} (nat_eq second 61) (Some (token.Compares GreaterOrEqual, 2)) (Some (token.Compares Greater, 1)))
        (cond {A = Option Word} (nat_eq first 38) (cond {A = Option Word} (nat_eq second 38) (Some (token.And, 2)) None)
        (cond {A = Option Word} (nat_eq first 124) (cond {A = Option Word} (nat_eq second 124) (Some (token.Or, 2)) None) None)))))))))) ≡ Some (w, n)
        → (n ≡ 1) ⊎ ((n ≡ 2) × (0 < second))
    by true b c d f e = one token.OpenGroup e
    by false true c d f e = one token.CloseGroup e
    by false false true d f e = one token.OpenList e
    by false false false true f e = one token.CloseList e
    by false false false false true e = one token.Comma e
    by false false false false false e = more (nat_eq first 61) (nat_eq first 33) (nat_eq first 60) (nat_eq first 62) (nat_eq first 38) (nat_eq first 124) e
      where
        none : ◌≡◌ {A = Option Word} None (Some (w, n)) → (n ≡ 1) ⊎ ((n ≡ 2) × (0 < second))
        none e = absurd (cc e)

        more : (a b c d f g : Bool)
            → cond {A = Option Word} a (cond {A = Option Word} (nat_eq second 61) (Some (token.Compares Equal, 2)) None)
            (cond {A = Option Word} b (cond {A = Option Word} (nat_eq second 61) (Some (token.Compares NotEqual, 2)) (Some (token.Not, 1)))
            (cond {A = Option Word} c (cond {A = Option Word} (nat_eq second 61) (Some (token.Compares LessOrEqual, 2)) (Some (token.Compares Less, 1)))
            (cond {A = Option Word} d (cond {A = Option Word} (nat_eq second 61) (Some (token.Compares GreaterOrEqual, 2)) (Some (token.Compares Greater, 1)))
            (cond {A = Option Word} f (cond {A = Option Word} (nat_eq second 38) (Some (token.And, 2)) None)
            (cond {A = Option Word} g (cond {A = Option Word} (nat_eq second 124) (Some (token.Or, 2)) None) None))))) ≡ Some (w, n)
            → (n ≡ 1) ⊎ ((n ≡ 2) × (0 < second))
        more true b c d f g e = two (token.Compares Equal) (nat_eq second 61) 60 None refl (λ x. tt) e none
        more false true c d f g e = two (token.Compares NotEqual) (nat_eq second 61) 60 (Some (token.Not, 1)) refl (λ x. tt) e (one token.Not)
        more false false true d f g e = two (token.Compares LessOrEqual) (nat_eq second 61) 60 (Some (token.Compares Less, 1)) refl (λ x. tt) e (one (token.Compares Less))
        more false false false true f g e = two (token.Compares GreaterOrEqual) (nat_eq second 61) 60 (Some (token.Compares Greater, 1)) refl (λ x. tt) e (one (token.Compares Greater))
        more false false false false true g e = two token.And (nat_eq second 38) 37 None refl (λ x. tt) e none
        more false false false false false true e = two token.Or (nat_eq second 124) 123 None refl (λ x. tt) e none
        more false false false false false false e = none e

symbol_fits : (byte : ℕ) (bytes : List ℕ) (w : Token) (n : ℕ) → symbol byte (slice_index bytes 0) ≡ Some (w, n) → Fits n (suc (length bytes))
symbol_fits byte [] w n e = by (symbol_length byte 0 w n e)
  where
    by : (n ≡ 1) ⊎ ((n ≡ 2) × (0 < 0)) → Fits n 1
    by (inl h) = (omega (arith, h), omega (arith, h))
    by (inr h) = absurd (omega (arith, h.1))
symbol_fits byte (next ∷ bytes) w n e = by (symbol_length byte next w n e)
  where
    by : (n ≡ 1) ⊎ ((n ≡ 2) × (0 < next)) → Fits n (suc (length (next ∷ bytes)))
    by (inl h) = (omega (arith, h), omega (arith, h))
    by (inr h) = (omega (arith, h.0), omega (arith, h.0))

plain_fits : (bytes : List ℕ) (w : Token) (n : ℕ) → plain_token bytes ≡ Some (w, n) → Fits n (length bytes)
plain_fits [] w n e = absurd (cc e)
plain_fits (byte ∷ bytes) w n e = by (is_quote byte) ((nat_eq byte 45) || is_digit byte) (is_word_byte byte) e
  where
    by : (q d l : Bool) → cond q (text_token (byte ∷ bytes)) (cond d (int_token (byte ∷ bytes))
        (cond l (option_map {U = Word} (λ found. (found, length (word (byte ∷ bytes)))) (keyword (word (byte ∷ bytes)))) (symbol byte (slice_index bytes 0)))) ≡ Some (w, n)
        → Fits n (length (byte ∷ bytes))
    by true d l e = text_fits byte bytes w n e
    by false true l e = int_fits byte bytes w n e
    by false false true e = word_fits byte bytes w n e
    by false false false e = symbol_fits byte bytes w n e

path_fits : (bytes : List ℕ) → begins_path bytes ≡ true → 0 < path_length spot.Name bytes
unfolding spot_after
path_fits [] h = absurd (cc h)
path_fits (byte ∷ bytes) h = by (is_word_byte byte) refl (ap is_root (sym (take_while-cons is_word_byte byte bytes)) ∙ h)
  where
    length_more : is_word_byte byte ≡ true → spot_after spot.Name byte ≡ Some spot.Name
    length_more e = rw e refl

    by : (w : Bool) → is_word_byte byte ≡ w → is_root (cond w (byte ∷ take_while is_word_byte bytes) []) ≡ true → 0 < path_length spot.Name (byte ∷ bytes)
    by true p k = rw (length_more p) (omega arith)
    by false p k = absurd (cc k)

pub token_fits : (bytes : List ℕ) (w : Token) (n : ℕ) → IsToken bytes w n → Fits n (length bytes)
token_fits bytes w n (inl a) = plain_fits bytes w n a.1
token_fits bytes w n (inr b) =
    let some = path_fits bytes b.0 in
    let few = path_within bytes spot.Name in
    let is = b.1 in
    (omega (arith, some, is), omega (arith, few, is))

pub some_found : (text : List ℕ) (at : ℕ) (found : Option Word) → IsTokenOf (drop at text) found → IfSome found (λ one. 0 < one.1)
some_found text at None h = tt
some_found text at (Some one) h = (token_fits (drop at text) one.0 one.1 h).0

pub within_found : (text : List ℕ) (at : ℕ) → at < length text → (found : Option Word) → IsTokenOf (drop at text) found → IfSome found (λ one. at + one.1 ≤ length text)
within_found text at inside None h = tt
within_found text at inside (Some one) h =
    let fits = (token_fits (drop at text) one.0 one.1 h).1 in
    let left = length-drop at text in
    omega (arith, fits, left, inside)
