-- Where paths end: behind a character of ASCII, or at the end of the text.
use Rattle.std.proofs.Common.{◌≡◌, ℕ, suc, ◌+◌, ◌<◌, ◌≤◌, List, [], ◌∷◌, ◌∙◌, ap, sym, refl, subst, length, drop, get_or, Option, None, Some, Bool, true, false, cond, nat_eq, ◌⊎◌, inl, inr, arith, length-drop, IsCharBoundary}
use Rattle.std.specs.Option.{option_map_or}
use Rattle.std.specs.List.{take_while}
use Rattle.std.proofs.lemmas.List.{get_or-drop}
use Rattle.std.proofs.lemmas.List.Sums.{take_while-cons}
use Rattle.std.specs.Str.{IsUtf8}
use Rattle.std.proofs.lemmas.Bool.Decides.{nat_tests}
use Rattle.std.proofs.lemmas.Str.{IsCharBoundary-before_ascii, IsCharBoundary-after_ascii, IsCharBoundary-end}
use Rattle.expr_lang.specs.declared.lexer.Spot.{Spot}
use Rattle.expr_lang.specs.declared.lexer.Spot.TheVariants as spot
use Rattle.expr_lang.specs.Row.{path_length, spot_after}
use Rattle.expr_lang.specs.Words.{is_word_byte, is_quote, is_root, begins_path}

-- a quote that is open is of ASCII
abbrev IsSane : Spot → Type 0
IsSane (spot.Quoted quote) = quote < 128
IsSane (spot.Escaped quote) = quote < 128
IsSane _ = Unit {0}

abbrev is_outside : Spot → Bool
is_outside (spot.Quoted quote) = false
is_outside (spot.Escaped quote) = false
is_outside _ = true

low_word : (byte : ℕ) → is_word_byte byte ≡ true → byte < 128
unfolding is_word_byte
low_word byte h = grind (arith, nat_tests)

low_quote : (byte : ℕ) → is_quote byte ≡ true → byte < 128
unfolding is_quote
low_quote byte h = grind (arith, nat_tests)

low_equal : (byte other : ℕ) → nat_eq byte other ≡ true → other < 128 → byte < 128
low_equal byte other h l = grind (arith, nat_tests)

-- what one more byte of a path says
abbrev Says : ℕ → Spot → Type 0
Says byte next = IsSane next × (is_outside next ≡ true → byte < 128)

says_of : (byte : ℕ) (known next : Spot) → Some known ≡ Some next → Says byte known → Says byte next
says_of byte known next e s = let is : known ≡ next = cc e in subst (Says byte) is s

between : (byte : ℕ) (next : Spot) (d b : Bool) → nat_eq byte 46 ≡ d → nat_eq byte 91 ≡ b → cond d (Some spot.Name) (cond b (Some spot.Bracket) None) ≡ Some next → Says byte next
between byte next true b p q e = says_of byte spot.Name next e (tt, λ o. (let l : byte < 128 = grind (arith, nat_tests) in l))
between byte next false true p q e = says_of byte spot.Bracket next e (tt, λ o. (let l : byte < 128 = grind (arith, nat_tests) in l))
between byte next false false p q e = absurd (cc e)

says : (at : Spot) (byte : ℕ) (next : Spot) → IsSane at → spot_after at byte ≡ Some next → Says byte next
unfolding spot_after
says spot.Name byte next s e = by (is_word_byte byte) refl e
  where
    by : (w : Bool) → is_word_byte byte ≡ w → cond w (Some spot.Name) (cond (nat_eq byte 46) (Some spot.Name) (cond (nat_eq byte 91) (Some spot.Bracket) None)) ≡ Some next → Says byte next
    by true p e = says_of byte spot.Name next e (tt, λ o. low_word byte p)
    by false p e = between byte next (nat_eq byte 46) (nat_eq byte 91) refl refl e
says spot.Closed byte next s e = between byte next (nat_eq byte 46) (nat_eq byte 91) refl refl e
says spot.Bracket byte next s e = by (is_quote byte) refl e
  where
    by : (q : Bool) → is_quote byte ≡ q → cond q (Some (spot.Quoted byte)) None ≡ Some next → Says byte next
    by true p e = says_of byte (spot.Quoted byte) next e (low_quote byte p, λ o. low_quote byte p)
    by false p e = absurd (cc e)
says (spot.Quoted quote) byte next s e = by (nat_eq byte quote) (nat_eq byte 92) refl e
  where
    by : (q b : Bool) → nat_eq byte quote ≡ q → cond q (Some spot.Closing) (cond b (Some (spot.Escaped quote)) (Some (spot.Quoted quote))) ≡ Some next → Says byte next
    by true b p e = says_of byte spot.Closing next e (tt, λ o. low_equal byte quote p s)
    by false true p e = says_of byte (spot.Escaped quote) next e (s, λ o. absurd (cc o))
    by false false p e = says_of byte (spot.Quoted quote) next e (s, λ o. absurd (cc o))
says (spot.Escaped quote) byte next s e = says_of byte (spot.Quoted quote) next e (s, λ o. absurd (cc o))
says spot.Closing byte next s e = by (nat_eq byte 93) refl e
  where
    by : (q : Bool) → nat_eq byte 93 ≡ q → cond q (Some spot.Closed) None ≡ Some next → Says byte next
    by true p e = says_of byte spot.Closed next e (tt, λ o. (let l : byte < 128 = grind (arith, nat_tests) in l))
    by false p e = absurd (cc e)

none_outside : (at : Spot) (byte : ℕ) → spot_after at byte ≡ None → is_outside at ≡ true
unfolding spot_after
none_outside spot.Name byte e = refl
none_outside spot.Closed byte e = refl
none_outside spot.Bracket byte e = refl
none_outside (spot.Quoted quote) byte e = by (nat_eq byte quote) (nat_eq byte 92) e
  where
    by : (q b : Bool) → cond q (Some spot.Closing) (cond b (Some (spot.Escaped quote)) (Some (spot.Quoted quote))) ≡ None → false ≡ true
    by true b e = absurd (cc e)
    by false true e = absurd (cc e)
    by false false e = absurd (cc e)
none_outside (spot.Escaped quote) byte e = absurd (cc e)
none_outside spot.Closing byte e = refl

abbrev EndsWell : Spot → List ℕ → ℕ → Type 0
EndsWell at bytes n = (n ≡ length bytes) ⊎ (((m : ℕ) × (n ≡ suc m) × (get_or bytes m 0 < 128)) ⊎ ((n ≡ 0) × (is_outside at ≡ true)))

ends_well : (bytes : List ℕ) (at : Spot) → IsSane at → EndsWell at bytes (path_length at bytes)
ends_well [] at s = inl refl
ends_well (byte ∷ bytes) at s = by (spot_after at byte) refl (ends_well bytes)
  where
    more : (next : Spot) → Says byte next → EndsWell next bytes (path_length next bytes) → EndsWell at (byte ∷ bytes) (1 + path_length next bytes)
    more next k (inl h) = inl (omega (arith, h))
    more next k (inr (inl (m, e, l))) = inr (inl (suc m, omega (arith, e), l))
    more next k (inr (inr (z, o))) = inr (inl (0, omega (arith, z), k.1 o))

    by : (o : Option Spot) → spot_after at byte ≡ o → ((next : Spot) → IsSane next → EndsWell next bytes (path_length next bytes))
        → EndsWell at (byte ∷ bytes) (option_map_or (λ next. 1 + path_length next bytes) o 0)
    by None e rec = inr (inr (refl, none_outside at byte e))
    by (Some next) e rec = let k = says at byte next s e in more next k (rec next k.0)

pub path_within : (bytes : List ℕ) (at : Spot) → path_length at bytes ≤ length bytes
path_within [] at = omega arith
path_within (byte ∷ bytes) at = by (spot_after at byte) (path_within bytes)
  where
    by : (o : Option Spot) → ((next : Spot) → path_length next bytes ≤ length bytes) → option_map_or (λ next. 1 + path_length next bytes) o 0 ≤ length (byte ∷ bytes)
    by None rec = omega arith
    by (Some next) rec = let h = rec next in omega (arith, h)

word_first : (bytes : List ℕ) → begins_path bytes ≡ true → get_or bytes 0 0 < 128
word_first [] h = absurd (cc h)
word_first (byte ∷ bytes) h = by (is_word_byte byte) refl (ap is_root (sym (take_while-cons is_word_byte byte bytes)) ∙ h)
  where
    by : (w : Bool) → is_word_byte byte ≡ w → is_root (cond w (byte ∷ take_while is_word_byte bytes) []) ≡ true → byte < 128
    by true p k = low_word byte p
    by false p k = absurd (cc k)

pub path_starts : (text : List ℕ) (at : ℕ) → at < length text → begins_path (drop at text) ≡ true → IsCharBoundary text at
path_starts text at h b = IsCharBoundary-before_ascii text at h (let f : get_or (drop at text) 0 0 < 128 = word_first (drop at text) b in let e : get_or (drop at text) 0 0 ≡ get_or text at 0 = get_or-drop at text 0 0 ∙ ap (λ (n : ℕ). get_or text n 0) (omega arith) in omega (arith, f, e))

pub path_ends : (text : List ℕ) (at : ℕ) → IsUtf8 text → at < length text → begins_path (drop at text) ≡ true → IsCharBoundary text (at + path_length spot.Name (drop at text))
path_ends text at u h b = by (path_length spot.Name (drop at text)) (path_within (drop at text) spot.Name) (ends_well (drop at text) spot.Name tt)
  where
    by : (n : ℕ) → n ≤ length (drop at text) → EndsWell spot.Name (drop at text) n → IsCharBoundary text (at + n)
    by n w (inl e) =
        let len = length-drop at text in
        let is : length text ≡ at + n = omega (arith, e, len) in
        subst (λ (k : ℕ). IsCharBoundary text k) is (IsCharBoundary-end text)
    by n w (inr (inl (m, e, l))) =
        let len = length-drop at text in
        let is : at + m + 1 ≡ at + n = omega (arith, e) in
        let low : get_or text (at + m) 0 < 128 = subst (λ (x : ℕ). x < 128) (get_or-drop at text m 0) l in
        let inside : at + m < length text = omega (arith, e, w, len) in
        subst (λ (k : ℕ). IsCharBoundary text k) is (IsCharBoundary-after_ascii text (at + m) u inside low)
    by n w (inr (inr (z, o))) =
        let is : at ≡ at + n = omega (arith, z) in
        subst (λ (k : ℕ). IsCharBoundary text k) is (path_starts text at h b)
