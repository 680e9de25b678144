-- Where a text is cut.
use Rattle.std.proofs.Common.{◌≡◌, ℕ, zero, suc, ◌+◌, ◌<◌, ◌≤◌, List, [], ◌∷◌, ◌++◌, ◌∙◌, ap, sym, refl, subst, Bool, true, false, not, ◌==◌, ◌&&◌, length, take, drop, get_or, nat_eq, is_none, Option, None, Some, ◌⊎◌, inl, inr, ⊎_elim, arith, length-drop}
use Rattle.std.proofs.lemmas.Bool.{cases_lt, false≢true, ne_eqb, eqb-false}
use Rattle.std.proofs.lemmas.Bool.Decides.{nat_tests, Decides-eqb}
use Rattle.std.proofs.lemmas.List.{append_assoc, drop-drop, length-append, drop_more}
use Rattle.std.proofs.lemmas.List.Prefix.{at_reads}
use Rattle.std.proofs.lemmas.List.Sums.{prefix_len_passes, prefix_len-le-length}
use Rattle.std.proofs.lemmas.Slice.Eq.{starts_is}
use Rattle.std.proofs.lemmas.Str.{IsUtf8-past_char, IsUtf8-drop, IsCharBoundary-start, IsCharBoundary-from_drop, IsCharBoundary-before_ascii, IsCharBoundary-after_ascii}
use Rattle.std.specs.Cmp.Lexicographic.{pointwise}
use Rattle.std.specs.List.{prefix_len, starts_with}
use Rattle.std.specs.Char.{encode_utf8}
use Rattle.std.specs.Str.{IsUtf8, IsCharBoundary, encode_utf8_all}
use Rattle.text_parsers.specs.Blanks.{is_blank}
use Rattle.text_parsers.specs.Cuts.{Delimiter, delimiter_len, begins_with, StandsAt, IsUncut, IsFirstCut}
use Rattle.text_parsers.specs.Inner.Passed.{is_past, is_other}
use Rattle.text_parsers.specs.Quotes.{is_quote, open_quote}

pub uncut_at_end : (d : Delimiter) (text : List ℕ) (i : ℕ) → length text ≤ i → ((k : ℕ) → k < i → StandsAt d text k → ⊥) → IsUncut d text
uncut_at_end d text i end before k s = let inside = s.inside in before k (omega arith) s

pub blank_is_low : (byte : ℕ) → is_blank byte ≡ true → byte < 128
blank_is_low byte h = grind (arith, nat_tests)

blank_here : (text : List ℕ) (at : ℕ) → at < length text → begins_with None (drop at text) ≡ true → get_or text at 0 < 128
blank_here text at h b = blank_is_low (get_or text at 0) (ap (begins_with None) (sym (drop_more text at 0 h)) ∙ b)

-- what doesn't begin with a delimiter's first byte doesn't begin with it
pub first_differs : (bytes delimiter : List ℕ) (at : ℕ) → 0 < length delimiter → at < length bytes → (get_or bytes at 0 ≡ get_or delimiter 0 0 → ⊥)
    → starts_with nat_eq (drop at bytes) delimiter ≡ false
first_differs bytes [] at some inside apart = absurd (omega arith)
first_differs bytes (d ∷ ds) at some inside apart =
    let other : nat_eq d (get_or bytes at 0) ≡ false = ne_eqb d (get_or bytes at 0) (λ e. apart (sym e)) in
    ap (λ (l : List ℕ). starts_with nat_eq l (d ∷ ds)) (drop_more bytes at 0 inside)
    ∙ ap (λ (r : Bool). r && pointwise nat_eq ds (take (length ds) (drop (at + 1) bytes))) other

rest_is_utf8 : (cs rest front : List ℕ) → IsUtf8 front → front ≡ encode_utf8_all cs ++ rest → IsUtf8 rest
rest_is_utf8 [] rest front u e = subst IsUtf8 e u
rest_is_utf8 (c ∷ cs) rest front u e =
    rest_is_utf8 cs rest (encode_utf8_all cs ++ rest) (IsUtf8-past_char front (encode_utf8_all cs ++ rest) c u (e ∙ append_assoc (encode_utf8 c) (encode_utf8_all cs) rest)) refl

module _ (text bytes : List ℕ) (at : ℕ) (utf8 : IsUtf8 text) (also : IsUtf8 bytes) (some : 0 < length bytes) (inside : at < length text) (begins : starts_with nat_eq (drop at text) bytes ≡ true) where
  split : drop at text ≡ bytes ++ drop (length bytes) (drop at text)
  split = (starts_is Decides-eqb (drop at text) bytes (starts_with nat_eq (drop at text) bytes) refl).0 begins

  first_is : get_or text at 0 ≡ get_or bytes 0 0
  first_is = ap (λ n. get_or text n 0) (let e : at ≡ at + 0 = omega arith in e) ∙ at_reads 0 text bytes at (drop (length bytes) (drop at text)) split 0 some

  pub text_before : IsCharBoundary text at
  text_before =
      let start = (IsCharBoundary-start bytes also).1 some in
      (omega arith, λ _ high. subst (λ b. 192 ≤ b) (sym first_is) (start (subst (λ b. 128 ≤ b) first_is high)))

  pub text_fits : at + length bytes ≤ length text
  text_fits =
      let lengths = ap length split ∙ length-append bytes (drop (length bytes) (drop at text)) in
      let from = length-drop at text in
      omega arith

  pub text_behind : IsCharBoundary text (at + length bytes)
  text_behind =
      IsCharBoundary-from_drop text (at + length bytes) text_fits
      (subst IsUtf8 (drop-drop (length bytes) at text)
      (rest_is_utf8 also.0 (drop (length bytes) (drop at text)) (drop at text) (IsUtf8-drop text at utf8 text_before) (split ∙ ap (λ (l : List ℕ). l ++ drop (length bytes) (drop at text)) (sym also.1.1))))

pub blank_before : (text : List ℕ) (at : ℕ) → at < length text → begins_with None (drop at text) ≡ true → IsCharBoundary text at
blank_before text at h b = IsCharBoundary-before_ascii text at h (blank_here text at h b)

-- no delimiter stands at one place more
none_more : (d : Delimiter) (text : List ℕ) (i : ℕ) → ((k : ℕ) → k < i → StandsAt d text k → ⊥) → (open_quote (take i text) ≡ None → begins_with d (drop i text) ≡ true → ⊥)
    → (k : ℕ) → k < i + 1 → StandsAt d text k → ⊥
none_more d text i before here k l s =
    ⊎_elim
    (λ (m : k < i). before k m s)
    (λ (m : i ≤ k). let e : k ≡ i = omega arith in here (subst (λ n. open_quote (take n text) ≡ None) e s.outside) (subst (λ n. begins_with d (drop n text) ≡ true) e s.begins))
    (cases_lt k i)

pub none_stands_more : (d : Delimiter) (text : List ℕ) (i : ℕ) (quote : Option ℕ) → ((k : ℕ) → k < i → StandsAt d text k → ⊥) → open_quote (take i text) ≡ quote
    → (is_none quote && begins_with d (drop i text)) ≡ false → (k : ℕ) → k < i + 1 → StandsAt d text k → ⊥
none_stands_more d text i quote before e f =
    none_more d text i before
    (λ o b. let none : None ≡ quote = sym o ∙ e in
    false≢true (sym f ∙ ap (λ (q : Option ℕ). is_none q && begins_with d (drop i text)) (sym none) ∙ b))

pub cut_here : (d : Delimiter) (text : List ℕ) (i : ℕ) (quote : Option ℕ) → i < length text → ((k : ℕ) → k < i → StandsAt d text k → ⊥) → open_quote (take i text) ≡ quote
    → (is_none quote && begins_with d (drop i text)) ≡ true → IsFirstCut d text i
cut_here d text i None inside before e h = record { stands = record { inside = inside; outside = e; begins = h }; first = before }
cut_here d text i (Some quote) inside before e h = absurd (cc h)

pub nothing_before : (d : Delimiter) (text : List ℕ) (k : ℕ) → k < 0 → StandsAt d text k → ⊥
nothing_before d text k l s = omega arith

-- ---- each text is cut in some way

abbrev Cut : Delimiter → List ℕ → Type 0
Cut d text = (k : ℕ) × IsFirstCut d text k

at_place : (d : Delimiter) (text : List ℕ) (i : ℕ) → i < length text → ((k : ℕ) → k < i → StandsAt d text k → ⊥)
    → (o : Option ℕ) → open_quote (take i text) ≡ o → (b : Bool) → begins_with d (drop i text) ≡ b → Cut d text ⊎ ((k : ℕ) → k < i + 1 → StandsAt d text k → ⊥)
at_place d text i inside before None o true b = inl (i, record { stands = record { inside = inside; outside = o; begins = b }; first = before })
at_place d text i inside before None o false b = inr (none_more d text i before (λ _ c. false≢true (sym b ∙ c)))
at_place d text i inside before (Some quote) o b c = inr (none_more d text i before (λ p _. let e : Some quote ≡ None = sym o ∙ p in absurd (cc e)))

up_to : (d : Delimiter) (text : List ℕ) (n : ℕ) → n ≤ length text → Cut d text ⊎ ((k : ℕ) → k < n → StandsAt d text k → ⊥)
up_to d text zero h = inr (λ k l _. absurd (omega arith))
up_to d text (suc n) h =
    ⊎_elim (λ (c : Cut d text). inl c)
    (λ before. ⊎_elim (λ (c : Cut d text). inl c) (λ more. inr (λ k l s. more k (omega arith) s)) (at_place d text n (omega arith) before (open_quote (take n text)) refl (begins_with d (drop n text)) refl))
    (up_to d text n (omega arith))

pub cut_or_uncut : (d : Delimiter) (text : List ℕ) → Cut d text ⊎ IsUncut d text
cut_or_uncut d text =
    ⊎_elim (λ (c : Cut d text). inl c) (λ before. inr (uncut_at_end d text (length text) (omega arith) before)) (up_to d text (length text) (omega arith))

-- ---- whether a delimiter stands at a place

module _ (d : Delimiter) (text bytes : List ℕ) (at : ℕ) (e : bytes ≡ text) (utf8 : IsUtf8 text) (some : 0 < delimiter_len d) (inside : at < length text) where
  rest_is : drop at bytes ≡ drop at text
  rest_is = ap (drop at) e

  module _ (found : List ℕ) (is : d ≡ Some found) (also : IsUtf8 found) (b : Bool) (r : b ≡ starts_with nat_eq (drop at bytes) found) (h : b ≡ true) where
    begins_so : starts_with nat_eq (drop at text) found ≡ true
    begins_so = ap (λ (l : List ℕ). starts_with nat_eq l found) (sym rest_is) ∙ sym r ∙ h

    some_of : 0 < length found
    some_of = subst (λ (o : Delimiter). 0 < delimiter_len o) is some

    pub found_before : IsCharBoundary text at
    found_before = text_before text found at utf8 also some_of inside begins_so

    pub found_behind : IsCharBoundary text (at + delimiter_len d)
    found_behind = subst (λ (o : Delimiter). IsCharBoundary text (at + delimiter_len o)) (sym is) (text_behind text found at utf8 also some_of inside begins_so)

  module _ (is : d ≡ None) (b : Bool) (r : b ≡ is_blank (get_or bytes at 0)) (h : b ≡ true) where
    pub blank_found_behind : IsCharBoundary text (at + delimiter_len d)
    blank_found_behind =
        let here : is_blank (get_or text at 0) ≡ true = ap is_blank (ap (λ (l : List ℕ). get_or l at 0) (sym e)) ∙ sym r ∙ h in
        subst (λ (o : Delimiter). IsCharBoundary text (at + delimiter_len o)) (sym is)
        (IsCharBoundary-after_ascii text at utf8 inside (blank_is_low (get_or text at 0) here))

-- ---- bytes that are passed over

past_is : (byte : ℕ) → is_past byte ≡ true → (is_quote byte ≡ false) × (is_blank byte ≡ false)
past_is byte h = (grind (arith, nat_tests), grind (arith, nat_tests))

inside_of : (p : ℕ → Bool) (bytes : List ℕ) (k : ℕ) → k < prefix_len p bytes → k < length bytes
inside_of p bytes k h = let most = prefix_len-le-length p bytes in omega arith

pub past_unquoted : (bytes : List ℕ) (k : ℕ) → k < prefix_len is_past bytes → is_quote (get_or bytes k 0) ≡ false
past_unquoted bytes k h = (past_is (get_or bytes k 0) (prefix_len_passes is_past bytes k 0 h)).0

pub past_uncut : (bytes : List ℕ) (k : ℕ) → k < prefix_len is_past bytes → begins_with None (drop k bytes) ≡ false
past_uncut bytes k h =
    ap (begins_with None) (drop_more bytes k 0 (inside_of is_past bytes k h)) ∙ (past_is (get_or bytes k 0) (prefix_len_passes is_past bytes k 0 h)).1

other_is : (first byte : ℕ) → is_other first byte ≡ true → (is_quote byte ≡ false) × (byte ≡ first → ⊥)
other_is first byte h = by (byte == first) refl (is_quote byte) refl h
  where
    by : (r : Bool) → (byte == first) ≡ r → (q : Bool) → is_quote byte ≡ q → (not r && not q) ≡ true → (q ≡ false) × (byte ≡ first → ⊥)
    by true e q f t = absurd (cc t)
    by false e true f t = absurd (cc t)
    by false e false f t = (refl, eqb-false byte first e)

pub other_unquoted : (first : ℕ) (bytes : List ℕ) (k : ℕ) → k < prefix_len (is_other first) bytes → is_quote (get_or bytes k 0) ≡ false
other_unquoted first bytes k h = (other_is first (get_or bytes k 0) (prefix_len_passes (is_other first) bytes k 0 h)).0

pub other_uncut : (delimiter bytes : List ℕ) (k : ℕ) → 0 < length delimiter → k < prefix_len (is_other (get_or delimiter 0 0)) bytes
    → begins_with (Some delimiter) (drop k bytes) ≡ false
other_uncut delimiter bytes k some h =
    let first = get_or delimiter 0 0 in
    first_differs bytes delimiter k some (inside_of (is_other first) bytes k h) (other_is first (get_or bytes k 0) (prefix_len_passes (is_other first) bytes k 0 h)).1

-- nothing is cut and nothing quoted among them
pub none_passed : (d : Delimiter) (text : List ℕ) (n : ℕ) → ((k : ℕ) → k < n → begins_with d (drop k text) ≡ false) → (k : ℕ) → k < n → StandsAt d text k → ⊥
none_passed d text n uncut k l s = false≢true (sym (uncut k l) ∙ s.begins)

pub other_passed : (d : Delimiter) (bytes found : List ℕ) (n : ℕ) → d ≡ Some found → 0 < delimiter_len d → n ≡ prefix_len (is_other (get_or found 0 0)) bytes
    → (k : ℕ) → k < n → begins_with d (drop k bytes) ≡ false
other_passed d bytes found n is some e k h =
    ap (λ (o : Delimiter). begins_with o (drop k bytes)) is
    ∙ other_uncut found bytes k (subst (λ (o : Delimiter). 0 < delimiter_len o) is some) (subst (λ (m : ℕ). k < m) e h)

pub past_passed : (d : Delimiter) (bytes : List ℕ) (n : ℕ) → d ≡ None → n ≡ prefix_len is_past bytes → (k : ℕ) → k < n → begins_with d (drop k bytes) ≡ false
past_passed d bytes n is e k h = ap (λ (o : Delimiter). begins_with o (drop k bytes)) is ∙ past_uncut bytes k (subst (λ (m : ℕ). k < m) e h)

-- the same, of a text whose bytes these are
pub none_passed_of : (d : Delimiter) (text bytes : List ℕ) (n : ℕ) → bytes ≡ text → ((k : ℕ) → k < n → begins_with d (drop k bytes) ≡ false)
    → (k : ℕ) → k < n → StandsAt d text k → ⊥
none_passed_of d text bytes n e uncut = none_passed d text n (λ k l. ap (λ (t : List ℕ). begins_with d (drop k t)) (sym e) ∙ uncut k l)
