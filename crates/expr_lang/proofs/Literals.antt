-- How far a text goes along ints and texts between quotes.
use Rattle.std.proofs.Common.{◌≡◌, ℕ, ℤ, suc, ◌+◌, ◌-◌, ◌*◌, ◌<◌, ◌≤◌, pos, neg_ℤ, List, [], ◌∷◌, ◌∙◌, ap, sym, refl, subst, length, take, Option, None, Some, option_map, option_and_then, is_some, Bool, true, false, cond, nat_eq, nat_le, ◌&&◌, ◌⊎◌, inl, inr, eq-eqb, arith}
use Rattle.std.specs.Option.{option_map_or}
use Rattle.std.specs.List.{take_while, list_all}
use Rattle.std.proofs.lemmas.Bool.{eqb-true, leb-true}
use Rattle.std.proofs.lemmas.Bool.Decides.{nat_tests}
use Rattle.std.proofs.lemmas.List.Sums.{take_while-cons}
use Rattle.std.proofs.Math.Seq.{take-length}
use Rattle.expr_lang.specs.Inner.BrokenWords.{is_text, is_int, quoted_length, text_length_of, fitting, int_length_of}
use Rattle.expr_lang.specs.declared.token.Token.{Token}
use Rattle.expr_lang.specs.declared.token.Token.TheVariants as token
use Rattle.expr_lang.specs.Longest.{common, IsSpelling, IsLongest}
use Rattle.expr_lang.specs.Words.{is_digit, is_word_byte, is_quote, escaped, quoted, with_first, number, int_of}
use Rattle.expr_lang.proofs.Longest.{common_none}
use Rattle.expr_lang.proofs.Loops.{number_grows}
use Rattle.expr_lang.proofs.Spellings.{IsTextSpelled, IsIntSpelled, Shape, Whole, shaped}

-- the same byte on both sides, and what follows
along : (x r c : ℕ) (F : ℕ → ℕ) → 1 + c ≤ F x → cond (nat_eq x r) (1 + c) 0 ≤ F r
along x r c F h = by (nat_eq x r) refl
  where
    by : (b : Bool) → nat_eq x r ≡ b → cond b (1 + c) 0 ≤ F r
    by true e = subst (λ (y : ℕ). 1 + c ≤ F y) (eqb-true x r e) h
    by false e = omega arith

-- a whole word is a spelling of it
pub whole_spelling : {P : Token → Type 0} (w : Token) (s : List ℕ) → P w → Whole w s → IsSpelling P s
whole_spelling w s p h = (w, length s, s, p, h, take-length s)

-- ---- texts between quotes

quote_is : (quote : ℕ) → is_quote quote ≡ true → (quote ≡ 34) ⊎ (quote ≡ 39)
unfolding is_quote
quote_is quote h = grind (arith, nat_tests)

count_is : (a b : List ℕ) (m n : ℕ) → ◌≡◌ {A = Option (List ℕ × ℕ)} (Some (a, m)) (Some (b, n)) → m ≡ n
count_is a b m n e = ap (λ (o : Option (List ℕ × ℕ)). option_map_or (λ (r : List ℕ × ℕ). r.1) o 0) e

-- the claim of the bytes that follow
abbrev Along : ℕ → List ℕ → List ℕ → Type 0
Along quote bytes rest = (b : Bool) (content : List ℕ) (n : ℕ) → quoted quote b bytes ≡ Some (content, n) → common (take n bytes) rest ≤ quoted_length quote b rest

module _ (quote x r : ℕ) (bytes rest : List ℕ) (rec : Along quote bytes rest) where
  -- one byte, and what is behind it
  goes : (b : Bool) (f : List ℕ × ℕ → List ℕ × ℕ) (F : ℕ → ℕ) → ((l : List ℕ × ℕ) → (f l).1 ≡ l.1 + 1) → (1 + quoted_length quote b rest ≤ F x)
      → (content : List ℕ) (n : ℕ) → option_map f (quoted quote b bytes) ≡ Some (content, n) → common (take n (x ∷ bytes)) (r ∷ rest) ≤ F r
  goes b f F one h content n e = by (quoted quote b bytes) refl e
    where
      by : (o : Option (List ℕ × ℕ)) → quoted quote b bytes ≡ o → option_map f o ≡ Some (content, n) → common (take n (x ∷ bytes)) (r ∷ rest) ≤ F r
      by None k e = absurd (cc e)
      by (Some found) k e =
          let c : (f found).1 ≡ n = count_is (f found).0 content (f found).1 n e in
          let o = one found in
          let is : suc found.1 ≡ n = omega (arith, c, o) in
          let i = rec b found.0 found.1 k in
          subst (λ (m : ℕ). common (take m (x ∷ bytes)) (r ∷ rest) ≤ F r) is
          (along x r (common (take found.1 bytes) rest) F (omega (arith, i, h)))

quoted_along : (bytes rest : List ℕ) (quote : ℕ) → Along quote bytes rest
unfolding quoted quoted_length
quoted_along [] rest quote true content n e = absurd (cc e)
quoted_along [] rest quote false content n e = absurd (cc e)
quoted_along (x ∷ bytes) [] quote b content n e = (let k = common_none (take n (x ∷ bytes)) in omega (arith, k))
quoted_along (x ∷ bytes) (r ∷ rest) quote true content n e = by (escaped x) refl (quoted_along bytes rest quote) e
  where
    by : (o : Option ℕ) → escaped x ≡ o → Along quote bytes rest → option_and_then (λ one. option_map (with_first one) (quoted quote false bytes)) o ≡ Some (content, n)
        → common (take n (x ∷ bytes)) (r ∷ rest) ≤ quoted_length quote true (r ∷ rest)
    by None t rec e = absurd (cc e)
    by (Some one) t rec e =
        goes quote x r bytes rest rec false (with_first one) (λ y. quoted_length quote true (y ∷ rest)) (λ l. refl)
        (rw t (omega arith)) content n e
quoted_along (x ∷ bytes) (r ∷ rest) quote false content n e = by (nat_eq x 92) (nat_eq x quote) refl refl (quoted_along bytes rest quote) e
  where
    by : (s k : Bool) → nat_eq x 92 ≡ s → nat_eq x quote ≡ k → Along quote bytes rest
        → cond s (option_map {U = List ℕ × ℕ} (λ rest. (rest.0, rest.1 + 1)) (quoted quote true bytes)) (cond k (Some ([], 1)) (option_map (with_first x) (quoted quote false bytes))) ≡ Some (content, n)
        → common (take n (x ∷ bytes)) (r ∷ rest) ≤ quoted_length quote false (r ∷ rest)
    by true k t u rec e =
        goes quote x r bytes rest rec true (λ rest. (rest.0, rest.1 + 1)) (λ y. quoted_length quote false (y ∷ rest)) (λ l. refl)
        (rw t (omega arith)) content n e
    by false true t u rec e =
        subst (λ (m : ℕ). common (take m (x ∷ bytes)) (r ∷ rest) ≤ quoted_length quote false (r ∷ rest)) (count_is [] content 1 n e)
        (along x r 0 (λ y. quoted_length quote false (y ∷ rest)) (rw (t, u) (omega arith)))
    by false false t u rec e =
        goes quote x r bytes rest rec false (with_first x) (λ y. quoted_length quote false (y ∷ rest)) (λ l. refl)
        (rw (t, u) (omega arith)) content n e

-- as much of a text as there is, and what ends it
abbrev complete : ℕ → Bool → List ℕ → List ℕ
complete quote true [] = 92 ∷ quote ∷ []
complete quote false [] = quote ∷ []
complete quote true (r ∷ rest) = cond (is_some (escaped r)) (r ∷ complete quote false rest) (92 ∷ quote ∷ [])
complete quote false (r ∷ rest) = cond (nat_eq r 92) (r ∷ complete quote true rest) (cond (nat_eq r quote) (r ∷ []) (r ∷ complete quote false rest))

abbrev Completes : ℕ → Bool → List ℕ → Type 0
Completes quote b bytes = (content : List ℕ) × (quoted quote b bytes ≡ Some (content, length bytes))

closes : (quote : ℕ) → is_quote quote ≡ true → Completes quote false (quote ∷ [])
unfolding quoted
closes quote q = by (quote_is quote q)
  where
    by : (quote ≡ 34) ⊎ (quote ≡ 39) → Completes quote false (quote ∷ [])
    by (inl e) = ([], rw e refl)
    by (inr e) = ([], rw e refl)

escapes : (quote : ℕ) → is_quote quote ≡ true → Completes quote true (92 ∷ quote ∷ [])
unfolding quoted escaped is_quote
escapes quote q = let c = closes quote q in (92 ∷ c.0, ap (option_map (with_first 92)) c.1)

completes : (rest : List ℕ) (quote : ℕ) (b : Bool) → is_quote quote ≡ true → Completes quote b (complete quote b rest)
unfolding quoted
completes [] quote true q = escapes quote q
completes [] quote false q = closes quote q
completes (r ∷ rest) quote true q = by (escaped r) refl (completes rest quote false q)
  where
    by : (o : Option ℕ) → escaped r ≡ o → Completes quote false (complete quote false rest) → Completes quote true (cond (is_some o) (r ∷ complete quote false rest) (92 ∷ quote ∷ []))
    by None t rec = escapes quote q
    by (Some one) t rec =
        let inner = complete quote false rest in
        let more : length inner + 1 ≡ suc (length inner) = omega arith in
        (one ∷ rec.0, ap (option_and_then (λ one. option_map (with_first one) (quoted quote false inner))) t ∙ ap (option_map (with_first one)) rec.1 ∙ ap (λ (m : ℕ). Some (one ∷ rec.0, m)) more)
completes (r ∷ rest) quote false q = by (nat_eq r 92) (nat_eq r quote) refl refl (completes rest quote true q) (completes rest quote false q)
  where
    by : (s k : Bool) → nat_eq r 92 ≡ s → nat_eq r quote ≡ k → Completes quote true (complete quote true rest) → Completes quote false (complete quote false rest)
        → Completes quote false (cond s (r ∷ complete quote true rest) (cond k (r ∷ []) (r ∷ complete quote false rest)))
    by true k t u one other =
        let inner = complete quote true rest in
        let more : length inner + 1 ≡ suc (length inner) = omega arith in
        (one.0, rw t (ap (option_map {U = List ℕ × ℕ} (λ rest. (rest.0, rest.1 + 1))) one.1 ∙ ap (λ (m : ℕ). Some (one.0, m)) more))
    by false true t u one other = ([], rw (t, u) refl)
    by false false t u one other =
        let inner = complete quote false rest in
        let more : length inner + 1 ≡ suc (length inner) = omega arith in
        (r ∷ other.0, rw (t, u) (ap (option_map (with_first r)) other.1 ∙ ap (λ (m : ℕ). Some (r ∷ other.0, m)) more))

no_escape : (r : ℕ) → escaped r ≡ None → nat_eq 92 r ≡ false
unfolding escaped is_quote
no_escape r h = by (nat_eq 92 r) refl
  where
    by : (b : Bool) → nat_eq 92 r ≡ b → b ≡ false
    by true e = let is : escaped 92 ≡ None = subst (λ (y : ℕ). escaped y ≡ None) (sym (eqb-true 92 r e)) h in absurd (cc is)
    by false e = refl

shares : (rest : List ℕ) (quote : ℕ) (b : Bool) → common (complete quote b rest) rest ≡ quoted_length quote b rest
unfolding quoted_length
shares [] quote true = refl
shares [] quote false = refl
shares (r ∷ rest) quote true = by (escaped r) refl (shares rest quote false)
  where
    by : (o : Option ℕ) → escaped r ≡ o → common (complete quote false rest) rest ≡ quoted_length quote false rest
        → common (cond (is_some o) (r ∷ complete quote false rest) (92 ∷ quote ∷ [])) (r ∷ rest) ≡ option_map_or (λ one. 1 + quoted_length quote false rest) o 0
    by None t rec = rw (no_escape r t) refl
    by (Some one) t rec = rw (eq-eqb r r refl) (ap (λ (m : ℕ). 1 + m) rec)
shares (r ∷ rest) quote false = by (nat_eq r 92) (nat_eq r quote) (shares rest quote true) (shares rest quote false)
  where
    by : (s k : Bool) → common (complete quote true rest) rest ≡ quoted_length quote true rest → common (complete quote false rest) rest ≡ quoted_length quote false rest
        → common (cond s (r ∷ complete quote true rest) (cond k (r ∷ []) (r ∷ complete quote false rest))) (r ∷ rest) ≡ cond s (1 + quoted_length quote true rest) (cond k 1 (1 + quoted_length quote false rest))
    by true k one other = rw (eq-eqb r r refl) (ap (λ (m : ℕ). 1 + m) one)
    by false true one other = rw (eq-eqb r r refl) refl
    by false false one other = rw (eq-eqb r r refl) (ap (λ (m : ℕ). 1 + m) other)

quoted_whole : (quote : ℕ) (inner content : List ℕ) → is_quote quote ≡ true → quoted quote false inner ≡ Some (content, length inner) → Whole (token.Text content) (quote ∷ inner)
unfolding is_quote is_word_byte
quoted_whole quote inner content q e = by (quote_is quote q)
  where
    found : (o : Option (List ℕ × ℕ)) → o ≡ Some (content, length inner) → option_map {U = Token × ℕ} (λ found. (token.Text found.0, 1 + found.1)) o ≡ Some (token.Text content, length (quote ∷ inner))
    found o e = ap (option_map {U = Token × ℕ} (λ found. (token.Text found.0, 1 + found.1))) e ∙ ap (λ (m : ℕ). Some (token.Text content, m)) (omega arith)

    by : (quote ≡ 34) ⊎ (quote ≡ 39) → Whole (token.Text content) (quote ∷ inner)
    by (inl is) = let f = found (quoted quote false inner) e in inl (rw is refl, rw is (rw is at f))
    by (inr is) = let f = found (quoted quote false inner) e in inl (rw is refl, rw is (rw is at f))

text_of : (s : List ℕ) → IsSpelling (λ w. is_text w ≡ true) s → (content : List ℕ) × IsTextSpelled content s
text_of s (w, n, bytes, is, t, e) = by w is (shaped bytes w n t)
  where
    by : (w : Token) → is_text w ≡ true → Shape w (take n bytes) → (content : List ℕ) × IsTextSpelled content s
    by (token.Text content) is h = (content, (h.0, h.1, h.2, h.3, h.4, sym e ∙ h.5))
    by _ is h = absurd (cc is)

text_further : (text s content : List ℕ) → IsTextSpelled content s → common s text ≤ text_length_of text
text_further [] s content h = (let k = common_none s in omega (arith, k))
text_further (r ∷ rest) s content (quote, bytes, n, q, e, is) =
    let a = quoted_along bytes rest quote false content n e in
    subst (λ (l : List ℕ). common l (r ∷ rest) ≤ text_length_of (r ∷ rest)) (sym is)
    (along quote r (common (take n bytes) rest) (λ y. text_length_of (y ∷ rest)) (rw q (omega (arith, a))))

pub text_longest : (text : List ℕ) → IsLongest (IsSpelling (λ w. is_text w ≡ true)) text (text_length_of text)
text_longest text = record { begins = begins text; no_further = λ s h. (let t = text_of s h in text_further text s t.0 t.1) }
  where
    begins : (text : List ℕ) → (text_length_of text ≡ 0) ⊎ ((s : List ℕ) × IsSpelling (λ w. is_text w ≡ true) s × (common s text ≡ text_length_of text))
    begins [] = inl refl
    begins (r ∷ rest) = by (is_quote r) refl
      where
        by : (b : Bool) → is_quote r ≡ b → (cond b (1 + quoted_length r false rest) 0 ≡ 0) ⊎ ((s : List ℕ) × IsSpelling (λ w. is_text w ≡ true) s × (common s (r ∷ rest) ≡ cond b (1 + quoted_length r false rest) 0))
        by false q = inl refl
        by true q =
            let inner = complete r false rest in
            let c = completes rest r false q in
            inr (r ∷ inner, whole_spelling (token.Text c.0) (r ∷ inner) refl (quoted_whole r inner c.0 q c.1), rw (eq-eqb r r refl) (ap (λ (m : ℕ). 1 + m) (shares rest r false)))

-- ---- ints

-- the number of an int, and its first digit
int_fits : (negative : Bool) (digits : List ℕ) (z : ℤ) → int_of negative digits ≡ Some z → (number 0 digits ≤ cond negative 9223372036854775808 9223372036854775807) × (0 < length digits)
unfolding int_of
int_fits true [] z e = absurd (cc e)
int_fits false [] z e = absurd (cc e)
int_fits true (d ∷ digits) z e = by (nat_le (number 0 (d ∷ digits)) 9223372036854775808) refl e
  where
    by : (b : Bool) → nat_le (number 0 (d ∷ digits)) 9223372036854775808 ≡ b → cond b (Some (neg_ℤ (pos (number 0 (d ∷ digits))))) None ≡ Some z → (number 0 (d ∷ digits) ≤ 9223372036854775808) × (0 < length (d ∷ digits))
    by true t e = (leb-true (number 0 (d ∷ digits)) 9223372036854775808 t, omega arith)
    by false t e = absurd (cc e)
int_fits false (d ∷ digits) z e = by (nat_le (number 0 (d ∷ digits)) 9223372036854775807) refl e
  where
    by : (b : Bool) → nat_le (number 0 (d ∷ digits)) 9223372036854775807 ≡ b → cond b (Some (pos (number 0 (d ∷ digits)))) None ≡ Some z → (number 0 (d ∷ digits) ≤ 9223372036854775807) × (0 < length (d ∷ digits))
    by true t e = (leb-true (number 0 (d ∷ digits)) 9223372036854775807 t, omega arith)
    by false t e = absurd (cc e)

is_le : (a b : ℕ) → a ≤ b → nat_le a b ≡ true
is_le a b h = grind (arith, nat_tests)

-- the int of digits
fits_int : (negative : Bool) (d : ℕ) (digits : List ℕ) → number 0 (d ∷ digits) ≤ cond negative 9223372036854775808 9223372036854775807 → (z : ℤ) × (int_of negative (d ∷ digits) ≡ Some z)
unfolding int_of
fits_int true d digits h = (neg_ℤ (pos (number 0 (d ∷ digits))), ap (λ (b : Bool). cond b (Some (neg_ℤ (pos (number 0 (d ∷ digits))))) None) (is_le (number 0 (d ∷ digits)) 9223372036854775808 h))
fits_int false d digits h = (pos (number 0 (d ∷ digits)), ap (λ (b : Bool). cond b (Some (pos (number 0 (d ∷ digits)))) None) (is_le (number 0 (d ∷ digits)) 9223372036854775807 h))

and_split : (a b : Bool) → (a && b) ≡ true → (a ≡ true) × (b ≡ true)
and_split true b h = (refl, h)
and_split false b h = absurd (cc h)

digits_along : (most : ℕ) (digits rest : List ℕ) (value : ℕ) → list_all is_digit digits ≡ true → number value digits ≤ most → common digits rest ≤ fitting most value (take_while is_digit rest)
digits_along most [] rest value all h = omega arith
digits_along most (d ∷ digits) [] value all h = omega arith
digits_along most (d ∷ digits) (r ∷ rest) value all h =
    let split = and_split (is_digit d) (list_all is_digit digits) all in
    let next = value * 10 + (d - 48) in
    let rec = digits_along most digits rest next split.1 h in
    let grown : next ≤ number next digits = number_grows digits next in
    let fits : nat_le next most ≡ true = is_le next most (omega (arith, grown, h)) in
    subst (λ (l : List ℕ). common (d ∷ digits) (r ∷ rest) ≤ fitting most value l) (sym (take_while-cons is_digit r rest))
    (along d r (common digits rest) (λ y. fitting most value (cond (is_digit y) (y ∷ take_while is_digit rest) [])) (rw (split.0, fits) (omega (arith, rec))))

int_of_spelling : (s : List ℕ) → IsSpelling (λ w. is_int w ≡ true) s → (z : ℤ) × IsIntSpelled z s
int_of_spelling s (w, n, bytes, is, t, e) = by w is (shaped bytes w n t)
  where
    by : (w : Token) → is_int w ≡ true → Shape w (take n bytes) → (z : ℤ) × IsIntSpelled z s
    by (token.Int z) is h = (z, (h.0, h.1, h.2, h.3, sym e ∙ h.4))
    by _ is h = absurd (cc is)

no_minus : (d : ℕ) → is_digit d ≡ true → nat_eq d 45 ≡ false
no_minus d h = grind (arith, nat_tests)

int_further : (text s : List ℕ) (z : ℤ) → IsIntSpelled z s → common s text ≤ int_length_of text
int_further [] s z h = (let k = common_none s in omega (arith, k))
int_further (r ∷ rest) s z (true, digits, e, all, is) =
    let fits = (int_fits true digits z e).0 in
    let a = digits_along 9223372036854775808 digits rest 0 all fits in
    subst (λ (l : List ℕ). common l (r ∷ rest) ≤ int_length_of (r ∷ rest)) (sym is)
    (along 45 r (common digits rest) (λ y. int_length_of (y ∷ rest)) (omega (arith, a)))
int_further (r ∷ rest) s z (false, [], e, all, is) = absurd (let h = (int_fits false [] z e).1 in omega (arith, h))
int_further (r ∷ rest) s z (false, d ∷ digits, e, all, is) =
    let split = and_split (is_digit d) (list_all is_digit digits) all in
    let a = digits_along 9223372036854775807 (d ∷ digits) (r ∷ rest) 0 all (int_fits false (d ∷ digits) z e).0 in
    subst (λ (l : List ℕ). common l (r ∷ rest) ≤ int_length_of (r ∷ rest)) (sym is)
    (by (nat_eq r 45) refl split.0 a)
  where
    by : (b : Bool) → nat_eq r 45 ≡ b → is_digit d ≡ true → common (d ∷ digits) (r ∷ rest) ≤ fitting 9223372036854775807 0 (take_while is_digit (r ∷ rest))
        → common (d ∷ digits) (r ∷ rest) ≤ cond b (1 + fitting 9223372036854775808 0 (take_while is_digit rest)) (fitting 9223372036854775807 0 (take_while is_digit (r ∷ rest)))
    by false t k a = a
    by true t k a =
        let apart : nat_eq d r ≡ false = (let q : r ≡ 45 = eqb-true r 45 t in subst (λ (y : ℕ). nat_eq d y ≡ false) (sym q) (no_minus d k)) in
        rw apart (omega arith)

-- the digits that go on the number, while it fits
abbrev going : ℕ → ℕ → List ℕ → List ℕ
going most value [] = []
going most value (r ∷ rest) = cond (is_digit r && nat_le (value * 10 + (r - 48)) most) (r ∷ going most (value * 10 + (r - 48)) rest) []

record Goes (most value : ℕ) (digits rest : List ℕ) : Type 0 where
  all : list_all is_digit digits ≡ true
  fits : number value digits ≤ most
  shared : common digits rest ≡ fitting most value (take_while is_digit rest)

going_goes : (most : ℕ) (rest : List ℕ) (value : ℕ) → value ≤ most → Goes most value (going most value rest) rest
going_goes most [] value h = record { all = refl; fits = h; shared = refl }
going_goes most (r ∷ rest) value h = by (is_digit r) (nat_le (value * 10 + (r - 48)) most) refl refl (going_goes most rest (value * 10 + (r - 48)))
  where
    next : ℕ
    next = value * 10 + (r - 48)

    by : (d f : Bool) → is_digit r ≡ d → nat_le (value * 10 + (r - 48)) most ≡ f → (value * 10 + (r - 48) ≤ most → Goes most (value * 10 + (r - 48)) (going most (value * 10 + (r - 48)) rest) rest)
        → Goes most value (cond (d && f) (r ∷ going most (value * 10 + (r - 48)) rest) []) (r ∷ rest)
    by true true t u rec =
        let g = rec (leb-true (value * 10 + (r - 48)) most u) in
        record {
          all = rw t g.all;
          fits = g.fits;
          shared = rw (eq-eqb r r refl, take_while-cons is_digit r rest, t, u) (ap (λ (m : ℕ). 1 + m) g.shared);
        }
    by true false t u rec = record { all = refl; fits = h; shared = rw (take_while-cons is_digit r rest, t, u) refl }
    by false f t u rec = record { all = refl; fits = h; shared = rw (take_while-cons is_digit r rest, t) refl }

run_whole : (p : ℕ → Bool) (bytes : List ℕ) → list_all p bytes ≡ true → take_while p bytes ≡ bytes
run_whole p [] h = refl
run_whole p (byte ∷ bytes) h =
    let split = and_split (p byte) (list_all p bytes) h in
    take_while-cons p byte bytes ∙ (rw split.0 (ap (λ (l : List ℕ). byte ∷ l) (run_whole p bytes split.1)))

int_whole_minus : (digits : List ℕ) (z : ℤ) → list_all is_digit digits ≡ true → int_of true digits ≡ Some z → Whole (token.Int z) (45 ∷ digits)
unfolding is_quote is_word_byte
int_whole_minus digits z all e =
    inl (refl, rw (run_whole is_digit digits all, e) (ap (λ (m : ℕ). Some (token.Int z, m)) (omega arith)))

digit_apart : (d x : ℕ) → is_digit d ≡ true → 57 < x → nat_eq d x ≡ false
digit_apart d x h l = grind (arith, nat_tests)

digit_plain : (d : ℕ) → is_digit d ≡ true → (is_quote d ≡ false) × (is_word_byte d ≡ true)
unfolding is_quote is_word_byte
digit_plain d h = (grind (arith, nat_tests), grind (arith, nat_tests))

int_whole_plain : (d : ℕ) (digits : List ℕ) (z : ℤ) → is_digit d ≡ true → list_all is_digit digits ≡ true → int_of false (d ∷ digits) ≡ Some z → Whole (token.Int z) (d ∷ digits)
int_whole_plain d digits z h all e =
    let p = digit_plain d h in
    let run : take_while is_digit (d ∷ digits) ≡ d ∷ digits = run_whole is_digit (d ∷ digits) (rw h all) in
    inl (
      rw (take_while-cons is_word_byte d digits, p.1) (rw (digit_apart d 98 h (omega arith), digit_apart d 97 h (omega arith), digit_apart d 114 h (omega arith)) refl),
      rw (p.0, no_minus d h, run, h, e) refl,
    )

pub int_longest : (text : List ℕ) → IsLongest (IsSpelling (λ w. is_int w ≡ true)) text (int_length_of text)
int_longest text = record { begins = begins text; no_further = λ s h. (let t = int_of_spelling s h in int_further text s t.0 t.1) }
  where
    minus : (rest digits : List ℕ) → Goes 9223372036854775808 0 digits rest
        → (s : List ℕ) × IsSpelling (λ w. is_int w ≡ true) s × (common s (45 ∷ rest) ≡ 1 + fitting 9223372036854775808 0 (take_while is_digit rest))
    minus rest [] g = (
      45 ∷ 48 ∷ [],
      (let z = fits_int true 48 [] (omega arith) in whole_spelling (token.Int z.0) (45 ∷ 48 ∷ []) refl (int_whole_minus (48 ∷ []) z.0 refl z.1)),
      ap (λ (m : ℕ). 1 + m) (zero_apart rest (sym g.shared) ∙ g.shared),
    )
      where
        zero_apart : (rest : List ℕ) → fitting 9223372036854775808 0 (take_while is_digit rest) ≡ 0 → common (48 ∷ []) rest ≡ 0
        zero_apart [] h = refl
        zero_apart (r ∷ rest) h = by (nat_eq 48 r) refl
          where
            by : (b : Bool) → nat_eq 48 r ≡ b → cond b (1 + 0) 0 ≡ 0
            by false t = refl
            by true t =
                let one : fitting 9223372036854775808 0 (take_while is_digit (48 ∷ rest)) ≡ 0 = subst (λ (y : ℕ). fitting 9223372036854775808 0 (take_while is_digit (y ∷ rest)) ≡ 0) (sym (eqb-true 48 r t)) h in
                let more : 1 + fitting 9223372036854775808 0 (take_while is_digit rest) ≡ 0 = ap (fitting 9223372036854775808 0) (sym (take_while-cons is_digit 48 rest)) ∙ one in
                absurd (omega (arith, more))
    minus rest (d ∷ digits) g = (
      45 ∷ d ∷ digits,
      (let z = fits_int true d digits g.fits in whole_spelling (token.Int z.0) (45 ∷ d ∷ digits) refl (int_whole_minus (d ∷ digits) z.0 g.all z.1)),
      ap (λ (m : ℕ). 1 + m) g.shared,
    )

    plain : (text digits : List ℕ) → Goes 9223372036854775807 0 digits text
        → (fitting 9223372036854775807 0 (take_while is_digit text) ≡ 0) ⊎ ((s : List ℕ) × IsSpelling (λ w. is_int w ≡ true) s × (common s text ≡ fitting 9223372036854775807 0 (take_while is_digit text)))
    plain text [] g = inl (sym g.shared)
    plain text (d ∷ digits) g = inr (
      d ∷ digits,
      (let z = fits_int false d digits g.fits in let split = and_split (is_digit d) (list_all is_digit digits) g.all in
          whole_spelling (token.Int z.0) (d ∷ digits) refl (int_whole_plain d digits z.0 split.0 split.1 z.1)),
      g.shared,
    )

    begins : (text : List ℕ) → (int_length_of text ≡ 0) ⊎ ((s : List ℕ) × IsSpelling (λ w. is_int w ≡ true) s × (common s text ≡ int_length_of text))
    begins [] = inl refl
    begins (r ∷ rest) = by (nat_eq r 45) refl
      where
        by : (b : Bool) → nat_eq r 45 ≡ b
            → (cond b (1 + fitting 9223372036854775808 0 (take_while is_digit rest)) (fitting 9223372036854775807 0 (take_while is_digit (r ∷ rest))) ≡ 0)
            ⊎ ((s : List ℕ) × IsSpelling (λ w. is_int w ≡ true) s × (common s (r ∷ rest) ≡ cond b (1 + fitting 9223372036854775808 0 (take_while is_digit rest)) (fitting 9223372036854775807 0 (take_while is_digit (r ∷ rest)))))
        by true t =
            let m = minus rest (going 9223372036854775808 0 rest) (going_goes 9223372036854775808 rest 0 (omega arith)) in
            inr (m.0, m.1, ap (λ (y : ℕ). common m.0 (y ∷ rest)) (eqb-true r 45 t) ∙ m.2)
        by false t = plain (r ∷ rest) (going 9223372036854775807 0 (r ∷ rest)) (going_goes 9223372036854775807 (r ∷ rest) 0 (omega arith))
