-- Texts between quotes.
use Rattle.std.proofs.Common.{◌≡◌, ◌≢◌, ℕ, zero, suc, ◌+◌, ◌<◌, ◌≤◌, List, [], ◌∷◌, ◌++◌, ◌∙◌, ap, ap₂, sym, refl, subst, length, drop, get_or, Option, None, Some, option_map, option_and_then, Bool, true, false, cond, nat_eq, ◌||◌, append_assoc, arith, length-append, drop-cons, eq-eqb, ne_eqb}
use Rattle.std.specs.Option.{option_map_or}
use Rattle.std.specs.Str.{IsUtf8}
use Rattle.std.proofs.Math.Seq.{take-append_seam, get_or-append_seam, drop-append-add}
use Rattle.std.proofs.lemmas.Bool.Decides.{nat_tests}
use Rattle.std.proofs.lemmas.List.{append-nil, drop_all}
use Rattle.std.proofs.lemmas.Str.{IsUtf8-append, IsUtf8-take, IsUtf8-drop, IsUtf8-from_ascii, IsCharBoundary-before_ascii, IsCharBoundary-after_ascii}
use Rattle.expr_lang.specs.Words.{quoted, escaped, with_first, is_quote}

-- what is found, with the bytes that were read before
abbrev pub behind_of : List ℕ → ℕ → Option (List ℕ × ℕ) → Option (List ℕ × ℕ)
behind_of content i found = option_map (λ rest. (content ++ rest.0, i + rest.1)) found

more_text : (content : List ℕ) (i one : ℕ) (found : Option (List ℕ × ℕ)) → behind_of content i (option_map (with_first one) found) ≡ behind_of (content ++ one ∷ []) (i + 1) found
more_text content i one None = refl
more_text content i one (Some rest) =
    let texts : content ++ one ∷ rest.0 ≡ (content ++ one ∷ []) ++ rest.0 = sym (append_assoc content (one ∷ []) rest.0) in
    let counts : i + (rest.1 + 1) ≡ (i + 1) + rest.1 = omega arith in
    ap₂ (λ (l : List ℕ) (n : ℕ). Some (l, n)) texts counts

more_bytes : (content : List ℕ) (i : ℕ) (found : Option (List ℕ × ℕ)) → behind_of content i (option_map (λ rest. (rest.0, rest.1 + 1)) found) ≡ behind_of content (i + 1) found
more_bytes content i None = refl
more_bytes content i (Some rest) = let counts : i + (rest.1 + 1) ≡ (i + 1) + rest.1 = omega arith in ap (λ (n : ℕ). Some (content ++ rest.0, n)) counts

next_is : (i : ℕ) → suc i ≡ i + 1
next_is i = omega arith

-- one turn of the loop over the bytes
module _ (content now : List ℕ) (quote i : ℕ) (behind next : Bool) (bytes : List ℕ) (inside : i < length bytes) where
  pub escape_taken : (one : ℕ) → behind ≡ true → next ≡ false → Some one ≡ escaped (get_or bytes i 0) → now ≡ content ++ one ∷ []
      → behind_of content i (quoted quote behind (drop i bytes)) ≡ behind_of now (i + 1) (quoted quote next (drop (i + 1) bytes))
  unfolding quoted
  escape_taken one b n e k =
      rw (b, n, k, drop-cons bytes i 0, ← e) (more_text content i one (quoted quote false (drop (suc i) bytes)) ∙ ap (λ (j : ℕ). behind_of (content ++ one ∷ []) (i + 1) (quoted quote false (drop j bytes))) (next_is i))

  pub backslash_taken : behind ≡ false → next ≡ true → get_or bytes i 0 ≡ 92 → now ≡ content
      → behind_of content i (quoted quote behind (drop i bytes)) ≡ behind_of now (i + 1) (quoted quote next (drop (i + 1) bytes))
  unfolding quoted
  backslash_taken b n e k =
      rw (b, n, k, drop-cons bytes i 0, eq-eqb (get_or bytes i 0) 92 e) (more_bytes content i (quoted quote true (drop (suc i) bytes)) ∙ ap (λ (j : ℕ). behind_of content (i + 1) (quoted quote true (drop j bytes))) (next_is i))

  pub byte_taken : behind ≡ false → next ≡ false → get_or bytes i 0 ≢ 92 → get_or bytes i 0 ≢ quote → now ≡ content ++ get_or bytes i 0 ∷ []
      → behind_of content i (quoted quote behind (drop i bytes)) ≡ behind_of now (i + 1) (quoted quote next (drop (i + 1) bytes))
  unfolding quoted
  byte_taken b n e l k =
      rw (b, n, k, drop-cons bytes i 0, ne_eqb (get_or bytes i 0) 92 e, ne_eqb (get_or bytes i 0) quote l)
      (more_text content i (get_or bytes i 0) (quoted quote false (drop (suc i) bytes)) ∙ ap (λ (j : ℕ). behind_of (content ++ get_or bytes i 0 ∷ []) (i + 1) (quoted quote false (drop j bytes))) (next_is i))

  pub escape_refused : behind ≡ true → None ≡ escaped (get_or bytes i 0) → behind_of content i (quoted quote behind (drop i bytes)) ≡ None
  unfolding quoted
  escape_refused b e = rw (b, drop-cons bytes i 0, ← e) refl

  pub text_ended : behind ≡ false → get_or bytes i 0 ≢ 92 → get_or bytes i 0 ≡ quote → behind_of content i (quoted quote behind (drop i bytes)) ≡ Some (content, i + 1)
  unfolding quoted
  text_ended b e k = rw (b, drop-cons bytes i 0, ne_eqb (get_or bytes i 0) 92 e, eq-eqb (get_or bytes i 0) quote k, append-nil) refl

pub text_open : (content : List ℕ) (quote i : ℕ) (behind : Bool) (bytes : List ℕ) → length bytes ≤ i → behind_of content i (quoted quote behind (drop i bytes)) ≡ None
unfolding quoted
text_open content quote i true bytes h = rw (drop_all i bytes h) refl
text_open content quote i false bytes h = rw (drop_all i bytes h) refl

pub from_start : (quote : ℕ) (bytes : List ℕ) → quoted quote false bytes ≡ behind_of [] 0 (quoted quote false (drop 0 bytes))
from_start quote bytes = by (quoted quote false bytes)
  where
    by : (o : Option (List ℕ × ℕ)) → o ≡ behind_of [] 0 o
    by None = refl
    by (Some rest) = let n : rest.1 ≡ 0 + rest.1 = omega arith in ap (λ (k : ℕ). Some (rest.0, k)) n

-- ---- the text is UTF-8

-- a text may be cut at a character of ASCII
cut : (pre rest : List ℕ) (c : ℕ) → c < 128 → IsUtf8 (pre ++ c ∷ rest) → IsUtf8 pre × IsUtf8 rest
cut pre rest c low u =
    let all = pre ++ c ∷ rest in
    let len : length all ≡ length pre + length (c ∷ rest) = length-append pre (c ∷ rest) in
    let inside : length pre < length all = omega arith in
    let byte : get_or all (length pre) 0 < 128 = rw (get_or-append_seam pre c rest 0) low in (
      subst (λ (l : List ℕ). IsUtf8 l) (take-append_seam pre (c ∷ rest)) (IsUtf8-take all (length pre) u (IsCharBoundary-before_ascii all (length pre) inside byte)),
      subst (λ (l : List ℕ). IsUtf8 l) (drop-append-add pre (c ∷ rest) 1) (IsUtf8-drop all (length pre + 1) u (IsCharBoundary-after_ascii all (length pre) u inside byte)),
    )

low_escape : (byte one : ℕ) → escaped byte ≡ Some one → (byte < 128) × (one < 128)
unfolding escaped is_quote
low_escape byte one e = by (nat_eq byte 110) (nat_eq byte 116) (nat_eq byte 114) (nat_eq byte 34) (nat_eq byte 39) (nat_eq byte 92) refl refl refl refl refl refl e
  where
    is_one : (known : ℕ) → Some known ≡ Some one → byte < 128 → known < 128 → (byte < 128) × (one < 128)
    is_one known e b k = let is : known ≡ one = cc e in (b, omega (arith, is, k))

    by : (n t r q p s : Bool) → nat_eq byte 110 ≡ n → nat_eq byte 116 ≡ t → nat_eq byte 114 ≡ r → nat_eq byte 34 ≡ q → nat_eq byte 39 ≡ p → nat_eq byte 92 ≡ s
        → cond n (Some 10) (cond t (Some 9) (cond r (Some 13) (cond ((q || p) || s) (Some byte) None))) ≡ Some one → (byte < 128) × (one < 128)
    by true t r q p s a b c d f g e = is_one 10 e (grind (arith, nat_tests)) (omega arith)
    by false true r q p s a b c d f g e = is_one 9 e (grind (arith, nat_tests)) (omega arith)
    by false false true q p s a b c d f g e = is_one 13 e (grind (arith, nat_tests)) (omega arith)
    by false false false true p s a b c d f g e = let l : byte < 128 = grind (arith, nat_tests) in is_one byte e l l
    by false false false false true s a b c d f g e = let l : byte < 128 = grind (arith, nat_tests) in is_one byte e l l
    by false false false false false true a b c d f g e = let l : byte < 128 = grind (arith, nat_tests) in is_one byte e l l
    by false false false false false false a b c d f g e = absurd (cc e)

one_utf8 : (byte : ℕ) → byte < 128 → IsUtf8 (byte ∷ [])
one_utf8 byte l = IsUtf8-from_ascii (byte ∷ []) ascii
  where
    ascii : (i : ℕ) → get_or (byte ∷ []) i 0 < 128
    ascii zero = l
    ascii (suc i) = omega arith

first_is : (a b : List ℕ) (m n : ℕ) → ◌≡◌ {A = Option (List ℕ × ℕ)} (Some (a, m)) (Some (b, n)) → a ≡ b
first_is a b m n e = ap (λ (o : Option (List ℕ × ℕ)). option_map_or (λ (r : List ℕ × ℕ). r.0) o []) e

abbrev left_of : Bool → List ℕ → List ℕ
left_of true bytes = 92 ∷ bytes
left_of false bytes = bytes

-- the claim for the bytes that follow
abbrev Inner : ℕ → List ℕ → Type 0
Inner quote bytes = (b : Bool) (pre content : List ℕ) (n : ℕ) → quoted quote b bytes ≡ Some (content, n) → IsUtf8 (pre ++ left_of b bytes) → IsUtf8 (pre ++ content)

content_of : (bytes : List ℕ) (behind : Bool) (quote : ℕ) (pre content : List ℕ) (n : ℕ) → quote < 128 → quoted quote behind bytes ≡ Some (content, n)
    → IsUtf8 (pre ++ left_of behind bytes) → IsUtf8 (pre ++ content)
unfolding quoted
content_of [] true quote pre content n q e u = absurd (cc e)
content_of [] false quote pre content n q e u = absurd (cc e)
content_of (byte ∷ bytes) true quote pre content n q e u = by (escaped byte) refl e (λ b pre content n e u. content_of bytes b quote pre content n q e u)
  where
    inner : (one : ℕ) (found : Option (List ℕ × ℕ)) → quoted quote false bytes ≡ found → escaped byte ≡ Some one → option_map (with_first one) found ≡ Some (content, n) → Inner quote bytes → IsUtf8 (pre ++ content)
    inner one None f k e rec = absurd (cc e)
    inner one (Some rest) f k e rec =
        let low = low_escape byte one k in
        let first = cut pre (byte ∷ bytes) 92 (omega arith) u in
        let second = cut [] bytes byte low.0 first.1 in
        let is : one ∷ rest.0 ≡ content = first_is (one ∷ rest.0) content (rest.1 + 1) n e in
        let with_one : IsUtf8 ((pre ++ one ∷ []) ++ bytes) = IsUtf8-append (pre ++ one ∷ []) bytes (IsUtf8-append pre (one ∷ []) first.0 (one_utf8 one low.1)) second.1 in
        subst (λ (l : List ℕ). IsUtf8 (pre ++ l)) is
        (subst (λ (l : List ℕ). IsUtf8 l) (append_assoc pre (one ∷ []) rest.0) (rec false (pre ++ one ∷ []) rest.0 rest.1 f with_one))

    by : (o : Option ℕ) → escaped byte ≡ o → option_and_then (λ one. option_map (with_first one) (quoted quote false bytes)) o ≡ Some (content, n) → Inner quote bytes → IsUtf8 (pre ++ content)
    by None k e rec = absurd (cc e)
    by (Some one) k e rec = inner one (quoted quote false bytes) refl k e rec
content_of (byte ∷ bytes) false quote pre content n q e u =
    by (nat_eq byte 92) (nat_eq byte quote) refl refl e (λ b pre content n e u. content_of bytes b quote pre content n q e u)
  where
    slash : (found : Option (List ℕ × ℕ)) → quoted quote true bytes ≡ found → nat_eq byte 92 ≡ true → option_map {U = List ℕ × ℕ} (λ rest. (rest.0, rest.1 + 1)) found ≡ Some (content, n) → Inner quote bytes → IsUtf8 (pre ++ content)
    slash None f k e rec = absurd (cc e)
    slash (Some rest) f k e rec =
        let is : rest.0 ≡ content = first_is rest.0 content (rest.1 + 1) n e in
        let byte_is : byte ≡ 92 = grind (arith, nat_tests) in
        subst (λ (l : List ℕ). IsUtf8 (pre ++ l)) is (rec true pre rest.0 rest.1 f (subst (λ (b : ℕ). IsUtf8 (pre ++ b ∷ bytes)) byte_is u))

    plain : (found : Option (List ℕ × ℕ)) → quoted quote false bytes ≡ found → option_map (with_first byte) found ≡ Some (content, n) → Inner quote bytes → IsUtf8 (pre ++ content)
    plain None f e rec = absurd (cc e)
    plain (Some rest) f e rec =
        let is : byte ∷ rest.0 ≡ content = first_is (byte ∷ rest.0) content (rest.1 + 1) n e in
        subst (λ (l : List ℕ). IsUtf8 (pre ++ l)) is
        (subst (λ (l : List ℕ). IsUtf8 l) (append_assoc pre (byte ∷ []) rest.0)
        (rec false (pre ++ byte ∷ []) rest.0 rest.1 f (subst (λ (l : List ℕ). IsUtf8 l) (sym (append_assoc pre (byte ∷ []) bytes)) u)))

    by : (s k : Bool) → nat_eq byte 92 ≡ s → nat_eq byte quote ≡ k
        → cond s (option_map {U = List ℕ × ℕ} (λ rest. (rest.0, rest.1 + 1)) (quoted quote true bytes)) (cond k (Some ([], 1)) (option_map (with_first byte) (quoted quote false bytes))) ≡ Some (content, n)
        → Inner quote bytes → IsUtf8 (pre ++ content)
    by true k a b e rec = slash (quoted quote true bytes) refl a e rec
    by false true a b e rec =
        let is : [] ≡ content = first_is [] content 1 n e in
        let byte_is : byte < 128 = (let same : byte ≡ quote = grind (arith, nat_tests) in omega (arith, same, q)) in
        subst (λ (l : List ℕ). IsUtf8 (pre ++ l)) is (subst (λ (l : List ℕ). IsUtf8 l) (sym (append-nil pre)) (cut pre bytes byte byte_is u).0)
    by false false a b e rec = plain (quoted quote false bytes) refl e rec

pub content_utf8 : (quote : ℕ) (bytes content : List ℕ) (n : ℕ) → quote < 128 → IsUtf8 bytes → quoted quote false bytes ≡ Some (content, n) → IsUtf8 content
content_utf8 quote bytes content n q u e = content_of bytes false quote [] content n q e u

pub quote_low : (byte : ℕ) → is_quote byte ≡ true → byte < 128
unfolding is_quote
quote_low byte h = grind (arith, nat_tests)

pub inner_utf8 : (text : List ℕ) (at : ℕ) → IsUtf8 text → at < length text → get_or text at 0 < 128 → IsUtf8 (drop (at + 1) text)
inner_utf8 text at u h l = IsUtf8-drop text (at + 1) u (IsCharBoundary-after_ascii text at u h l)
