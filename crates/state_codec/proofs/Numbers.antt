-- A number, bytes or a text that is read is the one that is spelled there, and what is spelled is read again.
use Rattle.std.proofs.Common.{◌≡◌, ℕ, zero, suc, ◌+◌, ◌-◌, ◌^◌, ◌<◌, ◌≤◌, Bool, true, false, cond, ltb, eqb, List, [], ◌∷◌, ◌++◌, length, get_or, take, drop, Result, Ok, Err, refl, sym, ap, subst, ◌∙◌, append_assoc, arith, inl, inr}
use Rattle.std.specs.Int.{Width, w32, w64, byte_len, from_be_bytes, to_be_bytes}
use Rattle.std.specs.Str.{IsUtf8, is_utf8}
use Rattle.std.specs.Str.Lossy.{utf8_valid_len, valid_len_up_to}
use Rattle.std.proofs.lemmas.Bool.{cases_lt, ltb-false, le-ltb, eqb-true, eq-eqb}
use Rattle.std.proofs.lemmas.List.{take_at, drop_at, take_all, take-append-drop, length-append, length-take, get_or-drop, get_or-take, get_or_past}
use Rattle.std.proofs.lemmas.Nat.{be_bytes_4, be_bytes_8, from_be_bytes-to_be_bytes_4, from_be_bytes-to_be_bytes_8}
use Rattle.std.proofs.lemmas.Str.{IsUtf8-nil, IsUtf8-from_is_utf8, utf8_valid_len_le, utf8_valid_len-IsUtf8}
use Rattle.state_codec.specs.Spelling.{bytes_spelling}
use Rattle.state_codec.specs.Rules.{IsShortText}
use Rattle.state_codec.specs.Reading.{◌>>=◌, number_at, bytes_at, text_at, text_fault}

abbrev pub IsBytes : List ℕ → Type 0
IsBytes bytes = (i : ℕ) → get_or bytes i 0 < 256

pub bytes_after : (n : ℕ) (bytes : List ℕ) → IsBytes bytes → IsBytes (drop n bytes)
bytes_after n bytes fits i = rw get_or-drop (fits (n + i))

pub bytes_before : (n : ℕ) (bytes : List ℕ) → IsBytes bytes → IsBytes (take n bytes)
bytes_before n bytes fits i = elim (cases_lt i n) [
  | inl less ↦ rw (get_or-take n bytes i 0 less) (fits i)
  | inr most ↦ rw (get_or_past (take n bytes) i 0 (omega (arith, length-take n bytes))) (omega arith)
]

pub bytes_behind : (b : ℕ) (bytes : List ℕ) → IsBytes (b ∷ bytes) → IsBytes bytes
bytes_behind b bytes fits i = fits (suc i)

-- ---- steps that do not fail

pub bind_ok : {A B : Type 0} (r : Result A ℕ) (f : A → Result B ℕ) (y : B) → (r >>= f) ≡ Ok y → (x : A) × (r ≡ Ok x) × (f x ≡ Ok y)
bind_ok (Ok x) f y e = (x, refl, e)
bind_ok (Err left) f y e = absurd cc

pub guard_ok : {A : Type 0} (b : Bool) (left : ℕ) (x y : A) → cond b (Err left) (Ok x) ≡ Ok y → (b ≡ false) × (x ≡ y)
guard_ok true left x y e = absurd cc
guard_ok false left x y e = (refl, cc)

pub test_ok : {A : Type 0} (b : Bool) (left : ℕ) (x y : A) → cond b (Ok x) (Err left) ≡ Ok y → (b ≡ true) × (x ≡ y)
test_ok true left x y e = (refl, cc)
test_ok false left x y e = absurd cc

abbrev done : {A : Type 0} → A → Result A ℕ
done x = Ok x

pub ok_is : {A : Type 0} (x y : A) → done x ≡ done y → x ≡ y
ok_is x y e = cc

pub err_or_ok : {A : Type 0} (r : Result A ℕ) (left : ℕ) (x : A) → r ≡ Err left → r ≡ Ok x → ⊥
err_or_ok r left x fails reads = cc (fails, reads)

-- what was taken from the front of some bytes
pub record Takes (bytes spelled rest : List ℕ) : Type 0 where
  pub parts : bytes ≡ spelled ++ rest
  pub left : IsBytes rest

pub takes_both : (a x b y c : List ℕ) → Takes a x b → Takes b y c → Takes a (x ++ y) c
takes_both a x b y c first second = record {
  parts = first.parts ∙ ap (λ (t : List ℕ). x ++ t) second.parts ∙ sym (append_assoc x y c);
  left = second.left;
}

pub takes_tag : (tag : ℕ) (a x b : List ℕ) → Takes a x b → Takes (tag ∷ a) (tag ∷ x) b
takes_tag tag a x b t = record { parts = ap (λ (l : List ℕ). tag ∷ l) t.parts; left = t.left }

-- ---- numbers

-- how many bytes numbers below a limit have
pub record IsWide (w : Width) (limit : ℕ) : Type 0 where
  pub size : (n : ℕ) → length (to_be_bytes w n) ≡ byte_len w
  pub back : (bytes : List ℕ) → length bytes ≡ byte_len w → IsBytes bytes → to_be_bytes w (from_be_bytes w bytes) ≡ bytes
  pub again : (n : ℕ) → n < limit → from_be_bytes w (to_be_bytes w n) ≡ n
  pub below : (bytes : List ℕ) → IsBytes bytes → from_be_bytes w bytes < limit

pub wide32 : IsWide w32 (2 ^ 32)
wide32 = record {
  size = λ n. refl;
  back = λ bytes size fits. be_bytes_4 bytes _ size fits refl;
  again = λ n small. from_be_bytes-to_be_bytes_4 n small;
  below = λ bytes fits. omega (arith, fits 0, fits 1, fits 2, fits 3);
}

pub wide64 : IsWide w64 (2 ^ 64)
wide64 = record {
  size = λ n. refl;
  back = λ bytes size fits. be_bytes_8 bytes _ size fits refl;
  again = λ n small. from_be_bytes-to_be_bytes_8 n small;
  below = λ bytes fits. omega (arith, fits 0, fits 1, fits 2, fits 3, fits 4, fits 5, fits 6, fits 7);
}

pub number_takes : (w : Width) (limit : ℕ) → IsWide w limit → (bytes : List ℕ) (n : ℕ) (rest : List ℕ) → IsBytes bytes → number_at w bytes ≡ Ok (n, rest)
    → Takes bytes (to_be_bytes w n) rest × (n < limit)
unfolding number_at
number_takes w limit wide bytes n rest fits e =
    let size = byte_len w in
    let read = guard_ok (ltb (length bytes) (byte_len w)) 0 (from_be_bytes w (take (byte_len w) bytes), drop (byte_len w) bytes) (n, rest) e in
    let long : byte_len w ≤ length bytes = ltb-false (length bytes) (byte_len w) read.0 in
    let number : from_be_bytes w (take (byte_len w) bytes) ≡ n = ap (λ (p : ℕ × List ℕ). p.0) read.1 in
    let behind : drop (byte_len w) bytes ≡ rest = ap (λ (p : ℕ × List ℕ). p.1) read.1 in
    let front : to_be_bytes w n ≡ take (byte_len w) bytes =
    rw (← number) (wide.back (take (byte_len w) bytes) (omega (arith, length-take (byte_len w) bytes)) (bytes_before (byte_len w) bytes fits)) in (
      record { parts = rw (front, ← behind) (sym (take-append-drop (byte_len w) bytes)); left = rw (← behind) (bytes_after (byte_len w) bytes fits) },
      rw (← number) (wide.below (take (byte_len w) bytes) (bytes_before (byte_len w) bytes fits)),
    )

pub number_again : (w : Width) (limit : ℕ) → IsWide w limit → (n : ℕ) (rest : List ℕ) → n < limit → number_at w (to_be_bytes w n ++ rest) ≡ Ok (n, rest)
unfolding number_at
number_again w limit wide n rest small =
    let size = wide.size n in
    let long : ltb (length (to_be_bytes w n ++ rest)) (byte_len w) ≡ false = le-ltb _ _ (omega (arith, length-append (to_be_bytes w n) rest)) in
    rw (long, take_at (to_be_bytes w n) rest (byte_len w) size, drop_at (to_be_bytes w n) rest (byte_len w) size, wide.again n small) refl

-- ---- bytes

-- so many bytes behind their number
counted_takes : (bytes rest : List ℕ) (n : ℕ) → Takes bytes (to_be_bytes w32 n) rest → n ≤ length rest → Takes bytes (bytes_spelling (take n rest)) (drop n rest)
counted_takes bytes rest n number whole =
    let size : length (take n rest) ≡ n = omega (arith, length-take n rest) in
    let second : Takes rest (take n rest) (drop n rest) = record { parts = sym (take-append-drop n rest); left = bytes_after n rest number.left } in
    subst (λ (k : ℕ). Takes bytes (to_be_bytes w32 k ++ take n rest) (drop n rest)) (sym size) (takes_both bytes (to_be_bytes w32 n) rest (take n rest) (drop n rest) number second)

pub bytes_takes : (bytes : List ℕ) (x : List ℕ × List ℕ) → IsBytes bytes → bytes_at bytes ≡ Ok x → Takes bytes (bytes_spelling x.0) x.1 × (length x.0 < 2 ^ 32)
unfolding bytes_at
bytes_takes bytes x fits e =
    let b = bind_ok (number_at w32 bytes) (λ n. cond (ltb (length n.1) n.0) (Err 0) (Ok (take n.0 n.1, drop n.0 n.1))) x e in
    let n = b.0.0 in
    let rest = b.0.1 in
    let number = number_takes w32 (2 ^ 32) wide32 bytes b.0.0 b.0.1 fits b.1 in
    let read = guard_ok (ltb (length b.0.1) b.0.0) 0 (take b.0.0 b.0.1, drop b.0.0 b.0.1) x b.2 in
    let whole : b.0.0 ≤ length b.0.1 = ltb-false (length b.0.1) b.0.0 read.0 in
    subst (λ (p : List ℕ × List ℕ). Takes bytes (bytes_spelling p.0) p.1 × (length p.0 < 2 ^ 32)) read.1
    (counted_takes bytes b.0.1 b.0.0 number.0 whole, omega (arith, number.1, length-take b.0.0 b.0.1))

pub bytes_again : (value rest : List ℕ) → length value < 2 ^ 32 → bytes_at (bytes_spelling value ++ rest) ≡ Ok (value, rest)
unfolding bytes_at
bytes_again value rest small =
    let long : ltb (length (value ++ rest)) (length value) ≡ false = le-ltb _ _ (omega (arith, length-append value rest)) in
    rw (number_again w32 (2 ^ 32) wide32 (length value) (value ++ rest) small, long, take_at value rest (length value) refl, drop_at value rest (length value) refl) refl

-- ---- texts

shorter_or_same : (b : Bool) (n m : ℕ) → m ≤ n → cond b (suc n) m ≤ suc n
shorter_or_same true n m h = omega arith
shorter_or_same false n m h = omega arith

valid_len_below : (bytes : List ℕ) (n : ℕ) → valid_len_up_to bytes n ≤ n
valid_len_below bytes zero = omega arith
valid_len_below bytes (suc n) = shorter_or_same (is_utf8 (take (suc n) bytes)) n (valid_len_up_to bytes n) (valid_len_below bytes n)

pub valid_whole : (bytes : List ℕ) → utf8_valid_len bytes ≡ length bytes → IsUtf8 bytes
unfolding utf8_valid_len
valid_whole [] e = IsUtf8-nil
valid_whole (b ∷ bytes) e = by_test (is_utf8 (take (length (b ∷ bytes)) (b ∷ bytes))) refl e
  where
    by_test : (t : Bool) → is_utf8 (take (length (b ∷ bytes)) (b ∷ bytes)) ≡ t → cond t (suc (length bytes)) (valid_len_up_to (b ∷ bytes) (length bytes)) ≡ suc (length bytes) → IsUtf8 (b ∷ bytes)
    by_test true is same = subst (λ (l : List ℕ). IsUtf8 l) (take_all (length (b ∷ bytes)) (b ∷ bytes) (omega arith)) (IsUtf8-from_is_utf8 (take (length (b ∷ bytes)) (b ∷ bytes)) is)
    by_test false is same = absurd (omega (arith, same, valid_len_below (b ∷ bytes) (length bytes)))

pub text_takes : (bytes : List ℕ) (x : List ℕ × List ℕ) → IsBytes bytes → text_at bytes ≡ Ok x → Takes bytes (bytes_spelling x.0) x.1 × IsShortText x.0
unfolding text_at
text_takes bytes x fits e =
    let b = bind_ok (number_at w32 bytes) (λ n. cond (eqb (utf8_valid_len (take n.0 n.1)) n.0) (Ok (take n.0 n.1, drop n.0 n.1)) (Err (length n.1 - text_fault n.0 (take n.0 n.1)))) x e in
    let number = number_takes w32 (2 ^ 32) wide32 bytes b.0.0 b.0.1 fits b.1 in
    let read = test_ok (eqb (utf8_valid_len (take b.0.0 b.0.1)) b.0.0) (length b.0.1 - text_fault b.0.0 (take b.0.0 b.0.1)) (take b.0.0 b.0.1, drop b.0.0 b.0.1) x b.2 in
    let valid : utf8_valid_len (take b.0.0 b.0.1) ≡ b.0.0 = eqb-true _ _ read.0 in
    let most = utf8_valid_len_le (take b.0.0 b.0.1) in
    let size : length (take b.0.0 b.0.1) ≡ b.0.0 = omega (arith, valid, most, length-take b.0.0 b.0.1) in
    let whole : b.0.0 ≤ length b.0.1 = omega (arith, size, length-take b.0.0 b.0.1) in
    subst (λ (p : List ℕ × List ℕ). Takes bytes (bytes_spelling p.0) p.1 × IsShortText p.0) read.1 (
      counted_takes bytes b.0.1 b.0.0 number.0 whole,
      record { utf8 = valid_whole (take b.0.0 b.0.1) (valid ∙ sym size); short = omega (arith, number.1, size) },
    )

pub text_again : (value rest : List ℕ) → IsShortText value → text_at (bytes_spelling value ++ rest) ≡ Ok (value, rest)
unfolding text_at
text_again value rest lawful =
    let valid : eqb (utf8_valid_len value) (length value) ≡ true = eq-eqb (utf8_valid_len value) (length value) (utf8_valid_len-IsUtf8 value lawful.utf8) in
    rw (number_again w32 (2 ^ 32) wide32 (length value) (value ++ rest) lawful.short, take_at value rest (length value) refl, drop_at value rest (length value) refl, valid) refl
