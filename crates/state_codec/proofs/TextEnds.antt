-- A text is refused at the first byte with which no text goes on.
use Rattle.std.proofs.Common.{◌≡◌, ◌≢◌, ℕ, zero, suc, ◌+◌, ◌-◌, ◌<◌, ◌≤◌, Bool, true, false, cond, eqb, ltb, List, [], ◌∷◌, ◌++◌, length, take, drop, get_or, ◌^◌, Option, None, Some, Ok, Err, refl, sym, ap, subst, ◌∙◌, append_assoc, arith, inl, inr, ◌⊎◌}
use lib.Utf8.{scalar, scalars, scalar_cases}
use Rattle.std.specs.Prelude.{encode_utf8, encode_utf8_all}
use Rattle.std.specs.Int.{Width, w32, byte_len, from_be_bytes, to_be_bytes, is_in_range}
use Rattle.std.specs.Str.{IsUtf8, is_utf8}
use Rattle.std.specs.Str.Lossy.{utf8_valid_len, valid_len_up_to, utf8_error_len, error_len_after_one, error_len_after_two, second_byte_min, second_byte_max}
use Rattle.std.proofs.lemmas.Bool.{cases_lt, cases_eq, and_parts, both_ways, le-ltb, le-leb, lt-leb, eqb-true, eq-eqb, ne_eqb}
use Rattle.std.proofs.lemmas.List.{length-take, length-drop, length-append, take-append-drop, take-take, take-append-le, drop-take, take_at, get_or-take, get_or-drop, get_or_append_left}
use Rattle.std.proofs.lemmas.Str.{IsUtf8-nil, IsUtf8-append, IsUtf8-encode, IsUtf8-drop, IsUtf8-from_is_utf8, is_utf8-from_IsUtf8, IsCharBoundary-from_take, utf8_valid_len_le}
use Rattle.state_codec.specs.Reading.{Reading, number_at, text_at, text_fault, character_len}
use Rattle.state_codec.proofs.Numbers.{IsBytes, wide32, number_takes, number_again, test_ok, valid_whole}
use Rattle.state_codec.proofs.Characters.{IsCharacter, encoded}
use Rattle.state_codec.proofs.Fair.{Blame, err_is, moved}

-- ---- the longest front that is UTF-8

valid_front : (bytes : List ℕ) (n : ℕ) → IsUtf8 (take (valid_len_up_to bytes n) bytes)
valid_front bytes zero = IsUtf8-nil
valid_front bytes (suc n) = by_test (valid_front bytes n) (is_utf8 (take (suc n) bytes)) refl
  where
    by_test : IsUtf8 (take (valid_len_up_to bytes n) bytes) → (t : Bool) → is_utf8 (take (suc n) bytes) ≡ t → IsUtf8 (take (cond (is_utf8 (take (suc n) bytes)) (suc n) (valid_len_up_to bytes n)) bytes)
    by_test shorter true is = rw is (IsUtf8-from_is_utf8 (take (suc n) bytes) is)
    by_test shorter false is = rw is shorter

valid_most : (bytes : List ℕ) (n m : ℕ) → m ≤ n → IsUtf8 (take m bytes) → m ≤ valid_len_up_to bytes n
valid_most bytes zero m within utf8 = within
valid_most bytes (suc n) m within utf8 = by_test (λ less. valid_most bytes n m less utf8) (is_utf8 (take (suc n) bytes)) refl
  where
    by_test : (m ≤ n → m ≤ valid_len_up_to bytes n) → (t : Bool) → is_utf8 (take (suc n) bytes) ≡ t → m ≤ cond (is_utf8 (take (suc n) bytes)) (suc n) (valid_len_up_to bytes n)
    by_test shorter true is = rw is within
    by_test shorter false is = rw is (elim (cases_eq m (suc n)) [
      | inl whole ↦ absurd (both_ways (is_utf8 (take (suc n) bytes)) is (is_utf8-from_IsUtf8 (take (suc n) bytes) (subst (λ (k : ℕ). IsUtf8 (take k bytes)) whole utf8)))
      | inr less ↦ shorter (omega (arith, within, less))
    ])

valid_utf8 : (bytes : List ℕ) → IsUtf8 (take (utf8_valid_len bytes) bytes)
unfolding utf8_valid_len
valid_utf8 bytes = valid_front bytes (length bytes)

valid_longest : (bytes : List ℕ) (m : ℕ) → m ≤ length bytes → IsUtf8 (take m bytes) → m ≤ utf8_valid_len bytes
unfolding utf8_valid_len
valid_longest bytes m within utf8 = valid_most bytes (length bytes) m within utf8

-- a text with a byte begins with a character
record BeginsWithOne (bytes : List ℕ) : Type 0 where
  c : ℕ
  rest : List ℕ
  is : bytes ≡ encode_utf8 c ++ rest
  scalar_is : scalar c ≡ true

first_character : (bytes : List ℕ) → IsUtf8 bytes → 0 < length bytes → BeginsWithOne bytes
first_character bytes utf8 some = by_list utf8.0 utf8.1.0 utf8.1.1
  where
    by_list : (cs : List ℕ) → scalars cs ≡ true → encode_utf8_all cs ≡ bytes → BeginsWithOne bytes
    by_list [] s e = absurd (omega (arith, some, ap (λ (l : List ℕ). length l) e))
    by_list (c ∷ cs) s e = record { c = c; rest = encode_utf8_all cs; is = sym e; scalar_is = (and_parts (scalar c) (scalars cs) s).0 }

-- ---- where a text can't go on

-- the parts of `text_fault`
abbrev fault_behind : ℕ → ℕ → Option ℕ → ℕ
fault_behind valid end None = end
fault_behind valid end (Some behind) = valid + behind

take_both : (n k : ℕ) (xs : List ℕ) → take (n + k) xs ≡ take n xs ++ take k (drop n xs)
take_both n k xs = sym (take-append-drop n (take (n + k) xs)) ∙ ap (λ (l : List ℕ). l ++ drop n (take (n + k) xs)) (take-take n (n + k) xs (omega arith)) ∙ ap (λ (l : List ℕ). take n xs ++ l) (drop-take n k xs)

-- some bytes that are no text, and a text that begins as they do
record GoesOn (size : ℕ) (bytes text : List ℕ) (agree : ℕ) : Type 0 where
  room : length bytes ≤ size
  wrong : utf8_valid_len bytes < length bytes
  utf8 : IsUtf8 text
  sized : length text ≡ size
  within : agree ≤ length bytes
  behind : utf8_valid_len bytes < agree
  same : take agree text ≡ take agree bytes

same_byte : (size : ℕ) (bytes text : List ℕ) (agree i : ℕ) → GoesOn size bytes text agree → i < agree → get_or text i 0 ≡ get_or bytes i 0
same_byte size bytes text agree i g inside = sym (get_or-take agree text i 0 inside) ∙ ap (λ (l : List ℕ). get_or l i 0) g.same ∙ get_or-take agree bytes i 0 inside

-- the character of the text that stands where the bytes are no text is not whole in what agrees
record NextCharacter (size : ℕ) (bytes text : List ℕ) (agree : ℕ) : Type 0 where
  shape : List ℕ
  is : IsCharacter shape
  fits : utf8_valid_len bytes + length shape ≤ size
  longer : agree < utf8_valid_len bytes + length shape
  stands : (i : ℕ) → utf8_valid_len bytes + i < agree → get_or (drop (utf8_valid_len bytes) bytes) i 0 ≡ get_or shape i 0

next_character : (size : ℕ) (bytes text : List ℕ) (agree : ℕ) → GoesOn size bytes text agree → NextCharacter size bytes text agree
next_character size bytes text agree g =
    let v : ℕ = utf8_valid_len bytes in
    let front : take v text ≡ take v bytes = sym (take-take v agree text (omega (arith, g.behind))) ∙ ap (λ (l : List ℕ). take v l) g.same ∙ take-take v agree bytes (omega (arith, g.behind)) in
    let front_utf8 : IsUtf8 (take v text) = subst (λ (l : List ℕ). IsUtf8 l) (sym front) (valid_utf8 bytes) in
    let rest_utf8 : IsUtf8 (drop v text) = IsUtf8-drop text v g.utf8 (IsCharBoundary-from_take text v g.utf8 (omega (arith, g.sized, g.wrong, g.room)) front_utf8) in
    let size_of : length (drop v text) ≡ length text - v = length-drop v text in
    let one = first_character (drop v text) rest_utf8 (omega (arith, size_of, g.sized, g.wrong, g.room)) in
    let shape : List ℕ = encode_utf8 one.c in
    let is : IsCharacter shape = encoded one.c (scalar_cases one.c one.scalar_is) in
    let parts : length (drop v text) ≡ length shape + length one.rest = ap (λ (l : List ℕ). length l) one.is ∙ length-append shape one.rest in
    let longer : agree < v + length shape = elim (cases_lt agree (v + length shape)) [
      | inl h ↦ h
      | inr whole ↦
          let taken : take (v + length shape) bytes ≡ take v bytes ++ shape =
          sym (take-take (v + length shape) agree bytes whole) ∙ ap (λ (l : List ℕ). take (v + length shape) l) (sym g.same) ∙ take-take (v + length shape) agree text whole
          ∙ take_both v (length shape) text ∙ ap (λ (l : List ℕ). l ++ take (length shape) (drop v text)) front
          ∙ ap (λ (l : List ℕ). take v bytes ++ l) (ap (λ (l : List ℕ). take (length shape) l) one.is ∙ take_at shape one.rest (length shape) refl) in
          let utf8 : IsUtf8 (take (v + length shape) bytes) =
          subst (λ (l : List ℕ). IsUtf8 l) (sym taken) (IsUtf8-append (take v bytes) shape (valid_utf8 bytes) (IsUtf8-encode one.c one.scalar_is)) in
          absurd (omega (arith, is.some, valid_longest bytes (v + length shape) (omega (arith, whole, g.within)) utf8))
    ] in
    record {
      shape = shape;
      is = is;
      fits = omega (arith, parts, size_of, g.sized, g.wrong, g.room);
      longer = longer;
      stands = λ i inside.
          get_or-drop v bytes i 0 ∙ sym (same_byte size bytes text agree (v + i) g inside) ∙ sym (get_or-drop v text i 0) ∙ ap (λ (l : List ℕ). get_or l i 0) one.is
          ∙ get_or_append_left shape one.rest 0 i (omega (arith, inside, longer));
    }

not_none : (t : Bool) (o : Option ℕ) (e : ℕ) → cond t None o ≡ Some e → o ≡ Some e
not_none true o e h = absurd cc
not_none false o e h = h

in_or : (t : Bool) (o : Option ℕ) (k e : ℕ) → cond t o (Some k) ≡ Some e → ((t ≡ true) × (o ≡ Some e)) ⊎ ((t ≡ false) × (k ≡ e))
in_or true o k e h = inl (refl, h)
in_or false o k e h = inr (refl, cc)

abbrev counted : ℕ → Option ℕ
counted n = Some n

some_is : (k e : ℕ) → counted k ≡ Some e → k ≡ e
some_is k e h = cc

-- the bytes before the e-th, and that one, are those of a character: the error isn't there
no_error : (tail shape : List ℕ) (e : ℕ) → IsCharacter shape → e + 1 < length shape → ((i : ℕ) → i ≤ e → get_or tail i 0 ≡ get_or shape i 0) → 0 < length tail → utf8_error_len tail ≡ Some e → ⊥
unfolding utf8_error_len
no_error tail shape e is short same some error =
    let lead : is_in_range 0xC2 0xF4 (get_or tail 0 0) ≡ true = ap (is_in_range 0xC2 0xF4) (same 0 (omega arith)) ∙ is.lead (omega (arith, short)) in
    let after_one : error_len_after_one tail ≡ Some e = rw (ne_eqb (length tail) 0 (λ h. omega (arith, h, some)), lead) at error in
    elim (in_or (is_in_range (second_byte_min (get_or tail 0 0)) (second_byte_max (get_or tail 0 0)) (get_or tail 1 0)) (error_len_after_two tail) 1 e
    (not_none (ltb (length tail) 2) (cond (is_in_range (second_byte_min (get_or tail 0 0)) (second_byte_max (get_or tail 0 0)) (get_or tail 1 0)) (error_len_after_two tail) (Some 1)) e after_one)) [
      | inr first ↦
          both_ways (is_in_range (second_byte_min (get_or tail 0 0)) (second_byte_max (get_or tail 0 0)) (get_or tail 1 0)) first.0
          (rw (same 0 (omega arith), same 1 (omega (arith, first.1))) (is.second (omega (arith, short, first.1))))
      | inl further ↦
          elim (in_or (is_in_range 0x80 0xBF (get_or tail 2 0)) (cond (ltb (length tail) 4) None (Some 3)) 2 e
          (not_none (ltb (length tail) 3) (cond (is_in_range 0x80 0xBF (get_or tail 2 0)) (cond (ltb (length tail) 4) None (Some 3)) (Some 2)) e further.1)) [
            | inr second ↦
                both_ways (is_in_range 0x80 0xBF (get_or tail 2 0)) second.0
                (rw (same 2 (omega (arith, second.1))) (is.third (omega (arith, short, second.1))))
            | inl third ↦
                omega (arith, short, is.most, some_is 3 e (not_none (ltb (length tail) 4) (Some 3) e third.1))
          ]
    ]

-- what `text_fault` computes
abbrev fault_of : ℕ → List ℕ → Bool → Bool → Option ℕ → ℕ
fault_of valid bytes none short behind = cond none valid (cond short valid (fault_behind valid (length bytes) behind))

fault_is : (size : ℕ) (bytes : List ℕ) → utf8_valid_len bytes < length bytes
    → text_fault size bytes
    ≡ fault_of (utf8_valid_len bytes) bytes (eqb (character_len (get_or bytes (utf8_valid_len bytes) 0)) 0) (ltb (size - utf8_valid_len bytes) (character_len (get_or bytes (utf8_valid_len bytes) 0)))
    (utf8_error_len (drop (utf8_valid_len bytes) bytes))
fault_is size bytes wrong = by_option (utf8_error_len (drop (utf8_valid_len bytes) bytes)) refl
  where
    by_option : (o : Option ℕ) → utf8_error_len (drop (utf8_valid_len bytes) bytes) ≡ o
        → text_fault size bytes
        ≡ fault_of (utf8_valid_len bytes) bytes (eqb (character_len (get_or bytes (utf8_valid_len bytes) 0)) 0) (ltb (size - utf8_valid_len bytes) (character_len (get_or bytes (utf8_valid_len bytes) 0)))
        (utf8_error_len (drop (utf8_valid_len bytes) bytes))
    by_option None is = rw (lt-leb (length bytes) (utf8_valid_len bytes) wrong, is) refl
    by_option (Some e) is = rw (lt-leb (length bytes) (utf8_valid_len bytes) wrong, is) refl

fault_from : (valid : ℕ) (bytes : List ℕ) (none short : Bool) (behind : Option ℕ) → valid ≤ length bytes → valid ≤ fault_of valid bytes none short behind
fault_from valid bytes true short behind within = omega arith
fault_from valid bytes false true behind within = omega arith
fault_from valid bytes false false None within = within
fault_from valid bytes false false (Some e) within = omega arith

-- no text of this size begins with the bytes up to and with the one that is told
dead_end : (size : ℕ) (bytes text : List ℕ) → length bytes ≤ size → utf8_valid_len bytes < length bytes → IsUtf8 text → length text ≡ size → text_fault size bytes < length bytes
    → take (text_fault size bytes + 1) text ≡ take (text_fault size bytes + 1) bytes → ⊥
dead_end size bytes text room wrong utf8 sized inside same =
    let v : ℕ = utf8_valid_len bytes in
    let fault : ℕ = text_fault size bytes in
    let len : ℕ = character_len (get_or bytes v 0) in
    let tail : List ℕ = drop v bytes in
    let computed = fault_is size bytes wrong in
    let from : v ≤ fault = rw computed (fault_from v bytes (eqb len 0) (ltb (size - v) len) (utf8_error_len tail) (omega (arith, wrong))) in
    let next = next_character size bytes text (fault + 1) (record { room = room; wrong = wrong; utf8 = utf8; sized = sized; within = omega (arith, inside); behind = omega (arith, from); same = same }) in
    let zero_more : v ≡ v + 0 = omega arith in
    let first : get_or bytes v 0 ≡ get_or next.shape 0 0 = ap (λ (k : ℕ). get_or bytes k 0) zero_more ∙ sym (get_or-drop v bytes 0 0) ∙ next.stands 0 (omega (arith, from)) in
    let len_is : len ≡ length next.shape = ap character_len first ∙ next.is.size in
    let fault_further : fault ≡ fault_behind v (length bytes) (utf8_error_len tail) =
    computed ∙ rw (ne_eqb len 0 (λ h. omega (arith, h, len_is, next.is.some)), le-ltb (size - v) len (omega (arith, len_is, next.fits))) refl in
    by_option next from fault_further (utf8_error_len tail) refl
  where
    by_option : NextCharacter size bytes text (text_fault size bytes + 1) → utf8_valid_len bytes ≤ text_fault size bytes
        → text_fault size bytes ≡ fault_behind (utf8_valid_len bytes) (length bytes) (utf8_error_len (drop (utf8_valid_len bytes) bytes)) → (o : Option ℕ)
        → utf8_error_len (drop (utf8_valid_len bytes) bytes) ≡ o → ⊥
    by_option next from e None is =
        let at_end : text_fault size bytes ≡ length bytes = e ∙ ap (fault_behind (utf8_valid_len bytes) (length bytes)) is in
        omega (arith, inside, at_end)
    by_option next from e (Some k) is =
        let at_k : text_fault size bytes ≡ utf8_valid_len bytes + k = e ∙ ap (fault_behind (utf8_valid_len bytes) (length bytes)) is in
        let tail_len = length-drop (utf8_valid_len bytes) bytes in
        no_error (drop (utf8_valid_len bytes) bytes) next.shape k next.is (omega (arith, at_k, next.longer)) (λ i within. next.stands i (omega (arith, at_k, within)))
        (omega (arith, tail_len, wrong)) is

-- ---- a text behind its size

abbrev pub IsByte : List ℕ → Type 0
IsByte bytes = length bytes ≡ 1

by_test : {Y : Type 0} (b : Bool) (y : Y) (left : ℕ) → cond b (Err 0) (Ok y) ≡ Err left → left ≡ 0
by_test true y left e = cc
by_test false y left e = absurd cc

pub number_ends : (w : Width) (bytes : List ℕ) (left : ℕ) → number_at w bytes ≡ Err left → left ≡ 0
unfolding number_at
number_ends w bytes left e = by_test (ltb (length bytes) (byte_len w)) (from_be_bytes w (take (byte_len w) bytes), drop (byte_len w) bytes) left e

test_err : {A : Type 0} (b : Bool) (left l : ℕ) (x : A) → cond b (Ok x) (Err l) ≡ Err left → (b ≡ false) × (l ≡ left)
test_err true left l x e = absurd cc
test_err false left l x e = (refl, cc)

abbrev tested : ℕ → List ℕ → Reading (List ℕ)
tested n rest = cond (eqb (utf8_valid_len (take n rest)) n) (Ok (take n rest, drop n rest)) (Err (length rest - text_fault n (take n rest)))

text_behind : (bytes rest : List ℕ) (n : ℕ) → number_at w32 bytes ≡ Ok (n, rest) → text_at bytes ≡ tested n rest
unfolding text_at
text_behind bytes rest n number = rw number refl

no_size : (bytes : List ℕ) (l : ℕ) → number_at w32 bytes ≡ Err l → text_at bytes ≡ Err l
unfolding text_at
no_size bytes l number = rw number refl

-- where the bytes that are there are a text, they end too early
all_there : (size : ℕ) (bytes : List ℕ) → length bytes ≤ utf8_valid_len bytes → text_fault size bytes ≡ length bytes
all_there size bytes whole = rw (le-leb (length bytes) (utf8_valid_len bytes) whole) refl

-- bytes of a text that is refused, and what follows its first ones otherwise
text_stops : (n : ℕ) (rest more : List ℕ) (x : List ℕ × List ℕ) → utf8_valid_len (take n rest) ≢ n → text_fault n (take n rest) < length rest
    → tested n (take (text_fault n (take n rest) + 1) rest ++ more) ≡ Ok x → ⊥
text_stops n rest more x wrong inside reads =
    let front : List ℕ = take n rest in
    let p : ℕ = text_fault n front in
    let all : List ℕ = take (p + 1) rest ++ more in
    let text : List ℕ = take n all in
    let read = test_ok (eqb (utf8_valid_len text) n) (length all - text_fault n text) (text, drop n all) x reads in
    let valid : utf8_valid_len text ≡ n = eqb-true (utf8_valid_len text) n read.0 in
    let sized : length text ≡ n = omega (arith, valid, utf8_valid_len_le text, length-take n all) in
    let utf8 : IsUtf8 text = valid_whole text (valid ∙ sym sized) in
    let size : length (take (p + 1) rest) ≡ p + 1 = omega (arith, length-take (p + 1) rest, inside) in
    elim (cases_lt p (length front)) [
      | inl within ↦
          let short : utf8_valid_len front < length front = elim (cases_lt (utf8_valid_len front) (length front)) [
            | inl h ↦ h
            | inr whole ↦ absurd (omega (arith, within, all_there n front whole))
          ] in
          let room : length front ≤ n = omega (arith, length-take n rest) in
          let same : take (p + 1) text ≡ take (p + 1) front =
          take-take (p + 1) n all (omega (arith, within, room)) ∙ take_at (take (p + 1) rest) more (p + 1) size ∙ sym (take-take (p + 1) n rest (omega (arith, within, room))) in
          dead_end n front text room short utf8 sized within same
      | inr past ↦
          let few : n ≤ p = omega (arith, past, inside, length-take n rest) in
          let front_is : text ≡ front = take-append-le n (take (p + 1) rest) more (omega (arith, size, few)) ∙ take-take n (p + 1) rest (omega (arith, few)) in
          wrong (ap utf8_valid_len (sym front_is) ∙ valid)
    ]

pub text_blames : (bytes : List ℕ) (left : ℕ) → IsBytes bytes → text_at bytes ≡ Err left → 0 < left → Blame IsByte text_at bytes left
text_blames bytes left fits e some = by_number (number_at w32 bytes) refl
  where
    by_number : (s : Reading ℕ) → number_at w32 bytes ≡ s → Blame IsByte text_at bytes left
    by_number (Err l) number = absurd (omega (arith, some, number_ends w32 bytes l number, err_is {A = List ℕ} l left (sym (no_size bytes l number) ∙ e)))
    by_number (Ok x) number =
        let n : ℕ = x.0 in
        let rest : List ℕ = x.1 in
        let t = number_takes w32 (2 ^ 32) wide32 bytes n rest fits number in
        let refused = test_err (eqb (utf8_valid_len (take n rest)) n) left (length rest - text_fault n (take n rest)) (take n rest, drop n rest) (sym (text_behind bytes rest n number) ∙ e) in
        let p : ℕ = text_fault n (take n rest) in
        let inside : p < length rest = omega (arith, refused.1, some) in
        let unit : List ℕ = take 1 (drop p rest) in
        let after : List ℕ = drop 1 (drop p rest) in
        let split : rest ≡ take p rest ++ (unit ++ after) = sym (take-append-drop p rest) ∙ ap (λ (l : List ℕ). take p rest ++ l) (sym (take-append-drop 1 (drop p rest))) in
        record {
          before = to_be_bytes w32 n ++ take p rest;
          unit = unit;
          after = after;
          parts = moved bytes (to_be_bytes w32 n) rest (take p rest) (unit ++ after) t.0.parts split;
          left_is = omega (arith, refused.1, ap (λ (l : List ℕ). length l) (take-append-drop 1 (drop p rest)), length-drop p rest);
          whole = omega (arith, length-take 1 (drop p rest), length-drop p rest, inside);
          stops = λ more y h.
              let all : List ℕ = take (p + 1) rest ++ more in
              let joined : (to_be_bytes w32 n ++ take p rest) ++ (unit ++ more) ≡ to_be_bytes w32 n ++ all =
              append_assoc (to_be_bytes w32 n) (take p rest) (unit ++ more)
              ∙ ap (λ (l : List ℕ). to_be_bytes w32 n ++ l) (sym (append_assoc (take p rest) unit more) ∙ ap (λ (l : List ℕ). l ++ more) (sym (take_both p 1 rest))) in
              text_stops n rest more y (λ h. both_ways (eqb (utf8_valid_len (take n rest)) n) refused.0 (eq-eqb (utf8_valid_len (take n rest)) n h)) inside
              (sym (text_behind (to_be_bytes w32 n ++ all) all n (number_again w32 (2 ^ 32) wide32 n all t.1)) ∙ ap text_at (sym joined) ∙ h);
        }
