-- What is read at a place is a text of the part.
use Rattle.std.proofs.Common.{◌≡◌, ◌≢◌, ◌∙◌, sym, ap, refl, subst, ℕ, ◌+◌, ◌-◌, ◌*◌, ◌^◌, ◌<◌, ◌≤◌, List, [], ◌∷◌, ◌++◌, length, take, drop, get_or, Bool, true, false, cond, nat_lt, nat_le, ◌==◌, ◌&&◌, Option, Some, None, Ok, Err, ℤ, pos, neg_ℤ, ◌⊎◌, inl, inr, arith, append_assoc}
use Rattle.std.proofs.Math.Seq.{drop-drop, get_or-take, take-take}
use Rattle.std.proofs.Math.ListN.{length-append, length-take}
use Rattle.std.proofs.lemmas.List.{take-append-drop, drop_more}
use Rattle.std.proofs.lemmas.List.Sums.{prefix_len-le-length, prefix_len_is, prefix_len_passes, prefix_len_stops, prefix_len-drop_no, prefix_len-drop_all}
use Rattle.std.proofs.lemmas.List.Folds.{length-prefix_len}
use Rattle.std.proofs.lemmas.Bool.{ltb-true, ltb-false, leb-true, eqb-true, eqb-false, cases_lt, false≢true}
use Rattle.std.specs.Char.{is_ascii_digit}
use Rattle.std.specs.List.{prefix_len}
use Rattle.std.specs.Str.{str_eq_ignore_ascii_case}
use Rattle.case_table.specs.Rows.{Named, first_code}
use Rattle.time_layout.specs.declared.fault.TimeFault.TheVariants.{Mismatch}
use Rattle.time_layout.specs.declared.parts.Colon.{Colon}
use Rattle.time_layout.specs.declared.parts.Colon.TheVariants.{Optional, Required, Missing}
use Rattle.time_layout.specs.Atoms.{Reading, and_then, value_of, stands, may_lie, number, fraction, code_at, named_or, name_at, reach, unpadded, padded_day, minutes_behind, offset, signed, zone}
use Rattle.time_layout.specs.Texts.{AreDigits, BeginsNoDigit, IsNumber, IsFraction, IsName, IsUnpadded, IsPaddedDay, AreMinutes, IsOffset, IsSigned, IsZone}

-- a text between two places, of which something holds
pub record Between (text : List ℕ) (at next : ℕ) (Holds : List ℕ → Type 0) : Type 0 where
  pub own : List ℕ
  pub splits : drop at text ≡ own ++ drop next text
  pub size : next ≡ at + length own
  pub holds : Holds own

value_or : {A : Type 0} → A → Reading A → A
value_or a (Ok read) = read.0
value_or a (Err fault) = a

next_or : {A : Type 0} → ℕ → Reading A → ℕ
next_or n (Ok read) = read.1
next_or n (Err fault) = n

-- two readings that are the same have the same value and end at the same place
pub same_value : {A : Type 0} (a b : A) (m n : ℕ) → ◌≡◌ {A = Reading A} (Ok (a, m)) (Ok (b, n)) → a ≡ b
unfolding value_or
same_value {A} a b m n is = let f : Reading A → A = value_or a in ap f is

pub same_next : {A : Type 0} (a b : A) (m n : ℕ) → ◌≡◌ {A = Reading A} (Ok (a, m)) (Ok (b, n)) → m ≡ n
unfolding next_or
same_next {A} a b m n is = let f : Reading A → ℕ = next_or m in ap f is

pub both : (a b : Bool) → a && b ≡ true → (a ≡ true) × (b ≡ true)
both true b is = (refl, is)
both false b is = absurd (false≢true is)

-- a byte that stands there
pub standing : (byte at : ℕ) (text : List ℕ) → stands byte text at ≡ true → drop at text ≡ byte ∷ drop (at + 1) text
standing byte at text is =
    let tests = both (nat_lt at (length text)) (get_or text at 0 == byte) is in
    drop_more text at 0 (ltb-true at (length text) tests.0) ∙ ap (λ first. first ∷ drop (at + 1) text) (eqb-true (get_or text at 0) byte tests.1)

-- so many bytes from a place
pub cut : (size at : ℕ) (text : List ℕ) → drop at text ≡ take size (drop at text) ++ drop (at + size) text
cut size at text = sym (take-append-drop size (drop at text)) ∙ ap (λ rest. take size (drop at text) ++ rest) (drop-drop size at text)

number_cases : (may short : Bool) (digits at value v next fault : ℕ)
    → cond {A = Reading ℕ} may (cond {A = Reading ℕ} short (Err (Mismatch fault)) (Ok (value, at + digits))) (Err (Mismatch at)) ≡ Ok (v, next)
    → (may ≡ true) × (short ≡ false) × (value ≡ v) × (at + digits ≡ next)
number_cases false short digits at value v next fault is = cc
number_cases true true digits at value v next fault is = cc
number_cases true false digits at value v next fault is = (refl, refl, same_value value v (at + digits) next is, same_next value v (at + digits) next is)

-- where no digit is missing the value lies in the bounds itself
lies : (more low high value : ℕ) → more ≡ 0 → may_lie more low high value ≡ true → (low ≤ value) × (value ≤ high)
lies more low high value none may =
    let here : may_lie 0 low high value ≡ true = subst (λ n. may_lie n low high value ≡ true) none may in
    let tests = both (nat_lt low ((value + 1) * 10 ^ 0)) (nat_le (value * 10 ^ 0) high) here in
    (omega (arith, ltb-true low ((value + 1) * 10 ^ 0) tests.0), omega (arith, leb-true (value * 10 ^ 0) high tests.1))

pub number_sound : (digits low high : ℕ) (text : List ℕ) (at value next : ℕ) → number digits low high text at ≡ Ok (value, next)
    → Between text at next (λ own. IsNumber digits low high own value)
unfolding number
number_sound digits low high text at value next is =
    let own : List ℕ = take digits (drop at text) in
    let count : ℕ = prefix_len is_ascii_digit own in
    let found : ℕ = value_of (take count (drop at text)) in
    let tests = number_cases (may_lie (digits - count) low high found) (nat_lt count digits) digits at found value next (at + count) is in
    let enough : digits ≤ count = ltb-false count digits tests.1 in
    let some : count ≤ length own = prefix_len-le-length is_ascii_digit own in
    let few : length own ≤ digits = omega (arith, length-take digits (drop at text)) in
    let size : length own ≡ digits = omega arith in
    let range = lies (digits - count) low high found (omega arith) tests.0 in
    let all_of : count ≡ digits = omega arith in
    record {
      own = own;
      splits = cut digits at text ∙ ap (λ place. own ++ drop place text) tests.3;
      size = omega (arith, tests.3);
      holds = record {
        all = omega arith;
        size = size;
        value_is = ap (λ n. value_of (take n (drop at text))) (sym all_of) ∙ tests.2;
        least = omega (arith, range.0, tests.2);
        greatest = omega (arith, range.1, tests.2);
      };
    }

-- the digits at the front are digits
pub front_all : (bytes : List ℕ) → AreDigits (take (prefix_len is_ascii_digit bytes) bytes)
front_all bytes =
    let count : ℕ = prefix_len is_ascii_digit bytes in
    prefix_len_is is_ascii_digit (take count bytes) (length (take count bytes)) 0 (omega arith)
    (λ i below. ap is_ascii_digit (get_or-take count bytes i 0 (omega (arith, length-prefix_len is_ascii_digit bytes))) ∙ prefix_len_passes is_ascii_digit bytes i 0 (omega (arith, length-prefix_len is_ascii_digit bytes)))
    (λ past. absurd (omega arith))

-- and so are those of at most so many bytes, which are as many as stand there
pub front_digits : (most : ℕ) (bytes : List ℕ)
    → AreDigits (take (prefix_len is_ascii_digit (take most bytes)) bytes)
    × (length (take (prefix_len is_ascii_digit (take most bytes)) bytes) ≡ prefix_len is_ascii_digit (take most bytes))
    × (prefix_len is_ascii_digit (take most bytes) ≤ most)
front_digits most bytes =
    let count : ℕ = prefix_len is_ascii_digit (take most bytes) in
    let below : count ≤ length (take most bytes) = prefix_len-le-length is_ascii_digit (take most bytes) in
    let few : count ≤ most = omega (arith, length-take most bytes) in
    (rw (← take-take count most bytes few) (front_all (take most bytes)), omega (arith, length-take count bytes, length-take most bytes), few)

ends_inside : (bytes : List ℕ) (most : ℕ) → prefix_len is_ascii_digit (take most bytes) < most
    → (prefix_len is_ascii_digit (take most bytes) < length bytes) ⊎ (length bytes ≤ prefix_len is_ascii_digit (take most bytes))
    → BeginsNoDigit (drop (prefix_len is_ascii_digit (take most bytes)) bytes)
ends_inside bytes most few (inl inside) =
    let count : ℕ = prefix_len is_ascii_digit (take most bytes) in
    let stops = prefix_len_stops is_ascii_digit (take most bytes) 0 (omega (arith, length-take most bytes)) in
    prefix_len-drop_no is_ascii_digit bytes count 0 inside (sym (ap is_ascii_digit (get_or-take most bytes count 0 few)) ∙ stops)
ends_inside bytes most few (inr over) = prefix_len-drop_all is_ascii_digit bytes (prefix_len is_ascii_digit (take most bytes)) over

ends_cases : (bytes : List ℕ) (most : ℕ) → (prefix_len is_ascii_digit (take most bytes) < most) ⊎ (most ≤ prefix_len is_ascii_digit (take most bytes))
    → (prefix_len is_ascii_digit (take most bytes) ≡ most) ⊎ BeginsNoDigit (drop (prefix_len is_ascii_digit (take most bytes)) bytes)
ends_cases bytes most (inl few) = inr (ends_inside bytes most few (cases_lt (prefix_len is_ascii_digit (take most bytes)) (length bytes)))
ends_cases bytes most (inr many) = inl (omega (arith, prefix_len-le-length is_ascii_digit (take most bytes), length-take most bytes))

-- behind as many digits as may stand there no further one stands that could be of them
pub count_ends : (bytes : List ℕ) (most : ℕ)
    → (prefix_len is_ascii_digit (take most bytes) ≡ most) ⊎ BeginsNoDigit (drop (prefix_len is_ascii_digit (take most bytes)) bytes)
count_ends bytes most = ends_cases bytes most (cases_lt (prefix_len is_ascii_digit (take most bytes)) most)

fraction_cases : (none : Bool) (at nanos count v next : ℕ)
    → cond {A = Reading ℕ} none (Err (Mismatch at)) (Ok (nanos, at + count)) ≡ Ok (v, next) → (none ≡ false) × (nanos ≡ v) × (at + count ≡ next)
fraction_cases true at nanos count v next is = cc
fraction_cases false at nanos count v next is = (refl, same_value nanos v (at + count) next is, same_next nanos v (at + count) next is)

ends_there : (count most next : ℕ) (bytes rest : List ℕ) → drop count bytes ≡ rest → (count ≡ most) ⊎ BeginsNoDigit (drop count bytes)
    → (count ≡ most) ⊎ BeginsNoDigit rest
ends_there count most next bytes rest is (inl whole) = inl whole
ends_there count most next bytes rest is (inr none) = inr (ap (prefix_len is_ascii_digit) (sym is) ∙ none)

pub fraction_sound : (most : ℕ) (text : List ℕ) (at value next : ℕ) → fraction most text at ≡ Ok (value, next)
    → Between text at next (λ own. IsFraction most own (drop next text) value)
unfolding fraction
fraction_sound most text at value next is =
    let bytes : List ℕ = drop at text in
    let count : ℕ = prefix_len is_ascii_digit (take most bytes) in
    let own : List ℕ = take count bytes in
    let tests = fraction_cases (count == 0) at (value_of own * 10 ^ (9 - count)) count value next is in
    let front = front_digits most bytes in
    let digits : AreDigits own = front.0 in
    let size : length own ≡ count = front.1 in
    let few : count ≤ most = front.2 in
    let some : 1 ≤ count = omega (arith, eqb-false count 0 tests.0) in
    let ends = ends_there count most next bytes (drop next text) (drop-drop count at text ∙ ap (λ place. drop place text) tests.2) (count_ends bytes most) in
    record {
      own = own;
      splits = cut count at text ∙ ap (λ place. own ++ drop place text) tests.2;
      size = omega (arith, tests.2);
      holds = record {
        all = digits;
        some = omega arith;
        few = omega arith;
        ends = rw size ends;
        value_is = rw size tests.1;
      };
    }

name_cases : (found : Option ℕ) (behind fault code next : ℕ) → named_or found behind fault ≡ Ok (code, next) → (found ≡ Some code) × (behind ≡ next)
name_cases None behind fault code next is = cc
name_cases (Some other) behind fault code next is = (ap Some (same_value other code behind next is), same_next other code behind next is)

code_cases : (short : Bool) (found : Option ℕ) (code : ℕ) → cond short None found ≡ Some code → (short ≡ false) × (found ≡ Some code)
code_cases true found code is = cc
code_cases false found code is = (refl, is)

pub name_sound : (table : List Named) (size : ℕ) (text : List ℕ) (at code next : ℕ) → name_at table size text at ≡ Ok (code, next)
    → Between text at next (λ own. IsName table size own code)
unfolding name_at
name_sound table size text at code next is =
    let own : List ℕ = take size (drop at text) in
    let found = name_cases (code_at table size (drop at text)) (at + size) (at + reach table (drop at text)) code next is in
    let named = code_cases (nat_lt (length (drop at text)) size) (first_code (str_eq_ignore_ascii_case own) table) code found.0 in
    let size_is : length own ≡ size = omega (arith, length-take size (drop at text), ltb-false (length (drop at text)) size named.0) in
    record {
      own = own;
      splits = cut size at text ∙ ap (λ place. own ++ drop place text) found.1;
      size = omega (arith, found.1);
      holds = record { size_is = size_is; named = named.1 };
    }

-- a text that begins with one byte more
pub wider : (text : List ℕ) (at next byte : ℕ) (Holds Wider : List ℕ → Type 0) → drop at text ≡ byte ∷ drop (at + 1) text
    → ((own : List ℕ) → Holds own → Wider (byte ∷ own)) → Between text (at + 1) next Holds → Between text at next Wider
wider text at next byte Holds Wider begins widen b = record {
  own = byte ∷ b.own;
  splits = begins ∙ ap (λ rest. byte ∷ rest) b.splits;
  size = omega (arith, b.size);
  holds = widen b.own b.holds;
}

pub weaker : (text : List ℕ) (at next : ℕ) (Holds Weaker : List ℕ → Type 0) → ((own : List ℕ) → drop at text ≡ own ++ drop next text → Holds own → Weaker own)
    → Between text at next Holds → Between text at next Weaker
weaker text at next Holds Weaker weaken b = record { own = b.own; splits = b.splits; size = b.size; holds = weaken b.own b.splits b.holds }

second_fails : (first second : Bool) (k : ℕ) → cond {A = ℕ} first 1 0 ≡ 1 → cond {A = ℕ} first (1 + cond {A = ℕ} second 1 0) 0 ≢ 2 → cond {A = ℕ} second (1 + k) 0 ≡ 0
second_fails true true k one two = absurd (two refl)
second_fails true false k one two = refl
second_fails false second k one two = absurd (omega arith)

one_digit : (high : ℕ) (own rest : List ℕ) (day : ℕ) → IsNumber 1 1 high own day → prefix_len is_ascii_digit (take 2 (own ++ rest)) ≢ 2 → BeginsNoDigit rest
one_digit high [] rest day n two = absurd (omega (arith, n.size))
one_digit high (first ∷ []) [] day n two = refl
one_digit high (first ∷ []) (second ∷ rest) day n two =
    second_fails (is_ascii_digit first) (is_ascii_digit second) (prefix_len is_ascii_digit rest) n.all two
one_digit high (first ∷ second ∷ own) rest day n two = absurd (omega (arith, n.size))

two_cases : (two : Bool) (high : ℕ) (text : List ℕ) (at value next : ℕ) → (prefix_len is_ascii_digit (take 2 (drop at text)) == 2) ≡ two
    → number (cond two 2 1) 1 high text at ≡ Ok (value, next) → Between text at next (λ own. IsUnpadded high own (drop next text) value)
two_cases true high text at value next count is =
    weaker text at next _ (λ own. IsUnpadded high own (drop next text) value) (λ own splits n. inl n) (number_sound 2 1 high text at value next is)
two_cases false high text at value next count is =
    weaker text at next _ (λ own. IsUnpadded high own (drop next text) value)
    (λ own splits n. inr (
      n,
      one_digit high own (drop next text) value n
          (λ two. eqb-false (prefix_len is_ascii_digit (take 2 (drop at text))) 2 count (ap (λ bytes. prefix_len is_ascii_digit (take 2 bytes)) splits ∙ two)),
    ))
    (number_sound 1 1 high text at value next is)

pub unpadded_sound : (high : ℕ) (text : List ℕ) (at value next : ℕ) → unpadded high text at ≡ Ok (value, next)
    → Between text at next (λ own. IsUnpadded high own (drop next text) value)
unpadded_sound high text at value next is = two_cases (prefix_len is_ascii_digit (take 2 (drop at text)) == 2) high text at value next refl is

spaced_cases : (spaced : Bool) (text : List ℕ) (at day next : ℕ) → stands 32 text at ≡ spaced
    → cond spaced (number 1 1 31 text (at + 1)) (unpadded 31 text at) ≡ Ok (day, next)
    → Between text at next (λ own. IsPaddedDay own (drop next text) day)
spaced_cases true text at day next stands_there is =
    wider text at next 32 _ (λ own. IsPaddedDay own (drop next text) day) (standing 32 at text stands_there) (λ own n. inl (own, refl, n))
    (number_sound 1 1 31 text (at + 1) day next is)
spaced_cases false text at day next stands_there is =
    weaker text at next _ (λ own. IsPaddedDay own (drop next text) day) (λ own splits u. inr u) (unpadded_sound 31 text at day next is)

pub padded_day_sound : (text : List ℕ) (at day next : ℕ) → padded_day text at ≡ Ok (day, next)
    → Between text at next (λ own. IsPaddedDay own (drop next text) day)
padded_day_sound text at day next is = spaced_cases (stands 32 text at) text at day next refl is

-- what was read before, where something was read of it
pub record Opened {A B : Type 0} (reading : Reading A) (rest : A → ℕ → Reading B) (all : Reading B) : Type 0 where
  pub value : A
  pub next : ℕ
  pub read : reading ≡ Ok (value, next)
  pub then : rest value next ≡ all

pub opened : {A B : Type 0} (reading : Reading A) (rest : A → ℕ → Reading B) (value : B) (next : ℕ) → and_then reading rest ≡ Ok (value, next)
    → Opened reading rest (Ok (value, next))
opened (Ok read) rest value next is = record { value = read.0; next = read.1; read = refl; then = is }
opened (Err fault) rest value next is = cc

minutes_cases : (colon : Colon) (behind_colon : Bool) (text : List ℕ) (at minutes next : ℕ) → stands 58 text at ≡ behind_colon
    → minutes_behind colon text at ≡ Ok (minutes, next) → Between text at next (λ own. AreMinutes colon own minutes)
minutes_cases Optional true text at minutes next begins is =
    wider text at next 58 _ (λ own. AreMinutes Optional own minutes) (standing 58 at text begins) (λ own n. inl (own, refl, n))
    (number_sound 2 0 59 text (at + 1) minutes next (rw begins at is))
minutes_cases Optional false text at minutes next begins is =
    weaker text at next _ (λ own. AreMinutes Optional own minutes) (λ own splits n. inr n) (number_sound 2 0 59 text at minutes next (rw begins at is))
minutes_cases Required true text at minutes next begins is =
    wider text at next 58 _ (λ own. AreMinutes Required own minutes) (standing 58 at text begins) (λ own n. (own, refl, n))
    (number_sound 2 0 59 text (at + 1) minutes next (rw begins at is))
minutes_cases Required false text at minutes next begins is = let other = rw begins at is in cc
minutes_cases Missing behind_colon text at minutes next begins is = number_sound 2 0 59 text at minutes next is

pub offset_sound : (colon : Colon) (text : List ℕ) (at seconds next : ℕ) → offset colon text at ≡ Ok (seconds, next)
    → Between text at next (λ own. IsOffset colon own seconds)
offset_sound colon text at seconds next is =
    let hours = opened (number 2 0 23 text at) (λ hours behind. and_then (minutes_behind colon text behind) (λ minutes end. Ok (hours * 3600 + minutes * 60, end))) seconds next is in
    let minutes = opened (minutes_behind colon text hours.next) (λ minutes end. Ok (hours.value * 3600 + minutes * 60, end)) seconds next hours.then in
    let first = number_sound 2 0 23 text at hours.value hours.next hours.read in
    let second = minutes_cases colon (stands 58 text hours.next) text hours.next minutes.value minutes.next refl minutes.read in
    let ends : minutes.next ≡ next = same_next (hours.value * 3600 + minutes.value * 60) seconds minutes.next next minutes.then in
    record {
      own = first.own ++ second.own;
      splits = first.splits ∙ ap (λ rest. first.own ++ rest) second.splits ∙ sym (append_assoc first.own second.own (drop minutes.next text))
          ∙ ap (λ place. first.own ++ second.own ++ drop place text) ends;
      size = omega (arith, length-append first.own second.own, first.size, second.size, ends);
      holds = record {
        hours_text = first.own;
        minutes_text = second.own;
        hours = hours.value;
        minutes = minutes.value;
        is = refl;
        are_hours = first.holds;
        are_minutes = second.holds;
        seconds_are = sym (same_value (hours.value * 3600 + minutes.value * 60) seconds minutes.next next minutes.then);
      };
    }

signed_cases : (east west : Bool) (colon : Colon) (text : List ℕ) (at next : ℕ) (value : ℤ)
    → stands 43 text at ≡ east → stands 45 text at ≡ west
    → signed colon text at ≡ Ok (value, next) → Between text at next (λ own. IsSigned colon own value)
unfolding signed
signed_cases true west colon text at next value is_east is_west is =
    let read = rw is_east at is in
    let o = opened (offset colon text (at + 1)) (λ seconds end. Ok (pos seconds, end)) value next read in
    let behind = offset_sound colon text (at + 1) o.value o.next o.read in
    let ends : o.next ≡ next = same_next (pos o.value) value o.next next o.then in
    wider text at next 43 (λ own. IsOffset colon own o.value) (λ own. IsSigned colon own value) (standing 43 at text is_east)
    (λ own holds. inl (own, o.value, refl, sym (same_value (pos o.value) value o.next next o.then), holds))
    (rw ends at behind)
signed_cases false true colon text at next value is_east is_west is =
    let read = rw (is_east, is_west) at is in
    let o = opened (offset colon text (at + 1)) (λ seconds end. Ok (neg_ℤ (pos seconds), end)) value next read in
    let behind = offset_sound colon text (at + 1) o.value o.next o.read in
    let ends : o.next ≡ next = same_next (neg_ℤ (pos o.value)) value o.next next o.then in
    wider text at next 45 (λ own. IsOffset colon own o.value) (λ own. IsSigned colon own value) (standing 45 at text is_west)
    (λ own holds. inr (own, o.value, refl, sym (same_value (neg_ℤ (pos o.value)) value o.next next o.then), holds))
    (rw ends at behind)
signed_cases false false colon text at next value is_east is_west is = let other = rw (is_east, is_west) at is in cc

pub signed_sound : (colon : Colon) (text : List ℕ) (at : ℕ) (value : ℤ) (next : ℕ) → signed colon text at ≡ Ok (value, next)
    → Between text at next (λ own. IsSigned colon own value)
signed_sound colon text at value next is = signed_cases (stands 43 text at) (stands 45 text at) colon text at next value refl refl is

zone_cases : (utc : Bool) (colon : Colon) (text : List ℕ) (at next : ℕ) (value : ℤ) → stands 90 text at ≡ utc
    → zone colon text at ≡ Ok (value, next) → Between text at next (λ own. IsZone colon own value)
unfolding zone
zone_cases true colon text at next value is_utc is =
    let read = rw is_utc at is in
    record {
      own = 90 ∷ [];
      splits = standing 90 at text is_utc ∙ ap (λ place. 90 ∷ drop place text) (same_next (pos 0) value (at + 1) next read);
      size = sym (same_next (pos 0) value (at + 1) next read);
      holds = inl (refl, sym (same_value (pos 0) value (at + 1) next read));
    }
zone_cases false colon text at next value is_utc is =
    weaker text at next _ (λ own. IsZone colon own value) (λ own splits sign. inr sign) (signed_sound colon text at value next (rw is_utc at is))

pub zone_sound : (colon : Colon) (text : List ℕ) (at : ℕ) (value : ℤ) (next : ℕ) → zone colon text at ≡ Ok (value, next)
    → Between text at next (λ own. IsZone colon own value)
zone_sound colon text at value next is =
    zone_cases (stands 90 text at) colon text at next value refl is
