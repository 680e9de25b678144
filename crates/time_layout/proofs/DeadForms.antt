-- Where a day, a zone or another part can't be read, no text that begins alike has one.
use Rattle.std.proofs.Common.{◌≡◌, ◌≢◌, ◌∙◌, sym, ap, refl, subst, ℕ, ◌+◌, ◌-◌, ◌*◌, ◌<◌, ◌≤◌, List, [], ◌∷◌, ◌++◌, length, take, drop, get_or, Bool, true, false, cond, ◌==◌, Ok, Err, ℤ, pos, neg_ℤ, ◌⊎◌, inl, inr, arith, append_assoc}
use Rattle.std.specs.Prelude.{⊤}
use Rattle.std.proofs.Math.Seq.{take-append-le, take-append_seam, drop-append_seam, get_or-take}
use Rattle.std.proofs.Math.ListN.{length-append}
use Rattle.std.proofs.lemmas.List.{get_or_append_left, take-append-drop}
use Rattle.std.proofs.lemmas.List.Sums.{prefix_len_passes}
use Rattle.std.proofs.lemmas.Bool.{eqb-true, eqb-false, cases_lt, false≢true}
use Rattle.std.specs.Char.{is_ascii_digit}
use Rattle.std.specs.List.{prefix_len}
use Rattle.time_layout.specs.declared.fault.TimeFault.{TimeFault}
use Rattle.time_layout.specs.declared.fault.TimeFault.TheVariants.{Mismatch}
use Rattle.time_layout.specs.declared.parts.Colon.{Colon}
use Rattle.time_layout.specs.declared.parts.Colon.TheVariants.{Optional, Required, Missing}
use Rattle.time_layout.specs.Atoms.{Reading, and_then, value_of, stands, may_lie, number, unpadded, padded_day, minutes_behind, offset, signed, zone}
use Rattle.time_layout.specs.Texts.{AreDigits, BeginsNoDigit, IsNumber, IsUnpadded, IsPaddedDay, AreMinutes, IsOffset, IsSigned, IsZone}
use Rattle.time_layout.proofs.DeadEnds.{Dead, IsDead, NeverThere, same_place, number_dead, number_faults, IsNumberFault, stops_at, no_digit, range_dead, first_digit, or_never, never_dead, less_dead, other_byte, no_digits, deeper}
use Rattle.time_layout.proofs.Completes.{front_whole, stands_is}
use Rattle.time_layout.proofs.Sounds.{number_sound, standing, front_digits}

-- what was read before a fault
pub record Faulted {A B : Type 0} (reading : Reading A) (rest : A → ℕ → Reading B) (fault : ℕ) : Type 0 where
  pub value : A
  pub next : ℕ
  pub read : reading ≡ Ok (value, next)
  pub then : rest value next ≡ Err (Mismatch fault)

error_or : {B : Type 0} → TimeFault → Reading B → TimeFault
error_or fault (Ok read) = fault
error_or fault (Err other) = other

same_error : {A B : Type 0} (one other : TimeFault) → ◌≡◌ {A = Reading B} (Err one) (Err other) → ◌≡◌ {A = Reading A} (Err one) (Err other)
unfolding error_or
same_error {A = A} {B = B} one other is = let f : Reading B → TimeFault = error_or one in ap Err (ap f is)

pub faulted : {A B : Type 0} (reading : Reading A) (rest : A → ℕ → Reading B) (fault : ℕ) → and_then reading rest ≡ Err (Mismatch fault)
    → (reading ≡ Err (Mismatch fault)) ⊎ Faulted reading rest fault
faulted (Ok read) rest fault is = inr (record { value = read.0; next = read.1; read = refl; then = is })
faulted {A = A} {B = B} (Err other) rest fault is = inl (same_error {A = A} {B = B} other (Mismatch fault) is)

-- minutes, of a colon and a number or of a number alone
minutes_of : (colon : Colon) (own rest : List ℕ) → ((minutes : ℕ) × AreMinutes Optional own minutes)
    → ((behind : List ℕ) × (own ≡ 58 ∷ behind) × ((value : ℕ) × IsNumber 2 0 59 behind value)) ⊎ ((value : ℕ) × IsNumber 2 0 59 own value)
minutes_of colon own rest (minutes, inl behind) = inl (behind.0, behind.1, (minutes, behind.2))
minutes_of colon own rest (minutes, inr number) = inr (minutes, number)

swapped : {A B : Type 0} → A ⊎ B → B ⊎ A
swapped (inl a) = inr a
swapped (inr b) = inl b

digits_never : (byte : ℕ) (digits low high : ℕ) (text : List ℕ) (at : ℕ) → 1 ≤ digits → is_ascii_digit byte ≡ false → stands byte text at ≡ true
    → NeverThere text at (λ own rest. (value : ℕ) × IsNumber digits low high own value)
digits_never byte digits low high text at some none there front x splits begins more own rest is number =
    no_digits byte text at none there front x splits begins more own rest is (number.1.all, omega (arith, number.1.size))

pub behind_never : (byte : ℕ) (Holds : List ℕ → List ℕ → Type 0) (text : List ℕ) (at : ℕ) → stands byte text at ≡ false
    → NeverThere text at (λ own rest. (behind : List ℕ) × (own ≡ byte ∷ behind) × Holds behind rest)
behind_never byte Holds text at other front x splits begins more own rest is holds =
    other_byte byte text at other front x splits begins more own rest is (holds.0, holds.1)

minutes_cases : (colon : Colon) (there : Bool) (text : List ℕ) (at fault : ℕ) → stands 58 text at ≡ there → minutes_behind colon text at ≡ Err (Mismatch fault)
    → IsDead text at fault (λ own rest. (minutes : ℕ) × AreMinutes colon own minutes)
minutes_cases Optional true text at fault there is =
    let number = number_dead 2 0 59 text (at + 1) fault (omega arith) (omega arith) (rw there at is) in
    less_dead text at fault _ (λ own rest. (minutes : ℕ) × AreMinutes Optional own minutes) (minutes_of Optional)
    (or_never text at fault _ (λ own rest. (value : ℕ) × IsNumber 2 0 59 own value)
    (deeper 58 text at fault (λ own rest. (value : ℕ) × IsNumber 2 0 59 own value) number)
    (digits_never 58 2 0 59 text at (omega arith) refl there))
minutes_cases Optional false text at fault there is =
    let number = number_dead 2 0 59 text at fault (omega arith) (omega arith) (rw there at is) in
    less_dead text at fault _ (λ own rest. (minutes : ℕ) × AreMinutes Optional own minutes) (λ own rest minutes. swapped (minutes_of Optional own rest minutes))
    (or_never text at fault (λ own rest. (value : ℕ) × IsNumber 2 0 59 own value) _ number
    (behind_never 58 (λ own rest. (value : ℕ) × IsNumber 2 0 59 own value) text at there))
minutes_cases Required true text at fault there is =
    let number = number_dead 2 0 59 text (at + 1) fault (omega arith) (omega arith) (rw there at is) in
    less_dead text at fault _ (λ own rest. (minutes : ℕ) × AreMinutes Required own minutes) (λ own rest m. (m.1.0, m.1.1, (m.0, m.1.2)))
    (deeper 58 text at fault (λ own rest. (value : ℕ) × IsNumber 2 0 59 own value) number)
minutes_cases Required false text at fault there is =
    subst (λ place. IsDead text at place (λ own rest. (minutes : ℕ) × AreMinutes Required own minutes)) (same_place at fault (rw there at is))
    (never_dead text at (λ own rest. (minutes : ℕ) × AreMinutes Required own minutes)
    (λ front x splits begins more own rest start m. other_byte 58 text at there front x splits begins more own rest start (m.1.0, m.1.1)))
minutes_cases Missing there text at fault begins is = number_dead 2 0 59 text at fault (omega arith) (omega arith) is

-- the first of two that stand one behind the other
first_front : (width : ℕ) (text : List ℕ) (at fault : ℕ) (A B : List ℕ → List ℕ → Type 0)
    → ((own rest : List ℕ) → B own rest → (first : List ℕ) × (second : List ℕ) × (own ≡ first ++ second) × A first (second ++ rest))
    → Dead width text at fault A → Dead width text at fault B
first_front width text at fault A B apart dead front x splits size more own rest is holds =
    let parts = apart own rest holds in
    dead front x splits size more parts.0 (parts.1 ++ rest)
    (is ∙ ap (λ bytes. bytes ++ rest) parts.2 ∙ append_assoc parts.0 parts.1 rest) parts.3

pub first_dead : (text : List ℕ) (at fault : ℕ) (A B : List ℕ → List ℕ → Type 0)
    → ((own rest : List ℕ) → B own rest → (first : List ℕ) × (second : List ℕ) × (own ≡ first ++ second) × A first (second ++ rest))
    → IsDead text at fault A → IsDead text at fault B
first_dead text at fault A B apart (within, inl dead) = (within, inl (first_front 1 text at fault A B apart dead))
first_dead text at fault A B apart (within, inr dead) = (within, inr (dead.0, first_front 2 text at fault A B apart dead.1))

-- the rest of two texts that begin with as many bytes
pub same_rest : (a b c d : List ℕ) → a ++ b ≡ c ++ d → length a ≡ length c → b ≡ d
same_rest a b c d is size = sym (drop-append_seam a b) ∙ ap (drop (length a)) is ∙ ap (λ n. drop n (c ++ d)) size ∙ drop-append_seam c d

-- the front from behind its first bytes on
pub front_behind : (front x own z : List ℕ) → front ++ x ≡ own ++ z → length own ≤ length front
    → (front ≡ own ++ drop (length own) front) × (drop (length own) front ++ x ≡ z)
front_behind front x own z is few =
    let begins : take (length own) front ≡ own =
    sym (take-append-le (length own) front x few) ∙ ap (take (length own)) is ∙ take-append_seam own z in
    let split : front ≡ own ++ drop (length own) front =
    sym (take-append-drop (length own) front) ∙ ap (λ bytes. bytes ++ drop (length own) front) begins in (
      split,
      same_rest own (drop (length own) front ++ x) own z
          (sym (append_assoc own (drop (length own) front) x) ∙ ap (λ bytes. bytes ++ x) (sym split) ∙ is) refl,
    )

-- the second of two, where the first is always as long
second_front : (width : ℕ) (text : List ℕ) (at next fault : ℕ) (own_first : List ℕ) (A B : List ℕ → List ℕ → Type 0)
    → drop at text ≡ own_first ++ drop next text → next ≡ at + length own_first → next ≤ fault
    → ((own rest : List ℕ) → B own rest → (first : List ℕ) × (second : List ℕ) × (own ≡ first ++ second) × (length first ≡ length own_first) × A second rest)
    → Dead width text next fault A → Dead width text at fault B
second_front width text at next fault own_first A B splits size later apart dead front x front_is long more own rest is holds =
    let parts = apart own rest holds in
    let mine = front_behind front x own_first (drop next text) (sym front_is ∙ splits) (omega arith) in
    let other : own_first ++ (drop (length own_first) front ++ more) ≡ parts.0 ++ (parts.1 ++ rest) =
    sym (append_assoc own_first (drop (length own_first) front) more) ∙ ap (λ bytes. bytes ++ more) (sym mine.0) ∙ is
    ∙ ap (λ bytes. bytes ++ rest) parts.2 ∙ append_assoc parts.0 parts.1 rest in
    dead (drop (length own_first) front) x (sym mine.1) (omega (arith, ap length mine.0, length-append own_first (drop (length own_first) front)))
    more parts.1 rest (same_rest own_first (drop (length own_first) front ++ more) parts.0 (parts.1 ++ rest) other (sym parts.3)) parts.4

pub second_dead : (text : List ℕ) (at next fault : ℕ) (own_first : List ℕ) (A B : List ℕ → List ℕ → Type 0)
    → drop at text ≡ own_first ++ drop next text → next ≡ at + length own_first
    → ((own rest : List ℕ) → B own rest → (first : List ℕ) × (second : List ℕ) × (own ≡ first ++ second) × (length first ≡ length own_first) × A second rest)
    → IsDead text next fault A → IsDead text at fault B
second_dead text at next fault own_first A B splits size apart (within, inl dead) =
    (omega arith, inl (second_front 1 text at next fault own_first A B splits size within apart dead))
second_dead text at next fault own_first A B splits size apart (within, inr dead) =
    (omega arith, inr (dead.0, second_front 2 text at next fault own_first A B splits size within apart dead.1))

offset_minutes : (colon : Colon) (text : List ℕ) (at fault hours : ℕ)
    → (minutes_behind colon text at ≡ Err (Mismatch fault)) ⊎ Faulted (minutes_behind colon text at) (λ minutes next. Ok (hours * 3600 + minutes * 60, next)) fault
    → IsDead text at fault (λ own rest. (minutes : ℕ) × AreMinutes colon own minutes)
offset_minutes colon text at fault hours (inl minutes) = minutes_cases colon (stands 58 text at) text at fault refl minutes
offset_minutes colon text at fault hours (inr read) = let never = read.then in cc

offset_cases : (colon : Colon) (text : List ℕ) (at fault : ℕ)
    → (number 2 0 23 text at ≡ Err (Mismatch fault))
    ⊎ Faulted (number 2 0 23 text at) (λ hours behind. and_then (minutes_behind colon text behind) (λ minutes next. Ok (hours * 3600 + minutes * 60, next))) fault
    → IsDead text at fault (λ own rest. (seconds : ℕ) × IsOffset colon own seconds)
offset_cases colon text at fault (inl hours) =
    first_dead text at fault (λ own rest. (value : ℕ) × IsNumber 2 0 23 own value) (λ own rest. (seconds : ℕ) × IsOffset colon own seconds)
    (λ own rest o. (o.1.hours_text, o.1.minutes_text, o.1.is, (o.1.hours, o.1.are_hours)))
    (number_dead 2 0 23 text at fault (omega arith) (omega arith) hours)
offset_cases colon text at fault (inr hours) =
    let first = number_sound 2 0 23 text at hours.value hours.next hours.read in
    second_dead text at hours.next fault first.own (λ own rest. (minutes : ℕ) × AreMinutes colon own minutes) (λ own rest. (seconds : ℕ) × IsOffset colon own seconds)
    first.splits first.size
    (λ own rest o. (o.1.hours_text, o.1.minutes_text, o.1.is, o.1.are_hours.size ∙ sym first.holds.size, (o.1.minutes, o.1.are_minutes)))
    (offset_minutes colon text hours.next fault hours.value (faulted (minutes_behind colon text hours.next) (λ minutes next. Ok (hours.value * 3600 + minutes * 60, next)) fault hours.then))

pub offset_dead : (colon : Colon) (text : List ℕ) (at fault : ℕ) → offset colon text at ≡ Err (Mismatch fault)
    → IsDead text at fault (λ own rest. (seconds : ℕ) × IsOffset colon own seconds)
offset_dead colon text at fault is =
    offset_cases colon text at fault
    (faulted (number 2 0 23 text at) (λ hours behind. and_then (minutes_behind colon text behind) (λ minutes next. Ok (hours * 3600 + minutes * 60, next))) fault is)

-- a byte that begins another alternative
pub another_byte : (mine byte : ℕ) (text : List ℕ) (at : ℕ) → (mine == byte) ≡ false → stands mine text at ≡ true → stands byte text at ≡ false
another_byte mine byte text at other there = stands_is byte at text mine (drop (at + 1) text) (standing mine at text there) ∙ other

sign_of : (colon : Colon) (own rest : List ℕ) → ((offset : ℤ) × IsSigned colon own offset)
    → ((behind : List ℕ) × (own ≡ 43 ∷ behind) × ((seconds : ℕ) × IsOffset colon behind seconds))
    ⊎ ((behind : List ℕ) × (own ≡ 45 ∷ behind) × ((seconds : ℕ) × IsOffset colon behind seconds))
sign_of colon own rest (offset, inl east) = inl (east.0, east.2, (east.1, east.4))
sign_of colon own rest (offset, inr west) = inr (west.0, west.2, (west.1, west.4))

zone_of : (colon : Colon) (own rest : List ℕ) → ((offset : ℤ) × IsZone colon own offset)
    → ((offset : ℤ) × IsSigned colon own offset) ⊎ ((behind : List ℕ) × (own ≡ 90 ∷ behind) × ⊤)
zone_of colon own rest (offset, inl utc) = inr ([], utc.0, tt)
zone_of colon own rest (offset, inr sign) = inl (offset, sign)

either_never : (text : List ℕ) (at : ℕ) (A B : List ℕ → List ℕ → Type 0) → NeverThere text at A → NeverThere text at B → NeverThere text at (λ own rest. A own rest ⊎ B own rest)
either_never text at A B no_a no_b front x splits some more own rest is (inl a) = no_a front x splits some more own rest is a
either_never text at A B no_a no_b front x splits some more own rest is (inr b) = no_b front x splits some more own rest is b

signed_fault : (colon : Colon) (text : List ℕ) (at fault : ℕ) (sign : ℕ → ℤ)
    → (offset colon text at ≡ Err (Mismatch fault)) ⊎ Faulted (offset colon text at) (λ seconds end. Ok (sign seconds, end)) fault
    → IsDead text at fault (λ own rest. (seconds : ℕ) × IsOffset colon own seconds)
signed_fault colon text at fault sign (inl is) = offset_dead colon text at fault is
signed_fault colon text at fault sign (inr read) = let never = read.then in cc

behind_sign : (colon : Colon) (text : List ℕ) (at fault : ℕ) (sign : ℕ → ℤ)
    → and_then (offset colon text (at + 1)) (λ seconds end. Ok (sign seconds, end)) ≡ Err (Mismatch fault)
    → IsDead text (at + 1) fault (λ own rest. (seconds : ℕ) × IsOffset colon own seconds)
behind_sign colon text at fault sign is =
    signed_fault colon text (at + 1) fault sign (faulted (offset colon text (at + 1)) (λ seconds end. Ok (sign seconds, end)) fault is)

signed_cases : (east west : Bool) (colon : Colon) (text : List ℕ) (at fault : ℕ)
    → stands 43 text at ≡ east → stands 45 text at ≡ west → signed colon text at ≡ Err (Mismatch fault)
    → IsDead text at fault (λ own rest. (offset : ℤ) × IsSigned colon own offset)
unfolding signed
signed_cases true west colon text at fault is_east is_west is =
    let behind = behind_sign colon text at fault (λ seconds. pos seconds) (rw is_east at is) in
    let No : List ℕ → List ℕ → Type 0 = λ own rest. (seconds : ℕ) × IsOffset colon own seconds in
    less_dead text at fault _ (λ own rest. (offset : ℤ) × IsSigned colon own offset) (sign_of colon)
    (or_never text at fault _ _ (deeper 43 text at fault No behind) (behind_never 45 No text at (another_byte 43 45 text at refl is_east)))
signed_cases false true colon text at fault is_east is_west is =
    let behind = behind_sign colon text at fault (λ seconds. neg_ℤ (pos seconds)) (rw (is_east, is_west) at is) in
    let No : List ℕ → List ℕ → Type 0 = λ own rest. (seconds : ℕ) × IsOffset colon own seconds in
    less_dead text at fault _ (λ own rest. (offset : ℤ) × IsSigned colon own offset) (λ own rest sign. swapped (sign_of colon own rest sign))
    (or_never text at fault _ _ (deeper 45 text at fault No behind) (behind_never 43 No text at is_east))
signed_cases false false colon text at fault is_east is_west is =
    let No : List ℕ → List ℕ → Type 0 = λ own rest. (seconds : ℕ) × IsOffset colon own seconds in
    subst (λ place. IsDead text at place (λ own rest. (offset : ℤ) × IsSigned colon own offset)) (same_place at fault (rw (is_east, is_west) at is))
    (less_dead text at at _ (λ own rest. (offset : ℤ) × IsSigned colon own offset) (sign_of colon)
    (never_dead text at _ (either_never text at _ _ (behind_never 43 No text at is_east) (behind_never 45 No text at is_west))))

pub signed_dead : (colon : Colon) (text : List ℕ) (at fault : ℕ) → signed colon text at ≡ Err (Mismatch fault)
    → IsDead text at fault (λ own rest. (offset : ℤ) × IsSigned colon own offset)
signed_dead colon text at fault is = signed_cases (stands 43 text at) (stands 45 text at) colon text at fault refl refl is

zone_cases : (utc : Bool) (colon : Colon) (text : List ℕ) (at fault : ℕ) → stands 90 text at ≡ utc → zone colon text at ≡ Err (Mismatch fault)
    → IsDead text at fault (λ own rest. (offset : ℤ) × IsZone colon own offset)
unfolding zone
zone_cases true colon text at fault is_utc is = let never = rw is_utc at is in cc
zone_cases false colon text at fault is_utc is =
    less_dead text at fault _ (λ own rest. (offset : ℤ) × IsZone colon own offset) (zone_of colon)
    (or_never text at fault (λ own rest. (offset : ℤ) × IsSigned colon own offset) _ (signed_dead colon text at fault (rw is_utc at is))
    (behind_never 90 (λ own rest. ⊤) text at is_utc))

pub zone_dead : (colon : Colon) (text : List ℕ) (at fault : ℕ) → zone colon text at ≡ Err (Mismatch fault)
    → IsDead text at fault (λ own rest. (offset : ℤ) × IsZone colon own offset)
zone_dead colon text at fault is = zone_cases (stands 90 text at) colon text at fault refl is

fails : (test : Bool) (n : ℕ) → cond {A = ℕ} test (1 + n) 0 ≡ 0 → test ≡ false
fails true n is = absurd (omega arith)
fails false n is = refl

-- the byte behind one digit
digit_behind : (own rest : List ℕ) → length own ≡ 1 → BeginsNoDigit rest → is_ascii_digit (get_or (own ++ rest) 1 0) ≡ false
digit_behind [] rest one none = absurd (omega arith)
digit_behind (first ∷ second ∷ own) rest one none = absurd (omega arith)
digit_behind (first ∷ []) [] one none = refl
digit_behind (first ∷ []) (second ∷ rest) one none = fails (is_ascii_digit second) (prefix_len is_ascii_digit rest) none

two_digits : (text : List ℕ) (at : ℕ) → 2 ≤ prefix_len is_ascii_digit (take 2 (drop at text)) → is_ascii_digit (get_or (drop at text) 1 0) ≡ true
two_digits text at all =
    sym (ap is_ascii_digit (get_or-take 2 (drop at text) 1 0 (omega arith))) ∙ prefix_len_passes is_ascii_digit (take 2 (drop at text)) 1 0 (omega arith)

-- two digits are out of range
two_dead : (high : ℕ) (text : List ℕ) (at : ℕ) → 2 ≤ prefix_len is_ascii_digit (take 2 (drop at text))
    → may_lie (2 - prefix_len is_ascii_digit (take 2 (drop at text))) 1 high (value_of (take (prefix_len is_ascii_digit (take 2 (drop at text))) (drop at text))) ≡ false
    → Dead 2 text at at (λ own rest. (value : ℕ) × IsUnpadded high own rest value)
two_dead high text at all out front x splits size more own rest is (value, inl two) =
    range_dead 2 2 1 high text at (front_digits 2 (drop at text)).2 out front x splits size more own rest is (value, two)
two_dead high text at all out front x splits size more own rest is (value, inr one) =
    let mine : get_or (drop at text) 1 0 ≡ get_or front 1 0 = ap (λ bytes. get_or bytes 1 0) splits ∙ get_or_append_left front x 0 1 (omega arith) in
    let theirs : get_or front 1 0 ≡ get_or (own ++ rest) 1 0 = sym (get_or_append_left front more 0 1 (omega arith)) ∙ ap (λ bytes. get_or bytes 1 0) is in
    false≢true (sym (digit_behind own rest one.0.size one.1) ∙ sym (ap is_ascii_digit (mine ∙ theirs)) ∙ two_digits text at all)

-- one digit is out of range
one_dead : (high : ℕ) (text : List ℕ) (at : ℕ) → prefix_len is_ascii_digit (take 2 (drop at text)) ≢ 2
    → may_lie (1 - prefix_len is_ascii_digit (take 1 (drop at text))) 1 high (value_of (take (prefix_len is_ascii_digit (take 1 (drop at text))) (drop at text))) ≡ false
    → Dead 2 text at at (λ own rest. (value : ℕ) × IsUnpadded high own rest value)
one_dead high text at few out front x splits size more own rest is (value, inl two) =
    let mine : take 2 (drop at text) ≡ take 2 front = ap (take 2) splits ∙ take-append-le 2 front x (omega arith) in
    let theirs : take 2 front ≡ own = sym (take-append-le 2 front more (omega arith)) ∙ ap (take 2) is ∙ front_whole own rest 2 two.size in
    absurd (few (ap (prefix_len is_ascii_digit) (mine ∙ theirs) ∙ two.all ∙ two.size))
one_dead high text at few out front x splits size more own rest is (value, inr one) =
    let small = (front_digits 1 (drop at text)).2 in
    range_dead 2 1 1 high text at (omega (arith, small)) out front x splits size more own rest is (value, one.0)

first_no_digit : (bytes : List ℕ) → prefix_len is_ascii_digit (take 1 bytes) < 1 → 1 ≤ length bytes → is_ascii_digit (get_or bytes 0 0) ≡ false
first_no_digit bytes none some =
    let count_zero : prefix_len is_ascii_digit (take 1 bytes) ≡ 0 = omega arith in
    ap (λ n. is_ascii_digit (get_or bytes n 0)) (sym count_zero) ∙ stops_at bytes 1 none (omega arith)

no_digits_there : (text : List ℕ) (at : ℕ) → prefix_len is_ascii_digit (take 1 (drop at text)) < 1
    → NeverThere text at (λ own rest. AreDigits own × (1 ≤ length own))
no_digits_there text at none front x splits some more own rest is digits =
    let other = first_no_digit (drop at text) none (omega (arith, ap length splits, length-append front x)) in
    no_digit front x more own rest 0 some digits.1 digits.0 is (ap (λ bytes. is_ascii_digit (get_or bytes 0 0)) (sym splits) ∙ other)

-- no digit stands there
unpadded_never : (high : ℕ) (text : List ℕ) (at : ℕ) → prefix_len is_ascii_digit (take 1 (drop at text)) < 1
    → NeverThere text at (λ own rest. (value : ℕ) × IsUnpadded high own rest value)
unpadded_never high text at none front x splits some more own rest is (value, inl two) =
    no_digits_there text at none front x splits some more own rest is (two.all, omega (arith, two.size))
unpadded_never high text at none front x splits some more own rest is (value, inr one) =
    no_digits_there text at none front x splits some more own rest is (one.0.all, omega (arith, one.0.size))

two_cases : (high : ℕ) (text : List ℕ) (at fault : ℕ) → prefix_len is_ascii_digit (take 2 (drop at text)) ≡ 2 → IsNumberFault 2 1 high (drop at text) at fault
    → IsDead text at fault (λ own rest. (value : ℕ) × IsUnpadded high own rest value)
two_cases high text at fault count (inl short) = absurd (omega (arith, short.1))
two_cases high text at fault count (inr out) =
    subst (λ place. IsDead text at place (λ own rest. (value : ℕ) × IsUnpadded high own rest value)) out.1
    (omega arith, inr (first_digit 2 text at (omega arith) (omega arith), two_dead high text at (omega arith) out.0))

nowhere_dead : (high : ℕ) (text : List ℕ) (at fault : ℕ) → prefix_len is_ascii_digit (take 1 (drop at text)) < 1 → at ≡ fault
    → IsDead text at fault (λ own rest. (value : ℕ) × IsUnpadded high own rest value)
nowhere_dead high text at fault none here =
    subst (λ place. IsDead text at place (λ own rest. (value : ℕ) × IsUnpadded high own rest value)) here
    (never_dead text at (λ own rest. (value : ℕ) × IsUnpadded high own rest value) (unpadded_never high text at none))

one_cases : (high : ℕ) (text : List ℕ) (at fault : ℕ) → prefix_len is_ascii_digit (take 2 (drop at text)) ≢ 2
    → (prefix_len is_ascii_digit (take 1 (drop at text)) < 1) ⊎ (1 ≤ prefix_len is_ascii_digit (take 1 (drop at text)))
    → IsNumberFault 1 1 high (drop at text) at fault
    → IsDead text at fault (λ own rest. (value : ℕ) × IsUnpadded high own rest value)
one_cases high text at fault few some (inl short) = nowhere_dead high text at fault short.1 (omega (arith, short.1, short.2))
one_cases high text at fault few (inl none) (inr out) = nowhere_dead high text at fault none out.1
one_cases high text at fault few (inr some) (inr out) =
    subst (λ place. IsDead text at place (λ own rest. (value : ℕ) × IsUnpadded high own rest value)) out.1
    (omega arith, inr (first_digit 1 text at (omega arith) some, one_dead high text at few out.0))

unpadded_cases : (two : Bool) (high : ℕ) (text : List ℕ) (at fault : ℕ) → (prefix_len is_ascii_digit (take 2 (drop at text)) == 2) ≡ two
    → number (cond two 2 1) 1 high text at ≡ Err (Mismatch fault) → IsDead text at fault (λ own rest. (value : ℕ) × IsUnpadded high own rest value)
unpadded_cases true high text at fault count is =
    two_cases high text at fault (eqb-true (prefix_len is_ascii_digit (take 2 (drop at text))) 2 count) (number_faults 2 1 high text at fault is)
unpadded_cases false high text at fault count is =
    one_cases high text at fault (eqb-false (prefix_len is_ascii_digit (take 2 (drop at text))) 2 count) (cases_lt (prefix_len is_ascii_digit (take 1 (drop at text))) 1)
    (number_faults 1 1 high text at fault is)

pub unpadded_dead : (high : ℕ) (text : List ℕ) (at fault : ℕ) → unpadded high text at ≡ Err (Mismatch fault)
    → IsDead text at fault (λ own rest. (value : ℕ) × IsUnpadded high own rest value)
unpadded_dead high text at fault is = unpadded_cases (prefix_len is_ascii_digit (take 2 (drop at text)) == 2) high text at fault refl is

-- a day behind a space, or digits
day_of : (own rest : List ℕ) → ((day : ℕ) × IsPaddedDay own rest day)
    → ((behind : List ℕ) × (own ≡ 32 ∷ behind) × ((value : ℕ) × IsNumber 1 1 31 behind value)) ⊎ (AreDigits own × (1 ≤ length own))
day_of own rest (day, inl spaced) = inl (spaced.0, spaced.1, (day, spaced.2))
day_of own rest (day, inr (inl two)) = inr (two.all, omega (arith, two.size))
day_of own rest (day, inr (inr one)) = inr (one.0.all, omega (arith, one.0.size))

-- a day without a space, or with one
bare_day_of : (own rest : List ℕ) → ((day : ℕ) × IsPaddedDay own rest day)
    → ((value : ℕ) × IsUnpadded 31 own rest value) ⊎ ((behind : List ℕ) × (own ≡ 32 ∷ behind) × ⊤)
bare_day_of own rest (day, inl spaced) = inr (spaced.0, spaced.1, tt)
bare_day_of own rest (day, inr bare) = inl (day, bare)

spaced_cases : (spaced : Bool) (text : List ℕ) (at fault : ℕ) → stands 32 text at ≡ spaced
    → cond spaced (number 1 1 31 text (at + 1)) (unpadded 31 text at) ≡ Err (Mismatch fault)
    → IsDead text at fault (λ own rest. (day : ℕ) × IsPaddedDay own rest day)
spaced_cases true text at fault there is =
    less_dead text at fault _ (λ own rest. (day : ℕ) × IsPaddedDay own rest day) day_of
    (or_never text at fault _ (λ own rest. AreDigits own × (1 ≤ length own))
    (deeper 32 text at fault (λ own rest. (value : ℕ) × IsNumber 1 1 31 own value) (number_dead 1 1 31 text (at + 1) fault (omega arith) (omega arith) is))
    (no_digits 32 text at refl there))
spaced_cases false text at fault there is =
    less_dead text at fault _ (λ own rest. (day : ℕ) × IsPaddedDay own rest day) bare_day_of
    (or_never text at fault (λ own rest. (value : ℕ) × IsUnpadded 31 own rest value) _ (unpadded_dead 31 text at fault is)
    (behind_never 32 (λ own rest. ⊤) text at there))

pub padded_day_dead : (text : List ℕ) (at fault : ℕ) → padded_day text at ≡ Err (Mismatch fault)
    → IsDead text at fault (λ own rest. (day : ℕ) × IsPaddedDay own rest day)
padded_day_dead text at fault is = spaced_cases (stands 32 text at) text at fault refl is
