-- Where a part can't be read, no text that begins alike has it.
use Rattle.std.proofs.Common.{◌≡◌, ◌∙◌, sym, ap, refl, subst, ℕ, ◌+◌, ◌-◌, ◌*◌, ◌^◌, ◌<◌, ◌≤◌, List, [], ◌∷◌, ◌++◌, length, take, drop, get_or, Bool, true, false, cond, nat_lt, ◌==◌, Ok, Err, ◌⊎◌, inl, inr, arith, eq-eqb}
use Rattle.std.proofs.Math.Seq.{get_or-drop, get_or-take, take-append-le}
use Rattle.std.proofs.Math.ListN.{length-append, length-take}
use Rattle.std.proofs.lemmas.List.{get_or_append_left}
use Rattle.std.proofs.lemmas.List.Sums.{prefix_len-le-length, prefix_len_passes, prefix_len_stops}
use Rattle.std.proofs.lemmas.Bool.{ltb-true, eqb-true, cases_lt, false≢true}
use Rattle.std.specs.Char.{is_ascii_digit}
use Rattle.std.specs.List.{prefix_len}
use Rattle.time_layout.specs.declared.fault.TimeFault.TheVariants.{Mismatch, OutOfRange}
use Rattle.time_layout.specs.Atoms.{Reading, value_of, stands, may_lie, number, fraction}
use Rattle.time_layout.proofs.Completes.{stands_is, behind_one}
use Rattle.time_layout.proofs.Numbers.{may_begin}
use Rattle.time_layout.proofs.Sounds.{standing}
use Rattle.time_layout.specs.Texts.{AreDigits, IsNumber, IsFraction}

-- no text that begins so has something for which this holds
abbrev pub NeverBegins : List ℕ → (List ℕ → List ℕ → Type 0) → Type 0
NeverBegins front Holds = (more own rest : List ℕ) → front ++ more ≡ own ++ rest → Holds own rest → ⊥

-- the bytes from a place on, with so many from the place of the fault, can't go on
abbrev pub Dead : ℕ → List ℕ → ℕ → ℕ → (List ℕ → List ℕ → Type 0) → Type 0
Dead width text at fault Holds = (front x : List ℕ) → drop at text ≡ front ++ x → at + length front ≡ fault + width → NeverBegins front Holds

-- one byte ends it, or a digit and one byte more
abbrev pub IsDead : List ℕ → ℕ → ℕ → (List ℕ → List ℕ → Type 0) → Type 0
IsDead text at fault Holds =
    (at ≤ fault) × (Dead 1 text at fault Holds ⊎ ((is_ascii_digit (get_or text fault 0) ≡ true) × Dead 2 text at fault Holds))

-- no text that has the first byte in common goes on so
abbrev pub NeverThere : List ℕ → ℕ → (List ℕ → List ℕ → Type 0) → Type 0
NeverThere text at Holds = (front x : List ℕ) → drop at text ≡ front ++ x → 1 ≤ length front → NeverBegins front Holds

place_or : {A : Type 0} → ℕ → Reading A → ℕ
place_or n (Ok read) = n
place_or n (Err (Mismatch at)) = at
place_or n (Err OutOfRange) = n

pub same_place : {A : Type 0} (m n : ℕ) → ◌≡◌ {A = Reading A} (Err (Mismatch m)) (Err (Mismatch n)) → m ≡ n
unfolding place_or
same_place {A} m n is = let f : Reading A → ℕ = place_or m in ap f is

either_never : {A B : Type 0} → (A → ⊥) → (B → ⊥) → A ⊎ B → ⊥
either_never none other (inl a) = none a
either_never none other (inr b) = other b

-- a byte of what two texts have in common
same_byte : (front x more own rest : List ℕ) (i : ℕ) → i < length front → i < length own → front ++ more ≡ own ++ rest
    → get_or (front ++ x) i 0 ≡ get_or own i 0
same_byte front x more own rest i in_front in_own is =
    get_or_append_left front x 0 i in_front ∙ sym (get_or_append_left front more 0 i in_front) ∙ ap (λ bytes. get_or bytes i 0) is ∙ get_or_append_left own rest 0 i in_own

-- a digit where the other text has none
pub no_digit : (front x more own rest : List ℕ) (i : ℕ) → i < length front → i < length own → AreDigits own → front ++ more ≡ own ++ rest
    → is_ascii_digit (get_or (front ++ x) i 0) ≡ false → ⊥
no_digit front x more own rest i in_front in_own all is none =
    false≢true (sym none ∙ ap is_ascii_digit (same_byte front x more own rest i in_front in_own is) ∙ prefix_len_passes is_ascii_digit own i 0 (omega (arith, all)))

-- the byte behind the digits is none
pub stops_at : (bytes : List ℕ) (most : ℕ) → prefix_len is_ascii_digit (take most bytes) < most → prefix_len is_ascii_digit (take most bytes) < length bytes
    → is_ascii_digit (get_or bytes (prefix_len is_ascii_digit (take most bytes)) 0) ≡ false
stops_at bytes most few inside =
    sym (ap is_ascii_digit (get_or-take most bytes (prefix_len is_ascii_digit (take most bytes)) 0 few))
    ∙ prefix_len_stops is_ascii_digit (take most bytes) 0 (omega (arith, length-take most bytes))

-- too few digits
pub short_dead : (digits low high : ℕ) (text : List ℕ) (at : ℕ) → prefix_len is_ascii_digit (take digits (drop at text)) < digits
    → Dead 1 text at (at + prefix_len is_ascii_digit (take digits (drop at text))) (λ own rest. (value : ℕ) × IsNumber digits low high own value)
short_dead digits low high text at few front x splits size more own rest is number =
    let count : ℕ = prefix_len is_ascii_digit (take digits (drop at text)) in
    let long : length front ≡ count + 1 = omega arith in
    let inside : count < length (drop at text) = omega (arith, ap length splits, length-append front x) in
    let none : is_ascii_digit (get_or (front ++ x) count 0) ≡ false = rw (← splits) (stops_at (drop at text) digits few inside) in
    no_digit front x more own rest count (omega arith) (omega (arith, number.1.size)) number.1.all is none

-- the digits that stand there begin no number
pub range_dead : (width digits low high : ℕ) (text : List ℕ) (at : ℕ) → prefix_len is_ascii_digit (take digits (drop at text)) ≤ width
    → may_lie (digits - prefix_len is_ascii_digit (take digits (drop at text))) low high (value_of (take (prefix_len is_ascii_digit (take digits (drop at text))) (drop at text))) ≡ false
    → Dead width text at at (λ own rest. (value : ℕ) × IsNumber digits low high own value)
range_dead width digits low high text at few out front x splits size more own rest is number =
    let count : ℕ = prefix_len is_ascii_digit (take digits (drop at text)) in
    let some : count ≤ digits = omega (arith, prefix_len-le-length is_ascii_digit (take digits (drop at text)), length-take digits (drop at text)) in
    let one : take count (drop at text) ≡ take count front = ap (take count) splits ∙ take-append-le count front x (omega arith) in
    let other : take count front ≡ take count own =
    sym (take-append-le count front more (omega arith)) ∙ ap (take count) is ∙ take-append-le count own rest (omega (arith, number.1.size)) in
    false≢true (sym out ∙ ap (λ bytes. may_lie (digits - count) low high (value_of bytes)) (one ∙ other)
    ∙ may_begin digits low high count own number.0 number.1 some)

-- why there is no number: one of its digits is missing, or those that stand there begin none
abbrev pub IsNumberFault : ℕ → ℕ → ℕ → List ℕ → ℕ → ℕ → Type 0
IsNumberFault digits low high bytes at fault =
    ((may_lie (digits - prefix_len is_ascii_digit (take digits bytes)) low high (value_of (take (prefix_len is_ascii_digit (take digits bytes)) bytes)) ≡ true)
    × (prefix_len is_ascii_digit (take digits bytes) < digits) × (at + prefix_len is_ascii_digit (take digits bytes) ≡ fault))
    ⊎ ((may_lie (digits - prefix_len is_ascii_digit (take digits bytes)) low high (value_of (take (prefix_len is_ascii_digit (take digits bytes)) bytes)) ≡ false)
    × (at ≡ fault))

number_fault_cases : (may short : Bool) (at place next value fault : ℕ)
    → cond {A = Reading ℕ} may (cond {A = Reading ℕ} short (Err (Mismatch place)) (Ok (value, next))) (Err (Mismatch at)) ≡ Err (Mismatch fault)
    → ((may ≡ true) × (short ≡ true) × (place ≡ fault)) ⊎ ((may ≡ false) × (at ≡ fault))
number_fault_cases true true at place next value fault is = inl (refl, refl, same_place place fault is)
number_fault_cases true false at place next value fault is = cc
number_fault_cases false short at place next value fault is = inr (refl, same_place at fault is)

fault_of : (may : Bool) (count digits at fault : ℕ) → ((may ≡ true) × (nat_lt count digits ≡ true) × (at + count ≡ fault)) ⊎ ((may ≡ false) × (at ≡ fault))
    → ((may ≡ true) × (count < digits) × (at + count ≡ fault)) ⊎ ((may ≡ false) × (at ≡ fault))
fault_of may count digits at fault (inl short) = inl (short.0, ltb-true count digits short.1, short.2)
fault_of may count digits at fault (inr out) = inr out

pub number_faults : (digits low high : ℕ) (text : List ℕ) (at fault : ℕ) → number digits low high text at ≡ Err (Mismatch fault)
    → IsNumberFault digits low high (drop at text) at fault
unfolding number
number_faults digits low high text at fault is =
    let count : ℕ = prefix_len is_ascii_digit (take digits (drop at text)) in
    let found : ℕ = value_of (take count (drop at text)) in
    let may : Bool = may_lie (digits - count) low high found in
    fault_of may count digits at fault (number_fault_cases may (nat_lt count digits) at (at + count) (at + digits) found fault is)

-- the first of the digits that stand there
pub first_digit : (digits : ℕ) (text : List ℕ) (at : ℕ) → 1 ≤ digits → 1 ≤ prefix_len is_ascii_digit (take digits (drop at text))
    → is_ascii_digit (get_or text at 0) ≡ true
first_digit digits text at some all =
    let here : get_or (take digits (drop at text)) 0 0 ≡ get_or text at 0 =
    get_or-take digits (drop at text) 0 0 some ∙ get_or-drop at text 0 0 ∙ ap (λ n. get_or text n 0) (omega arith) in
    sym (ap is_ascii_digit here) ∙ prefix_len_passes is_ascii_digit (take digits (drop at text)) 0 0 (omega arith)

-- the digits that stand there, one or two, begin no number
begun_dead : (digits low high : ℕ) (text : List ℕ) (at : ℕ) → 1 ≤ digits → digits ≤ 2
    → may_lie (digits - prefix_len is_ascii_digit (take digits (drop at text))) low high (value_of (take (prefix_len is_ascii_digit (take digits (drop at text))) (drop at text))) ≡ false
    → (prefix_len is_ascii_digit (take digits (drop at text)) < 2) ⊎ (2 ≤ prefix_len is_ascii_digit (take digits (drop at text)))
    → IsDead text at at (λ own rest. (value : ℕ) × IsNumber digits low high own value)
begun_dead digits low high text at some few out (inl one) = (omega arith, inl (range_dead 1 digits low high text at (omega arith) out))
begun_dead digits low high text at some few out (inr two) = (
  omega arith,
  inr (
    first_digit digits text at some (omega arith),
    range_dead 2 digits low high text at (omega (arith, prefix_len-le-length is_ascii_digit (take digits (drop at text)), length-take digits (drop at text))) out,
  ),
)

number_cases_dead : (digits low high : ℕ) (text : List ℕ) (at fault : ℕ) → 1 ≤ digits → digits ≤ 2 → IsNumberFault digits low high (drop at text) at fault
    → IsDead text at fault (λ own rest. (value : ℕ) × IsNumber digits low high own value)
number_cases_dead digits low high text at fault some few (inl short) = (
  omega (arith, short.2),
  inl (subst (λ place. Dead 1 text at place (λ own rest. (value : ℕ) × IsNumber digits low high own value)) short.2 (short_dead digits low high text at short.1)),
)
number_cases_dead digits low high text at fault some few (inr out) =
    subst (λ place. IsDead text at place (λ own rest. (value : ℕ) × IsNumber digits low high own value)) out.1
    (begun_dead digits low high text at some few out.0 (cases_lt (prefix_len is_ascii_digit (take digits (drop at text))) 2))

pub number_dead : (digits low high : ℕ) (text : List ℕ) (at fault : ℕ) → 1 ≤ digits → digits ≤ 2 → number digits low high text at ≡ Err (Mismatch fault)
    → IsDead text at fault (λ own rest. (value : ℕ) × IsNumber digits low high own value)
number_dead digits low high text at fault some few is = number_cases_dead digits low high text at fault some few (number_faults digits low high text at fault is)

-- of two alternatives, one of which is never there
pub or_never : (text : List ℕ) (at fault : ℕ) (A B : List ℕ → List ℕ → Type 0) → IsDead text at fault A → NeverThere text at B
    → IsDead text at fault (λ own rest. A own rest ⊎ B own rest)
or_never text at fault A B (within, inl dead) never = (
  within,
  inl (λ front x splits size more own rest is either.
      either_never (dead front x splits size more own rest is) (never front x splits (omega arith) more own rest is) either),
)
or_never text at fault A B (within, inr dead) never = (
  within,
  inr (
    dead.0,
    λ front x splits size more own rest is either.
        either_never (dead.1 front x splits size more own rest is) (never front x splits (omega arith) more own rest is) either,
  ),
)

pub never_dead : (text : List ℕ) (at : ℕ) (A : List ℕ → List ℕ → Type 0) → NeverThere text at A → IsDead text at at A
never_dead text at A never = (omega arith, inl (λ front x splits size. never front x splits (omega arith)))

pub less_dead : (text : List ℕ) (at fault : ℕ) (A B : List ℕ → List ℕ → Type 0) → ((own rest : List ℕ) → B own rest → A own rest) → IsDead text at fault A → IsDead text at fault B
less_dead text at fault A B weaken (within, inl dead) =
    (within, inl (λ front x splits size more own rest is holds. dead front x splits size more own rest is (weaken own rest holds)))
less_dead text at fault A B weaken (within, inr dead) =
    (within, inr (dead.0, λ front x splits size more own rest is holds. dead.1 front x splits size more own rest is (weaken own rest holds)))

pub fraction_fault_cases : (none : Bool) (at nanos count fault : ℕ)
    → cond {A = Reading ℕ} none (Err (Mismatch at)) (Ok (nanos, at + count)) ≡ Err (Mismatch fault) → (none ≡ true) × (at ≡ fault)
fraction_fault_cases true at nanos count fault is = (refl, same_place at fault is)
fraction_fault_cases false at nanos count fault is = cc

fraction_never : (most : ℕ) (text : List ℕ) (at : ℕ) → prefix_len is_ascii_digit (take most (drop at text)) ≡ 0
    → NeverThere text at (λ own rest. (value : ℕ) × IsFraction most own rest value)
fraction_never most text at count_zero front x splits some more own rest is f =
    let stop = stops_at (drop at text) most (omega (arith, f.1.some, f.1.few)) (omega (arith, ap length splits, length-append front x)) in
    let none : is_ascii_digit (get_or (front ++ x) 0 0) ≡ false = ap (λ bytes. is_ascii_digit (get_or bytes 0 0)) (sym splits) ∙ ap (λ n. is_ascii_digit (get_or (drop at text) n 0)) (sym count_zero) ∙ stop in
    no_digit front x more own rest 0 some f.1.some f.1.all is none

pub fraction_dead : (most : ℕ) (text : List ℕ) (at fault : ℕ) → fraction most text at ≡ Err (Mismatch fault)
    → IsDead text at fault (λ own rest. (value : ℕ) × IsFraction most own rest value)
unfolding fraction
fraction_dead most text at fault is =
    let count : ℕ = prefix_len is_ascii_digit (take most (drop at text)) in
    let test = fraction_fault_cases (count == 0) at (value_of (take count (drop at text)) * 10 ^ (9 - count)) count fault is in
    subst (λ place. IsDead text at place (λ own rest. (value : ℕ) × IsFraction most own rest value)) test.1
    (never_dead text at (λ own rest. (value : ℕ) × IsFraction most own rest value) (fraction_never most text at (eqb-true count 0 test.0)))

-- another byte stands there
pub other_byte : (byte : ℕ) (text : List ℕ) (at : ℕ) → stands byte text at ≡ false
    → NeverThere text at (λ own rest. (behind : List ℕ) × (own ≡ byte ∷ behind))
other_byte byte text at other [] x splits some more own rest is begins = omega arith
other_byte byte text at other (first ∷ front) x splits some more own rest is begins =
    let same : first ≡ byte = ap (λ bytes. get_or bytes 0 0) is ∙ ap (λ bytes. get_or (bytes ++ rest) 0 0) begins.1 in
    false≢true (sym other ∙ stands_is byte at text first (front ++ x) splits ∙ eq-eqb first byte same)

-- a byte that is no digit stands there
pub no_digits : (byte : ℕ) (text : List ℕ) (at : ℕ) → is_ascii_digit byte ≡ false → stands byte text at ≡ true
    → NeverThere text at (λ own rest. AreDigits own × (1 ≤ length own))
no_digits byte text at none there front x splits some more own rest is digits =
    let first : get_or (front ++ x) 0 0 ≡ byte = ap (λ bytes. get_or bytes 0 0) (sym splits ∙ standing byte at text there) in
    no_digit front x more own rest 0 some digits.1 digits.0 is (ap is_ascii_digit first ∙ none)

-- behind one byte
deeper_front : (byte : ℕ) (width : ℕ) (text : List ℕ) (at fault : ℕ) (Holds : List ℕ → List ℕ → Type 0) → at + 1 ≤ fault → Dead width text (at + 1) fault Holds
    → Dead width text at fault (λ own rest. (behind : List ℕ) × (own ≡ byte ∷ behind) × Holds behind rest)
deeper_front byte width text at fault Holds later dead [] x splits size more own rest is begins = omega arith
deeper_front byte width text at fault Holds later dead (first ∷ front) x splits size more own rest is begins =
    dead front x (behind_one at text first (front ++ x) splits) (omega arith) more begins.0 rest
    (ap (drop 1) is ∙ ap (λ bytes. drop 1 (bytes ++ rest)) begins.1) begins.2

pub deeper : (byte : ℕ) (text : List ℕ) (at fault : ℕ) (Holds : List ℕ → List ℕ → Type 0) → IsDead text (at + 1) fault Holds
    → IsDead text at fault (λ own rest. (behind : List ℕ) × (own ≡ byte ∷ behind) × Holds behind rest)
deeper byte text at fault Holds (within, inl dead) = (omega arith, inl (deeper_front byte 1 text at fault Holds within dead))
deeper byte text at fault Holds (within, inr dead) = (omega arith, inr (dead.0, deeper_front byte 2 text at fault Holds within dead.1))
