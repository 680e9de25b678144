-- Where a fraction behind a point or a zone's name can't be read, no text that begins alike has one.
use Rattle.std.proofs.Common.{◌≡◌, ◌≢◌, ◌∙◌, sym, ap, refl, subst, ℕ, ◌+◌, ◌-◌, ◌*◌, ◌^◌, ◌≤◌, List, [], ◌∷◌, ◌++◌, length, take, drop, codes, Bool, true, false, cond, ◌==◌, Ok, Err, ℤ, ◌⊎◌, inl, inr, arith, append_assoc}
use Rattle.std.proofs.Math.ListN.{length-append}
use Rattle.std.proofs.lemmas.Bool.{eqb-false, false≢true}
use Rattle.std.specs.Char.{is_ascii_digit}
use Rattle.std.specs.List.{prefix_len}
use Rattle.time_layout.specs.declared.fault.TimeFault.TheVariants.{Mismatch}
use Rattle.time_layout.specs.Atoms.{Reading, and_then, value_of, stands, may_lie, number, fraction, fixed_fraction, point_behind, fraction_point, letters, zone_name}
use Rattle.time_layout.specs.Texts.{BeginsNoDigit, IsNumber, IsFraction, IsFixedFraction, IsFractionPoint, IsZoneName}
use Rattle.time_layout.proofs.Completes.{fraction_reads}
use Rattle.time_layout.proofs.DeadEnds.{Dead, IsDead, IsNumberFault, NeverThere, same_place, number_faults, short_dead, fraction_dead, or_never, never_dead, less_dead, other_byte, deeper}
use Rattle.time_layout.proofs.DeadForms.{Faulted, faulted, another_byte, front_behind, same_rest, first_dead}
use Rattle.time_layout.proofs.Numbers.{wide_enough}
use Rattle.time_layout.proofs.Sounds.{front_digits, same_next, fraction_sound}

wide_cases : (digits high : ℕ) (text : List ℕ) (at fault : ℕ) → 10 ^ digits ≤ high + 1 → IsNumberFault digits 0 high (drop at text) at fault
    → IsDead text at fault (λ own rest. (value : ℕ) × IsNumber digits 0 high own value)
wide_cases digits high text at fault wide (inl short) = (
  omega (arith, short.2),
  inl (subst (λ place. Dead 1 text at place (λ own rest. (value : ℕ) × IsNumber digits 0 high own value)) short.2 (short_dead digits 0 high text at short.1)),
)
wide_cases digits high text at fault wide (inr out) =
    let count : ℕ = prefix_len is_ascii_digit (take digits (drop at text)) in
    let front = front_digits digits (drop at text) in
    absurd (false≢true (sym out.0 ∙ ap (λ n. may_lie (digits - n) 0 high (value_of (take count (drop at text)))) (sym front.1)
    ∙ wide_enough digits high (take count (drop at text)) front.0 (omega (arith, front.1, front.2)) wide))

-- a number that any digits are
pub wide_number_dead : (digits high : ℕ) (text : List ℕ) (at fault : ℕ) → 10 ^ digits ≤ high + 1 → number digits 0 high text at ≡ Err (Mismatch fault)
    → IsDead text at fault (λ own rest. (value : ℕ) × IsNumber digits 0 high own value)
wide_number_dead digits high text at fault wide is = wide_cases digits high text at fault wide (number_faults digits 0 high text at fault is)

pub fixed_fault : (digits : ℕ) (text : List ℕ) (at fault : ℕ)
    → (number digits 0 999_999_999 text at ≡ Err (Mismatch fault)) ⊎ Faulted (number digits 0 999_999_999 text at) (λ value next. Ok (value * 10 ^ (9 - digits), next)) fault
    → number digits 0 999_999_999 text at ≡ Err (Mismatch fault)
fixed_fault digits text at fault (inl is) = is
fixed_fault digits text at fault (inr read) = let never = read.then in cc

fixed_of : (digits : ℕ) (own rest : List ℕ) → ((nanos : ℕ) × IsFixedFraction digits own nanos)
    → (behind : List ℕ) × (own ≡ 46 ∷ behind) × ((value : ℕ) × IsNumber digits 0 999_999_999 behind value)
fixed_of digits own rest (nanos, f) = (f.behind, f.is, (f.value, f.number))

fixed_cases : (there : Bool) (digits : ℕ) (text : List ℕ) (at fault : ℕ) → 10 ^ digits ≤ 1_000_000_000 → stands 46 text at ≡ there
    → cond {A = Reading ℕ} there (and_then (number digits 0 999_999_999 text (at + 1)) (λ value next. Ok (value * 10 ^ (9 - digits), next))) (Err (Mismatch at)) ≡ Err (Mismatch fault)
    → IsDead text at fault (λ own rest. (nanos : ℕ) × IsFixedFraction digits own nanos)
fixed_cases true digits text at fault few there is =
    let number_is = fixed_fault digits text (at + 1) fault (faulted (number digits 0 999_999_999 text (at + 1)) (λ value next. Ok (value * 10 ^ (9 - digits), next)) fault is) in
    less_dead text at fault _ (λ own rest. (nanos : ℕ) × IsFixedFraction digits own nanos) (fixed_of digits)
    (deeper 46 text at fault (λ own rest. (value : ℕ) × IsNumber digits 0 999_999_999 own value)
    (wide_number_dead digits 999_999_999 text (at + 1) fault (omega arith) number_is))
fixed_cases false digits text at fault few there is =
    subst (λ place. IsDead text at place (λ own rest. (nanos : ℕ) × IsFixedFraction digits own nanos)) (same_place at fault is)
    (never_dead text at (λ own rest. (nanos : ℕ) × IsFixedFraction digits own nanos)
    (λ front x splits some more own rest begins f. other_byte 46 text at there front x splits some more own rest begins (f.1.behind, f.1.is)))

pub fixed_fraction_dead : (digits : ℕ) (text : List ℕ) (at fault : ℕ) → 10 ^ digits ≤ 1_000_000_000 → fixed_fraction digits text at ≡ Err (Mismatch fault)
    → IsDead text at fault (λ own rest. (nanos : ℕ) × IsFixedFraction digits own nanos)
fixed_fraction_dead digits text at fault few is = fixed_cases (stands 46 text at) digits text at fault few refl is

-- a part reads the same where what stands behind it begins alike
pub same_end : (test : Bool) (m n : ℕ) → cond {A = ℕ} test (1 + m) 0 ≡ 0 → cond {A = ℕ} test (1 + n) 0 ≡ 0
same_end true m n none = absurd (omega arith)
same_end false m n none = refl

same_ends : {A : Type 0} (byte : ℕ) (rest other : List ℕ) → A ⊎ BeginsNoDigit (byte ∷ rest) → A ⊎ BeginsNoDigit (byte ∷ other)
same_ends byte rest other (inl a) = inl a
same_ends byte rest other (inr none) = inr (same_end (is_ascii_digit byte) (prefix_len is_ascii_digit rest) (prefix_len is_ascii_digit other) none)

pub same_fraction : (most : ℕ) (own : List ℕ) (byte : ℕ) (rest other : List ℕ) (nanos : ℕ) → IsFraction most own (byte ∷ rest) nanos → IsFraction most own (byte ∷ other) nanos
same_fraction most own byte rest other nanos f =
    record { all = f.all; some = f.some; few = f.few; ends = same_ends byte rest other f.ends; value_is = f.value_is }

fraction_on : (own behind x more rest : List ℕ) (nanos : ℕ) → rest ≡ behind ++ x → 1 ≤ length behind → IsFraction 9 own rest nanos → IsFraction 9 own (behind ++ more) nanos
fraction_on own [] x more rest nanos is some f = absurd (omega arith)
fraction_on own (byte ∷ behind) x more rest nanos is some f =
    same_fraction 9 own byte (behind ++ x) (behind ++ more) nanos (subst (λ bytes. IsFraction 9 own bytes nanos) is f)

abbrev pub IsPointed : List ℕ → List ℕ → Type 0
IsPointed own rest = (digits : List ℕ) × (nanos : ℕ) × (own ≡ digits ++ 46 ∷ []) × IsFraction 9 digits (46 ∷ rest) nanos

-- no point stands behind the fraction
no_point_dead : (text : List ℕ) (at next nanos : ℕ) → fraction 9 text at ≡ Ok (nanos, next) → stands 46 text next ≡ false → IsDead text at next IsPointed
no_point_dead text at next nanos read none =
    let b = fraction_sound 9 text at nanos next read in (
      omega (arith, b.size),
      inl (λ front x splits size more own rest is pointed.
          let mine = front_behind front x b.own (drop next text) (sym splits ∙ b.splits) (omega (arith, b.size)) in
          let behind : List ℕ = drop (length b.own) front in
          let long : 1 ≤ length behind = omega (arith, b.size, size, ap length mine.0, length-append b.own behind) in
          let whole : front ++ more ≡ b.own ++ (behind ++ more) = ap (λ f. f ++ more) mine.0 ∙ append_assoc b.own behind more in
          let one = fraction_reads 9 0 nanos (front ++ more) b.own (behind ++ more) whole (fraction_on b.own behind x more (drop next text) nanos (sym mine.1) long b.holds) in
          let other_whole : front ++ more ≡ pointed.0 ++ (46 ∷ rest) = is ∙ ap (λ bytes. bytes ++ rest) pointed.2 ∙ append_assoc pointed.0 (46 ∷ []) rest in
          let two = fraction_reads 9 0 pointed.1 (front ++ more) pointed.0 (46 ∷ rest) other_whole pointed.3 in
          let same : 0 + length b.own ≡ 0 + length pointed.0 = same_next nanos pointed.1 (0 + length b.own) (0 + length pointed.0) (sym one ∙ two) in
          let begins : behind ++ more ≡ 46 ∷ rest = same_rest b.own (behind ++ more) pointed.0 (46 ∷ rest) (sym whole ∙ other_whole) (omega arith) in
          other_byte 46 text next none behind x (sym mine.1) long more (46 ∷ []) rest begins ([], refl)),
    )

-- behind a point: nothing where no digit stands, or a fraction and another point
abbrev pub IsBehindPoint : List ℕ → List ℕ → Type 0
IsBehindPoint own rest = IsPointed own rest ⊎ ((own ≡ []) × BeginsNoDigit rest)

point_of : (own rest : List ℕ) → ((nanos : ℕ) × IsFractionPoint own rest nanos) → (behind : List ℕ) × (own ≡ 46 ∷ behind) × IsBehindPoint behind rest
point_of own rest (nanos, inl point) = ([], point.0, inr (refl, point.1))
point_of own rest (nanos, inr pointed) = (pointed.0 ++ 46 ∷ [], pointed.1, inl (pointed.0, nanos, refl, pointed.2))

passes : (test : Bool) (m n : ℕ) → cond {A = ℕ} test (1 + m) 0 ≡ 0 → cond {A = ℕ} test (1 + n) 0 ≢ 0 → ⊥
passes true m n none some = absurd (omega arith)
passes false m n none some = some refl

-- a digit stands there
digit_never : (text : List ℕ) (at : ℕ) → prefix_len is_ascii_digit (take 1 (drop at text)) ≢ 0
    → NeverThere text at (λ own rest. (own ≡ []) × BeginsNoDigit rest)
digit_never text at some [] x splits begins more own rest is none = absurd (omega arith)
digit_never text at some (byte ∷ front) x splits begins more own rest is none =
    let whole : byte ∷ (front ++ more) ≡ rest = is ∙ ap (λ bytes. bytes ++ rest) none.0 in
    let ends : BeginsNoDigit (byte ∷ (front ++ more)) = ap (prefix_len is_ascii_digit) whole ∙ none.1 in
    passes (is_ascii_digit byte) (prefix_len is_ascii_digit (front ++ more)) 0 ends
    (λ zero. some (ap (λ bytes. prefix_len is_ascii_digit (take 1 bytes)) splits ∙ zero))

no_point : (there : Bool) (text : List ℕ) (at next fault nanos : ℕ) → fraction 9 text at ≡ Ok (nanos, next) → stands 46 text next ≡ there
    → cond {A = Reading ℕ} there (Ok (nanos, next + 1)) (Err (Mismatch next)) ≡ Err (Mismatch fault) → IsDead text at fault IsPointed
no_point true text at next fault nanos read there is = cc
no_point false text at next fault nanos read there is =
    subst (λ place. IsDead text at place IsPointed) (same_place next fault is) (no_point_dead text at next nanos read there)

behind_fault : (text : List ℕ) (at fault : ℕ)
    → (fraction 9 text at ≡ Err (Mismatch fault)) ⊎ Faulted (fraction 9 text at) (λ n next. point_behind n text next) fault
    → IsDead text at fault IsPointed
behind_fault text at fault (inl is) =
    first_dead text at fault (λ own rest. (value : ℕ) × IsFraction 9 own rest value) IsPointed
    (λ own rest p. (p.0, 46 ∷ [], p.2, (p.1, p.3))) (fraction_dead 9 text at fault is)
behind_fault text at fault (inr read) = no_point (stands 46 text read.next) text at read.next fault read.value read.read refl read.then

digits_cases : (none : Bool) (text : List ℕ) (at fault : ℕ) → (prefix_len is_ascii_digit (take 1 (drop at text)) == 0) ≡ none
    → cond {A = Reading ℕ} none (Ok (0, at)) (and_then (fraction 9 text at) (λ n next. point_behind n text next)) ≡ Err (Mismatch fault)
    → IsDead text at fault IsBehindPoint
digits_cases true text at fault none is = cc
digits_cases false text at fault none is =
    or_never text at fault IsPointed (λ own rest. (own ≡ []) × BeginsNoDigit rest)
    (behind_fault text at fault (faulted (fraction 9 text at) (λ n next. point_behind n text next) fault is))
    (digit_never text at (eqb-false (prefix_len is_ascii_digit (take 1 (drop at text))) 0 none))

point_cases : (there : Bool) (text : List ℕ) (at fault : ℕ) → stands 46 text at ≡ there
    → cond {A = Reading ℕ} there (cond {A = Reading ℕ} (prefix_len is_ascii_digit (take 1 (drop (at + 1) text)) == 0) (Ok (0, at + 1)) (and_then (fraction 9 text (at + 1)) (λ n next. point_behind n text next))) (Err (Mismatch at)) ≡ Err (Mismatch fault)
    → IsDead text at fault (λ own rest. (nanos : ℕ) × IsFractionPoint own rest nanos)
point_cases true text at fault there is =
    less_dead text at fault _ (λ own rest. (nanos : ℕ) × IsFractionPoint own rest nanos) point_of
    (deeper 46 text at fault IsBehindPoint (digits_cases (prefix_len is_ascii_digit (take 1 (drop (at + 1) text)) == 0) text (at + 1) fault refl is))
point_cases false text at fault there is =
    subst (λ place. IsDead text at place (λ own rest. (nanos : ℕ) × IsFractionPoint own rest nanos)) (same_place at fault is)
    (never_dead text at (λ own rest. (nanos : ℕ) × IsFractionPoint own rest nanos)
    (λ front x splits some more own rest begins f.
    let parts = point_of own rest f in other_byte 46 text at there front x splits some more own rest begins (parts.0, parts.1)))

pub fraction_point_dead : (text : List ℕ) (at fault : ℕ) → fraction_point text at ≡ Err (Mismatch fault)
    → IsDead text at fault (λ own rest. (nanos : ℕ) × IsFractionPoint own rest nanos)
fraction_point_dead text at fault is = point_cases (stands 46 text at) text at fault refl is

abbrev pub IsWord : List ℕ → List ℕ → List ℕ → Type 0
IsWord name own rest = own ≡ name

letter_cases : (there : Bool) (byte : ℕ) (name text : List ℕ) (at fault : ℕ) → stands byte text at ≡ there
    → cond {A = Reading ℤ} there (letters name text (at + 1)) (Err (Mismatch at)) ≡ Err (Mismatch fault)
    → (letters name text (at + 1) ≡ Err (Mismatch fault) → IsDead text (at + 1) fault (IsWord name)) → IsDead text at fault (IsWord (byte ∷ name))
letter_cases true byte name text at fault there is later =
    less_dead text at fault _ (IsWord (byte ∷ name)) (λ own rest own_is. (name, own_is, refl)) (deeper byte text at fault (IsWord name) (later is))
letter_cases false byte name text at fault there is later =
    subst (λ place. IsDead text at place (IsWord (byte ∷ name))) (same_place at fault is)
    (never_dead text at (IsWord (byte ∷ name))
    (λ front x splits some more own rest begins own_is. other_byte byte text at there front x splits some more own rest begins (name, own_is)))

letters_dead : (name text : List ℕ) (at fault : ℕ) → letters name text at ≡ Err (Mismatch fault) → IsDead text at fault (IsWord name)
letters_dead [] text at fault is = cc
letters_dead (byte ∷ name) text at fault is =
    letter_cases (stands byte text at) byte name text at fault refl is (λ later. letters_dead name text (at + 1) fault later)

word_never : (byte : ℕ) (name text : List ℕ) (at : ℕ) → stands byte text at ≡ false → NeverThere text at (IsWord (byte ∷ name))
word_never byte name text at other front x splits some more own rest begins own_is =
    other_byte byte text at other front x splits some more own rest begins (name, own_is)

gmt_of : (own rest : List ℕ) → ((offset : ℤ) × IsZoneName own offset) → IsWord (codes "GMT") own rest ⊎ IsWord (codes "UTC") own rest
gmt_of own rest (offset, (inl gmt, utc)) = inl gmt
gmt_of own rest (offset, (inr name, utc)) = inr name

utc_of : (own rest : List ℕ) → ((offset : ℤ) × IsZoneName own offset) → IsWord (codes "UTC") own rest ⊎ IsWord (codes "GMT") own rest
utc_of own rest (offset, (inl gmt, utc)) = inr gmt
utc_of own rest (offset, (inr name, utc)) = inl name

name_cases : (greenwich : Bool) (text : List ℕ) (at fault : ℕ) → stands 71 text at ≡ greenwich
    → cond greenwich (letters (codes "GMT") text at) (letters (codes "UTC") text at) ≡ Err (Mismatch fault)
    → IsDead text at fault (λ own rest. (offset : ℤ) × IsZoneName own offset)
name_cases true text at fault there is =
    less_dead text at fault _ (λ own rest. (offset : ℤ) × IsZoneName own offset) gmt_of
    (or_never text at fault (IsWord (codes "GMT")) (IsWord (codes "UTC")) (letters_dead (codes "GMT") text at fault is)
    (word_never 85 (84 ∷ 67 ∷ []) text at (another_byte 71 85 text at refl there)))
name_cases false text at fault there is =
    less_dead text at fault _ (λ own rest. (offset : ℤ) × IsZoneName own offset) utc_of
    (or_never text at fault (IsWord (codes "UTC")) (IsWord (codes "GMT")) (letters_dead (codes "UTC") text at fault is)
    (word_never 71 (77 ∷ 84 ∷ []) text at there))

pub zone_name_dead : (text : List ℕ) (at fault : ℕ) → zone_name text at ≡ Err (Mismatch fault)
    → IsDead text at fault (λ own rest. (offset : ℤ) × IsZoneName own offset)
zone_name_dead text at fault is = name_cases (stands 71 text at) text at fault refl is
