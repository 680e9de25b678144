-- What is read as a fraction behind a point or as a zone's name is a text of it.
use Rattle.std.proofs.Common.{◌≡◌, ◌∙◌, sym, ap, refl, subst, ℕ, ◌+◌, ◌-◌, ◌*◌, ◌^◌, List, [], ◌∷◌, ◌++◌, take, drop, codes, Bool, true, false, cond, ◌==◌, Ok, Err, ℤ, pos, inl, inr, arith, append_assoc}
use Rattle.std.proofs.Math.ListN.{length-append}
use Rattle.std.proofs.lemmas.Bool.{eqb-true}
use Rattle.std.specs.Char.{is_ascii_digit}
use Rattle.std.specs.List.{prefix_len}
use Rattle.time_layout.specs.declared.fault.TimeFault.TheVariants.{Mismatch}
use Rattle.time_layout.specs.Atoms.{Reading, and_then, stands, number, fraction, fixed_fraction, point_behind, fraction_point, letters, zone_name}
use Rattle.time_layout.specs.Texts.{BeginsNoDigit, IsNumber, IsFraction, IsFixedFraction, IsFractionPoint, IsZoneName}
use Rattle.time_layout.proofs.Sounds.{Between, opened, same_value, same_next, standing, wider, weaker, number_sound, fraction_sound}

fixed_cases : (there : Bool) (digits : ℕ) (text : List ℕ) (at nanos next : ℕ) → stands 46 text at ≡ there
    → cond {A = Reading ℕ} there (and_then (number digits 0 999_999_999 text (at + 1)) (λ value end. Ok (value * 10 ^ (9 - digits), end))) (Err (Mismatch at)) ≡ Ok (nanos, next)
    → Between text at next (λ own. IsFixedFraction digits own nanos)
fixed_cases true digits text at nanos next there is =
    let o = opened (number digits 0 999_999_999 text (at + 1)) (λ value end. Ok (value * 10 ^ (9 - digits), end)) nanos next is in
    let ends : o.next ≡ next = same_next (o.value * 10 ^ (9 - digits)) nanos o.next next o.then in
    let nanos_are : nanos ≡ o.value * 10 ^ (9 - digits) = sym (same_value (o.value * 10 ^ (9 - digits)) nanos o.next next o.then) in
    let read : number digits 0 999_999_999 text (at + 1) ≡ Ok (o.value, next) = o.read ∙ ap (λ end. Ok (o.value, end)) ends in
    wider text at next 46 (λ own. IsNumber digits 0 999_999_999 own o.value) (λ own. IsFixedFraction digits own nanos) (standing 46 at text there)
    (λ own holds. record { behind = own; value = o.value; is = refl; number = holds; nanos_are = nanos_are })
    (number_sound digits 0 999_999_999 text (at + 1) o.value next read)
fixed_cases false digits text at nanos next there is = cc

pub fixed_fraction_sound : (digits : ℕ) (text : List ℕ) (at nanos next : ℕ) → fixed_fraction digits text at ≡ Ok (nanos, next)
    → Between text at next (λ own. IsFixedFraction digits own nanos)
fixed_fraction_sound digits text at nanos next is = fixed_cases (stands 46 text at) digits text at nanos next refl is

still_none : (test : Bool) (n : ℕ) → cond {A = ℕ} test (1 + 0) 0 ≡ 0 → cond {A = ℕ} test (1 + n) 0 ≡ 0
still_none true n none = absurd (omega arith)
still_none false n none = refl

pub none_first : (bytes : List ℕ) → prefix_len is_ascii_digit (take 1 bytes) ≡ 0 → BeginsNoDigit bytes
none_first [] none = refl
none_first (byte ∷ bytes) none = still_none (is_ascii_digit byte) (prefix_len is_ascii_digit bytes) none

behind_cases : (there : Bool) (nanos n : ℕ) (text : List ℕ) (at next : ℕ) → stands 46 text at ≡ there
    → cond {A = Reading ℕ} there (Ok (n, at + 1)) (Err (Mismatch at)) ≡ Ok (nanos, next)
    → (n ≡ nanos) × (at + 1 ≡ next) × (drop at text ≡ 46 ∷ drop (at + 1) text)
behind_cases true nanos n text at next there is = (same_value n nanos (at + 1) next is, same_next n nanos (at + 1) next is, standing 46 at text there)
behind_cases false nanos n text at next there is = cc

digits_cases : (none : Bool) (text : List ℕ) (at nanos next : ℕ) → stands 46 text at ≡ true → (prefix_len is_ascii_digit (take 1 (drop (at + 1) text)) == 0) ≡ none
    → cond {A = Reading ℕ} none (Ok (0, at + 1)) (and_then (fraction 9 text (at + 1)) (λ n end. point_behind n text end)) ≡ Ok (nanos, next)
    → Between text at next (λ own. IsFractionPoint own (drop next text) nanos)
digits_cases true text at nanos next there none is =
    let ends : at + 1 ≡ next = same_next 0 nanos (at + 1) next is in
    let begins : BeginsNoDigit (drop (at + 1) text) =
    none_first (drop (at + 1) text) (eqb-true (prefix_len is_ascii_digit (take 1 (drop (at + 1) text))) 0 none) in
    record {
      own = 46 ∷ [];
      splits = standing 46 at text there ∙ ap (λ place. 46 ∷ drop place text) ends;
      size = sym ends;
      holds = inl (refl, ap (λ place. prefix_len is_ascii_digit (drop place text)) (sym ends) ∙ begins, sym (same_value 0 nanos (at + 1) next is));
    }
digits_cases false text at nanos next there none is =
    let o = opened (fraction 9 text (at + 1)) (λ n end. point_behind n text end) nanos next is in
    let point = behind_cases (stands 46 text o.next) nanos o.value text o.next next refl o.then in
    let f = fraction_sound 9 text (at + 1) o.value o.next o.read in
    let after : drop o.next text ≡ 46 ∷ drop next text = point.2 ∙ ap (λ place. 46 ∷ drop place text) point.1 in
    let holds : IsFraction 9 f.own (46 ∷ drop next text) nanos =
    subst (λ n. IsFraction 9 f.own (46 ∷ drop next text) n) point.0 (subst (λ rest. IsFraction 9 f.own rest o.value) after f.holds) in
    record {
      own = 46 ∷ (f.own ++ 46 ∷ []);
      splits = standing 46 at text there ∙ ap (λ rest. 46 ∷ rest) (f.splits ∙ ap (λ rest. f.own ++ rest) after ∙ sym (append_assoc f.own (46 ∷ []) (drop next text)));
      size = omega (arith, f.size, point.1, length-append f.own (46 ∷ []));
      holds = inr (f.own, refl, holds);
    }

point_cases : (there : Bool) (text : List ℕ) (at nanos next : ℕ) → stands 46 text at ≡ there
    → cond {A = Reading ℕ} there (cond {A = Reading ℕ} (prefix_len is_ascii_digit (take 1 (drop (at + 1) text)) == 0) (Ok (0, at + 1)) (and_then (fraction 9 text (at + 1)) (λ n end. point_behind n text end))) (Err (Mismatch at)) ≡ Ok (nanos, next)
    → Between text at next (λ own. IsFractionPoint own (drop next text) nanos)
point_cases true text at nanos next there is = digits_cases (prefix_len is_ascii_digit (take 1 (drop (at + 1) text)) == 0) text at nanos next there refl is
point_cases false text at nanos next there is = cc

pub fraction_point_sound : (text : List ℕ) (at nanos next : ℕ) → fraction_point text at ≡ Ok (nanos, next)
    → Between text at next (λ own. IsFractionPoint own (drop next text) nanos)
fraction_point_sound text at nanos next is = point_cases (stands 46 text at) text at nanos next refl is

letter_cases : (there : Bool) (byte : ℕ) (name text : List ℕ) (at : ℕ) (value : ℤ) (next : ℕ) → stands byte text at ≡ there
    → cond {A = Reading ℤ} there (letters name text (at + 1)) (Err (Mismatch at)) ≡ Ok (value, next)
    → (letters name text (at + 1) ≡ Ok (value, next) → Between text (at + 1) next (λ own. (own ≡ name) × (value ≡ pos 0)))
    → Between text at next (λ own. (own ≡ byte ∷ name) × (value ≡ pos 0))
letter_cases true byte name text at value next there is later =
    wider text at next byte (λ own. (own ≡ name) × (value ≡ pos 0)) (λ own. (own ≡ byte ∷ name) × (value ≡ pos 0)) (standing byte at text there)
    (λ own holds. (ap (λ bytes. byte ∷ bytes) holds.0, holds.1)) (later is)
letter_cases false byte name text at value next there is later = cc

pub letters_sound : (name text : List ℕ) (at : ℕ) (value : ℤ) (next : ℕ) → letters name text at ≡ Ok (value, next)
    → Between text at next (λ own. (own ≡ name) × (value ≡ pos 0))
letters_sound [] text at value next is = record {
  own = [];
  splits = ap (λ place. drop place text) (same_next (pos 0) value at next is);
  size = omega (arith, same_next (pos 0) value at next is);
  holds = (refl, sym (same_value (pos 0) value at next is));
}
letters_sound (byte ∷ name) text at value next is =
    letter_cases (stands byte text at) byte name text at value next refl is (λ later. letters_sound name text (at + 1) value next later)

name_cases : (greenwich : Bool) (text : List ℕ) (at : ℕ) (value : ℤ) (next : ℕ)
    → cond greenwich (letters (codes "GMT") text at) (letters (codes "UTC") text at) ≡ Ok (value, next)
    → Between text at next (λ own. IsZoneName own value)
name_cases true text at value next is =
    weaker text at next _ (λ own. IsZoneName own value) (λ own splits holds. (inl holds.0, holds.1)) (letters_sound (codes "GMT") text at value next is)
name_cases false text at value next is =
    weaker text at next _ (λ own. IsZoneName own value) (λ own splits holds. (inr holds.0, holds.1)) (letters_sound (codes "UTC") text at value next is)

pub zone_name_sound : (text : List ℕ) (at : ℕ) (value : ℤ) (next : ℕ) → zone_name text at ≡ Ok (value, next)
    → Between text at next (λ own. IsZoneName own value)
zone_name_sound text at value next is = name_cases (stands 71 text at) text at value next is
