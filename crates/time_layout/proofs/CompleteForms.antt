-- Texts of fractions behind points and of zones' names are read as them.
use Rattle.std.proofs.Common.{◌≡◌, ◌∙◌, sym, ap, refl, ℕ, ◌+◌, ◌≤◌, List, [], ◌∷◌, ◌++◌, length, take, drop, codes, Bool, cond, true, false, Ok, ℤ, pos, inl, inr, arith, append_assoc, eq-eqb}
use Rattle.std.proofs.Math.ListN.{length-append}
use Rattle.std.specs.Char.{is_ascii_digit}
use Rattle.std.specs.List.{prefix_len}
use Rattle.time_layout.specs.Atoms.{Reading, stands, fixed_fraction, fraction_point, letters, zone_name}
use Rattle.time_layout.specs.Texts.{AreDigits, IsFixedFraction, IsFractionPoint, IsZoneName}
use Rattle.time_layout.proofs.Completes.{stands_is, behind, behind_one, number_reads, fraction_reads, none_in_front, first_passes}

pub fixed_fraction_reads : (digits at nanos : ℕ) (text own rest : List ℕ) → drop at text ≡ own ++ rest → IsFixedFraction digits own nanos
    → fixed_fraction digits text at ≡ Ok (nanos, at + length own)
fixed_fraction_reads digits at nanos text own rest is f =
    let begins : drop at text ≡ 46 ∷ (f.behind ++ rest) = is ∙ ap (λ bytes. bytes ++ rest) f.is in
    let number = number_reads digits 0 999_999_999 (at + 1) f.value text f.behind rest (behind_one at text 46 (f.behind ++ rest) begins) f.number in
    let size : at + 1 + length f.behind ≡ at + length own = omega (arith, ap length f.is) in
    rw (stands_is 46 at text 46 (f.behind ++ rest) begins, number)
    (ap (λ n. Ok (n, at + 1 + length f.behind)) (sym f.nanos_are) ∙ ap (λ next. Ok (nanos, next)) size)

one_passes : (first n : ℕ) → is_ascii_digit first ≡ true → cond {A = ℕ} (is_ascii_digit first) (1 + n) 0 ≡ 1 + n
one_passes first n is = rw is refl

pub digit_first : (own rest : List ℕ) → AreDigits own → 1 ≤ length own → prefix_len is_ascii_digit (take 1 (own ++ rest)) ≡ 1
digit_first [] rest all some = absurd (omega arith)
digit_first (first ∷ own) rest all some =
    one_passes first 0 (first_passes (is_ascii_digit first) (prefix_len is_ascii_digit own) (length own) all)

pub fraction_point_reads : (at nanos : ℕ) (text own rest : List ℕ) → drop at text ≡ own ++ rest → IsFractionPoint own rest nanos
    → fraction_point text at ≡ Ok (nanos, at + length own)
fraction_point_reads at nanos text own rest is (inl point) =
    let begins : drop at text ≡ 46 ∷ rest = is ∙ ap (λ bytes. bytes ++ rest) point.0 in
    let none : prefix_len is_ascii_digit (take 1 (drop (at + 1) text)) ≡ 0 =
    ap (λ bytes. prefix_len is_ascii_digit (take 1 bytes)) (behind_one at text 46 rest begins) ∙ none_in_front 1 rest point.1 in
    let size : at + 1 ≡ at + length own = omega (arith, ap length point.0) in
    rw (stands_is 46 at text 46 rest begins, none) (ap (λ n. Ok (n, at + 1)) (sym point.2) ∙ ap (λ next. Ok (nanos, next)) size)
fraction_point_reads at nanos text own rest is (inr both) =
    let begins : drop at text ≡ 46 ∷ (both.0 ++ 46 ∷ rest) =
    is ∙ ap (λ bytes. bytes ++ rest) both.1 ∙ ap (λ bytes. 46 ∷ bytes) (append_assoc both.0 (46 ∷ []) rest) in
    let after : drop (at + 1) text ≡ both.0 ++ 46 ∷ rest = behind_one at text 46 (both.0 ++ 46 ∷ rest) begins in
    let some : prefix_len is_ascii_digit (take 1 (drop (at + 1) text)) ≡ 1 =
    ap (λ bytes. prefix_len is_ascii_digit (take 1 bytes)) after ∙ digit_first both.0 (46 ∷ rest) both.2.all both.2.some in
    let read = fraction_reads 9 (at + 1) nanos text both.0 (46 ∷ rest) after both.2 in
    let point = stands_is 46 (at + 1 + length both.0) text 46 rest (behind (at + 1) text both.0 (46 ∷ rest) after) in
    let size : at + 1 + length both.0 + 1 ≡ at + length own = omega (arith, ap length both.1, length-append both.0 (46 ∷ [])) in
    rw (stands_is 46 at text 46 (both.0 ++ 46 ∷ rest) begins, some, read, point) (ap (λ next. Ok (nanos, next)) size)

pub letters_read : (name : List ℕ) (at : ℕ) (text rest : List ℕ) → drop at text ≡ name ++ rest → letters name text at ≡ Ok (pos 0, at + length name)
letters_read [] at text rest is = ap (λ next. Ok (pos 0, next)) (omega arith)
letters_read (byte ∷ name) at text rest is =
    rw (stands_is byte at text byte (name ++ rest) is, eq-eqb byte byte refl)
    (letters_read name (at + 1) text rest (behind_one at text byte (name ++ rest) is) ∙ ap (λ next. Ok (pos 0, next)) (omega arith))

named : (name : List ℕ) (at : ℕ) (offset : ℤ) (text own rest : List ℕ) → drop at text ≡ name ++ rest → own ≡ name → offset ≡ pos 0
    → letters name text at ≡ Ok (offset, at + length own)
named name at offset text own rest begins own_is utc =
    letters_read name at text rest begins ∙ ap (λ n. Ok (n, at + length name)) (sym utc) ∙ ap (λ bytes. Ok (offset, at + length bytes)) (sym own_is)

pick_first : (test : Bool) (a b : Reading ℤ) → test ≡ true → cond {A = Reading ℤ} test a b ≡ a
pick_first test a b is = rw is refl

pick_second : (test : Bool) (a b : Reading ℤ) → test ≡ false → cond {A = Reading ℤ} test a b ≡ b
pick_second test a b is = rw is refl

pub zone_name_reads : (at : ℕ) (offset : ℤ) (text own rest : List ℕ) → drop at text ≡ own ++ rest → IsZoneName own offset
    → zone_name text at ≡ Ok (offset, at + length own)
zone_name_reads at offset text own rest is (inl gmt, utc) =
    let begins : drop at text ≡ codes "GMT" ++ rest = is ∙ ap (λ bytes. bytes ++ rest) gmt in
    pick_first (stands 71 text at) (letters (codes "GMT") text at) (letters (codes "UTC") text at) (stands_is 71 at text 71 (77 ∷ 84 ∷ rest) begins)
    ∙ named (codes "GMT") at offset text own rest begins gmt utc
zone_name_reads at offset text own rest is (inr name, utc) =
    let begins : drop at text ≡ codes "UTC" ++ rest = is ∙ ap (λ bytes. bytes ++ rest) name in
    pick_second (stands 71 text at) (letters (codes "GMT") text at) (letters (codes "UTC") text at) (stands_is 71 at text 85 (84 ∷ 67 ∷ rest) begins)
    ∙ named (codes "UTC") at offset text own rest begins name utc
