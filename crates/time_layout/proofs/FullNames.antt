-- Names of which none begins another: which of them a text begins with.
use Rattle.std.proofs.Common.{◌≡◌, ◌∙◌, sym, ap, refl, ℕ, suc, ◌+◌, ◌<◌, ◌≤◌, List, [], ◌∷◌, ◌++◌, length, take, drop, Bool, true, false, cond, ◌==◌, ◌&&◌, Option, Some, None, Ok, Err, ◌⊎◌, inl, inr, arith, append_assoc}
use Rattle.std.proofs.Math.Seq.{take-append-le, take-append_seam}
use Rattle.std.proofs.Math.ListN.{length-take}
use Rattle.std.proofs.lemmas.Bool.{eqb-true, cases_lt, false≢true}
use Rattle.std.specs.Char.{to_ascii_lowercase}
use Rattle.std.specs.Str.{str_eq_ignore_ascii_case}
use Rattle.case_table.specs.Rows.{Named, first_code}
use Rattle.case_table.specs.Tables.{month_name_table, day_name_table}
use Rattle.time_layout.specs.declared.fault.TimeFault.TheVariants.{Mismatch}
use Rattle.time_layout.specs.Atoms.{begins_with, begun, begun_or, full_name_at, reach}
use Rattle.time_layout.specs.Texts.{IsFullName}
use Rattle.time_layout.proofs.Completes.{front_whole}
use Rattle.time_layout.proofs.DeadEnds.{IsDead, same_place}
use Rattle.time_layout.proofs.DeadForms.{front_behind}
use Rattle.time_layout.proofs.DeadNames.{named_reach}
use Rattle.time_layout.proofs.Sounds.{Between, both, cut, same_value, same_next}

pub same_length : (own name : List ℕ) → str_eq_ignore_ascii_case own name ≡ true → length own ≡ length name
same_length [] [] same = refl
same_length [] (letter ∷ name) same = absurd (false≢true same)
same_length (byte ∷ own) [] same = absurd (false≢true same)
same_length (byte ∷ own) (letter ∷ name) same =
    let tests = both (to_ascii_lowercase byte == to_ascii_lowercase letter) (str_eq_ignore_ascii_case own name) same in
    ap suc (same_length own name tests.1)

-- two names part before either ends, in any case
abbrev pub parts_early : List ℕ → List ℕ → Bool
parts_early [] other = false
parts_early (letter ∷ name) [] = false
parts_early (letter ∷ name) (byte ∷ other) = cond (to_ascii_lowercase byte == to_ascii_lowercase letter) (parts_early name other) true

not_first : (a b : Bool) → a ≡ false → a && b ≡ false
not_first true b is = cc
not_first false b is = refl

not_second : (a b : Bool) → b ≡ false → a && b ≡ false
not_second true b is = is
not_second false b is = refl

letter_cases : (same : Bool) (letter byte mine : ℕ) (early rest : Bool) → (to_ascii_lowercase byte == to_ascii_lowercase letter) ≡ same
    → cond same early true ≡ true → to_ascii_lowercase mine ≡ to_ascii_lowercase byte → (early ≡ true → rest ≡ false)
    → (to_ascii_lowercase mine == to_ascii_lowercase letter) && rest ≡ false
letter_cases true letter byte mine early rest is parts mine_is later = not_second (to_ascii_lowercase mine == to_ascii_lowercase letter) rest (later parts)
letter_cases false letter byte mine early rest is parts mine_is later =
    not_first (to_ascii_lowercase mine == to_ascii_lowercase letter) rest (ap (λ n. n == to_ascii_lowercase letter) mine_is ∙ is)

-- a text of one of them doesn't begin with the other
not_begun : (name other own rest : List ℕ) → parts_early name other ≡ true → str_eq_ignore_ascii_case own other ≡ true → begins_with (own ++ rest) name ≡ false
not_begun [] other own rest early same = absurd (false≢true early)
not_begun (letter ∷ name) [] own rest early same = absurd (false≢true early)
not_begun (letter ∷ name) (byte ∷ other) [] rest early same = absurd (false≢true same)
not_begun (letter ∷ name) (byte ∷ other) (mine ∷ own) rest early same =
    let tests = both (to_ascii_lowercase mine == to_ascii_lowercase byte) (str_eq_ignore_ascii_case own other) same in
    letter_cases (to_ascii_lowercase byte == to_ascii_lowercase letter) letter byte mine (parts_early name other) (begins_with (own ++ rest) name) refl early
    (eqb-true (to_ascii_lowercase mine) (to_ascii_lowercase byte) tests.0) (λ later. not_begun name other own rest later tests.1)

abbrev pub apart_from : List ℕ → List Named → Bool
apart_from name [] = true
apart_from name (row ∷ rows) = parts_early name row.0 && apart_from name rows

-- no name begins another
abbrev pub are_apart : List Named → Bool
are_apart [] = true
are_apart (row ∷ rows) = apart_from row.0 rows && are_apart rows

pub months_apart : are_apart month_name_table ≡ true
months_apart = refl

pub days_apart : are_apart day_name_table ≡ true
days_apart = refl

others_cases : (found : Bool) (name own rest : List ℕ) (row : Named) (rows : List Named) (code : ℕ) → str_eq_ignore_ascii_case own row.0 ≡ found
    → parts_early name row.0 ≡ true → cond found (Some row.1) (first_code (str_eq_ignore_ascii_case own) rows) ≡ Some code
    → (first_code (str_eq_ignore_ascii_case own) rows ≡ Some code → begins_with (own ++ rest) name ≡ false) → begins_with (own ++ rest) name ≡ false
others_cases true name own rest row rows code same early is later = not_begun name row.0 own rest early same
others_cases false name own rest row rows code same early is later = later is

-- a text of one of the others doesn't begin with the name
others_begin : (name own rest : List ℕ) (rows : List Named) (code : ℕ) → apart_from name rows ≡ true → first_code (str_eq_ignore_ascii_case own) rows ≡ Some code
    → begins_with (own ++ rest) name ≡ false
others_begin name own rest [] code apart is = cc
others_begin name own rest (row ∷ rows) code apart is =
    let tests = both (parts_early name row.0) (apart_from name rows) apart in
    others_cases (str_eq_ignore_ascii_case own row.0) name own rest row rows code refl tests.0 is (λ later. others_begin name own rest rows code tests.1 later)

code_or : ℕ → Option ℕ → ℕ
code_or n None = n
code_or n (Some code) = code

some_is : (a b : ℕ) → Some a ≡ Some b → a ≡ b
unfolding code_or
some_is a b is = ap (code_or a) is

begun_cases : (found : Bool) (own rest : List ℕ) (row : Named) (rows : List Named) (code : ℕ) → str_eq_ignore_ascii_case own row.0 ≡ found
    → apart_from row.0 rows ≡ true → cond found (Some row.1) (first_code (str_eq_ignore_ascii_case own) rows) ≡ Some code
    → (first_code (str_eq_ignore_ascii_case own) rows ≡ Some code → begun rows (own ++ rest) ≡ Some (code, length own))
    → cond (begins_with (own ++ rest) row.0) (Some (row.1, length row.0)) (begun rows (own ++ rest)) ≡ Some (code, length own)
begun_cases true own rest row rows code same apart is later =
    let size : length own ≡ length row.0 = same_length own row.0 same in
    let begins : begins_with (own ++ rest) row.0 ≡ true =
    ap (λ bytes. str_eq_ignore_ascii_case bytes row.0) (front_whole own rest (length row.0) size) ∙ same in
    let code_is : row.1 ≡ code = some_is row.1 code is in
    rw begins (ap (λ n. Some (n, length row.0)) code_is ∙ ap (λ n. Some (code, n)) (sym size))
begun_cases false own rest row rows code same apart is later =
    rw (others_begin row.0 own rest rows code apart is) (later is)

-- a text that begins with one of the names
pub begins_with_name : (table : List Named) (own rest : List ℕ) (code : ℕ) → are_apart table ≡ true → IsFullName table own code
    → begun table (own ++ rest) ≡ Some (code, length own)
begins_with_name [] own rest code apart is = cc
begins_with_name (row ∷ rows) own rest code apart is =
    let tests = both (apart_from row.0 rows) (are_apart rows) apart in
    begun_cases (str_eq_ignore_ascii_case own row.0) own rest row rows code refl tests.0 is (λ later. begins_with_name rows own rest code tests.1 later)

-- what a text begins with is one of the names
pub record IsBegun (table : List Named) (bytes : List ℕ) (code size : ℕ) : Type 0 where
  pub few : size ≤ length bytes
  pub named : IsFullName table (take size bytes) code

own_cases : (same : Bool) (row : Named) (rows : List Named) (bytes : List ℕ) (code size : ℕ) → str_eq_ignore_ascii_case (take size bytes) row.0 ≡ same
    → begins_with bytes row.0 ≡ false → IsBegun rows bytes code size
    → cond same (Some row.1) (first_code (str_eq_ignore_ascii_case (take size bytes)) rows) ≡ Some code
own_cases true row rows bytes code size same none b =
    let long : length row.0 ≡ size = omega (arith, same_length (take size bytes) row.0 same, length-take size bytes, b.few) in
    absurd (false≢true (sym none ∙ ap (λ n. str_eq_ignore_ascii_case (take n bytes) row.0) long ∙ same))
own_cases false row rows bytes code size same none b = b.named

first_or : ℕ → Option (ℕ × ℕ) → ℕ
first_or n None = n
first_or n (Some pair) = pair.0

second_or : ℕ → Option (ℕ × ℕ) → ℕ
second_or n None = n
second_or n (Some pair) = pair.1

first_is : (a b m n : ℕ) → ◌≡◌ {A = Option (ℕ × ℕ)} (Some (a, m)) (Some (b, n)) → a ≡ b
unfolding first_or
first_is a b m n is = ap (first_or a) is

second_is : (a b m n : ℕ) → ◌≡◌ {A = Option (ℕ × ℕ)} (Some (a, m)) (Some (b, n)) → m ≡ n
unfolding second_or
second_is a b m n is = ap (second_or m) is

there_cases : (there : Bool) (row : Named) (rows : List Named) (bytes : List ℕ) (code size : ℕ) → begins_with bytes row.0 ≡ there
    → cond there (Some (row.1, length row.0)) (begun rows bytes) ≡ Some (code, size) → (begun rows bytes ≡ Some (code, size) → IsBegun rows bytes code size)
    → IsBegun (row ∷ rows) bytes code size
there_cases true row rows bytes code size begins is later =
    let code_is : row.1 ≡ code = first_is row.1 code (length row.0) size is in
    let size_is : length row.0 ≡ size = second_is row.1 code (length row.0) size is in
    let long = same_length (take (length row.0) bytes) row.0 begins in
    record {
      few = omega (arith, long, length-take (length row.0) bytes);
      named = rw (← size_is, begins) (ap Some code_is);
    }
there_cases false row rows bytes code size begins is later =
    let b = later is in
    record { few = b.few; named = own_cases (str_eq_ignore_ascii_case (take size bytes) row.0) row rows bytes code size refl begins b }

pub is_begun : (table : List Named) (bytes : List ℕ) (code size : ℕ) → begun table bytes ≡ Some (code, size) → IsBegun table bytes code size
is_begun [] bytes code size is = cc
is_begun (row ∷ rows) bytes code size is =
    there_cases (begins_with bytes row.0) row rows bytes code size refl is (λ later. is_begun rows bytes code size later)

pub full_name_reads : (table : List Named) (at code : ℕ) (text own rest : List ℕ) → are_apart table ≡ true → drop at text ≡ own ++ rest → IsFullName table own code
    → full_name_at table text at ≡ Ok (code, at + length own)
unfolding full_name_at
full_name_reads table at code text own rest apart is name =
    rw (ap (begun table) is ∙ begins_with_name table own rest code apart name) refl

name_cases : (found : Option (ℕ × ℕ)) (at fault code next : ℕ) → begun_or found at fault ≡ Ok (code, next)
    → (size : ℕ) × (found ≡ Some (code, size)) × (next ≡ at + size)
name_cases None at fault code next is = cc
name_cases (Some name) at fault code next is =
    (name.1, ap (λ n. Some (n, name.1)) (same_value name.0 code (at + name.1) next is), sym (same_next name.0 code (at + name.1) next is))

pub full_name_sound : (table : List Named) (text : List ℕ) (at code next : ℕ) → full_name_at table text at ≡ Ok (code, next)
    → Between text at next (λ own. IsFullName table own code)
unfolding full_name_at
full_name_sound table text at code next is =
    let found = name_cases (begun table (drop at text)) at (at + reach table (drop at text)) code next is in
    let b = is_begun table (drop at text) code found.0 found.1 in
    record {
      own = take found.0 (drop at text);
      splits = cut found.0 at text ∙ ap (λ place. take found.0 (drop at text) ++ drop place text) (sym found.2);
      size = omega (arith, found.2, b.few, length-take found.0 (drop at text));
      holds = b.named;
    }

pub fault_cases : (found : Option (ℕ × ℕ)) (at place fault : ℕ) → begun_or found at place ≡ Err (Mismatch fault) → (found ≡ None) × (place ≡ fault)
fault_cases None at place fault is = (refl, same_place place fault is)
fault_cases (Some name) at place fault is = cc

name_front : (table : List Named) (bytes front x more own rest : List ℕ) (code : ℕ) → are_apart table ≡ true → bytes ≡ front ++ x → length front ≡ reach table bytes + 1
    → begun table bytes ≡ None → front ++ more ≡ own ++ rest → IsFullName table own code → (length own < length front) ⊎ (length front ≤ length own) → ⊥
name_front table bytes front x more own rest code apart splits long none is name (inl inside) =
    let mine = front_behind front more own rest is (omega arith) in
    let whole : bytes ≡ own ++ (drop (length own) front ++ x) =
    splits ∙ ap (λ f. f ++ x) mine.0 ∙ append_assoc own (drop (length own) front) x in
    let found : begun table bytes ≡ Some (code, length own) = ap (begun table) whole ∙ begins_with_name table own (drop (length own) front ++ x) code apart name in
    let never : None ≡ Some (code, length own) = sym none ∙ found in cc
name_front table bytes front x more own rest code apart splits long none is name (inr past) =
    let k : ℕ = length front in
    let part : front ≡ take k own = sym (take-append_seam front more) ∙ ap (take k) is ∙ take-append-le k own rest past in
    let far : k ≤ reach table (take k own ++ x) = named_reach table own x k code name past in
    let same : reach table (take k own ++ x) ≡ reach table bytes = ap (λ f. reach table (f ++ x)) (sym part) ∙ ap (reach table) (sym splits) in
    omega arith

pub full_name_dead : (table : List Named) (text : List ℕ) (at fault : ℕ) → are_apart table ≡ true → full_name_at table text at ≡ Err (Mismatch fault)
    → IsDead text at fault (λ own rest. (code : ℕ) × IsFullName table own code)
unfolding full_name_at
full_name_dead table text at fault apart is =
    let test = fault_cases (begun table (drop at text)) at (at + reach table (drop at text)) fault is in (
      omega (arith, test.1),
      inl (λ front x splits long more own rest begins name.
          name_front table (drop at text) front x more own rest name.0 apart splits (omega (arith, test.1)) test.0 begins name.1 (cases_lt (length own) (length front))),
    )
