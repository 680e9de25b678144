-- Where no name can be read, the bytes before the place begin one.
use Rattle.std.proofs.Common.{◌≡◌, ◌∙◌, sym, ap, refl, ℕ, suc, ◌+◌, ◌-◌, ◌<◌, ◌≤◌, List, [], ◌∷◌, ◌++◌, length, take, drop, Bool, true, false, cond, ◌==◌, ◌&&◌, Option, Some, Err, ◌⊎◌, inl, inr, arith, eq-eqb, eqb}
use Rattle.std.proofs.Math.ListN.{length-drop}
use Rattle.std.proofs.lemmas.Bool.{eqb-true, cases_lt}
use Rattle.std.specs.Char.{to_ascii_lowercase, eq_ignore_ascii_case}
use Rattle.std.specs.Str.{str_eq_ignore_ascii_case}
use Rattle.case_table.specs.Rows.{Named, first_code}
use Rattle.time_layout.specs.declared.fault.TimeFault.TheVariants.{Mismatch}
use Rattle.time_layout.specs.Atoms.{begun, code_at, common_fold, full_name_at, name_at, reach}
use Rattle.time_layout.specs.Texts.{IsFullName, IsName}
use Rattle.time_layout.proofs.Begun.{BeginsUpTo}
use Rattle.time_layout.proofs.DeadNames.{name_fault_cases}
use Rattle.time_layout.proofs.FullNames.{fault_cases, same_length}

one_letter : (mine letter : ℕ) (rest : Bool) → to_ascii_lowercase mine ≡ to_ascii_lowercase letter → rest ≡ true
    → (to_ascii_lowercase mine == to_ascii_lowercase letter) && rest ≡ true
one_letter mine letter rest same is = rw (eq-eqb (to_ascii_lowercase mine) (to_ascii_lowercase letter) same) is

same_name : (name : List ℕ) → str_eq_ignore_ascii_case name name ≡ true
same_name [] = refl
same_name (letter ∷ name) = one_letter letter letter (str_eq_ignore_ascii_case name name) refl (same_name name)

mixed_cases : (same : Bool) (letter byte common : ℕ) (name text : List ℕ) → eq_ignore_ascii_case letter byte ≡ same
    → str_eq_ignore_ascii_case (take common text ++ drop common name) name ≡ true
    → str_eq_ignore_ascii_case (take (cond same (1 + common) 0) (byte ∷ text) ++ drop (cond same (1 + common) 0) (letter ∷ name)) (letter ∷ name) ≡ true
mixed_cases true letter byte common name text same rest =
    let more : 1 + common ≡ suc common = omega arith in
    rw more (one_letter byte letter (str_eq_ignore_ascii_case (take common text ++ drop common name) name)
    (sym (eqb-true (to_ascii_lowercase letter) (to_ascii_lowercase byte) same)) rest)
mixed_cases false letter byte common name text other rest = same_name (letter ∷ name)

-- what a text and a name have in common, with the rest of the name
mixed : (name text : List ℕ) → str_eq_ignore_ascii_case (take (common_fold name text) text ++ drop (common_fold name text) name) name ≡ true
mixed [] [] = refl
mixed [] (byte ∷ text) = refl
mixed (letter ∷ name) [] = same_name (letter ∷ name)
mixed (letter ∷ name) (byte ∷ text) =
    mixed_cases (eq_ignore_ascii_case letter byte) letter byte (common_fold name text) name text refl (mixed name text)

within_cases : (same : Bool) (common size : ℕ) → common ≤ size → cond {A = ℕ} same (1 + common) 0 ≤ suc size
within_cases true common size few = omega arith
within_cases false common size few = omega arith

-- and that is no longer than the text
common_within : (name text : List ℕ) → common_fold name text ≤ length text
common_within [] [] = omega arith
common_within [] (byte ∷ text) = omega arith
common_within (letter ∷ name) [] = omega arith
common_within (letter ∷ name) (byte ∷ text) =
    within_cases (eq_ignore_ascii_case letter byte) (common_fold name text) (length text) (common_within name text)

-- in any case it's one of the names
abbrev pub IsListed : List Named → List ℕ → Type 0
IsListed table name = (own : List ℕ) → str_eq_ignore_ascii_case own name ≡ true → (code : ℕ) × (first_code (str_eq_ignore_ascii_case own) table ≡ Some code)

found_here : (found : Bool) (code : ℕ) (rest : Option ℕ) → found ≡ true → (n : ℕ) × (cond found (Some code) rest ≡ Some n)
found_here found code rest is = (code, rw is refl)

found_later : (found : Bool) (code other : ℕ) (rest : Option ℕ) → rest ≡ Some other → (n : ℕ) × (cond found (Some code) rest ≡ Some n)
found_later true code other rest is = (code, refl)
found_later false code other rest is = (other, is)

-- so long is each name
abbrev pub are_long : ℕ → List Named → Bool
are_long size [] = true
are_long size (row ∷ rows) = eqb (length row.0) size && are_long size rows

-- a name with which the text has as much in common as with any
pub record Nearest (table : List Named) (text : List ℕ) : Type 0 where
  pub name : List ℕ
  pub common : common_fold name text ≡ reach table text
  pub listed : IsListed table name
  pub long : (size : ℕ) → are_long size table ≡ true → length name ≡ size

both_hold : (a b : Bool) → a && b ≡ true → (a ≡ true) × (b ≡ true)
both_hold true b is = (refl, is)
both_hold false b is = cc

nearer : (row : Named) (rows : List Named) (text : List ℕ) → Nearest rows text
    → (common_fold row.0 text < reach rows text) ⊎ (reach rows text ≤ common_fold row.0 text) → Nearest (row ∷ rows) text
nearer row rows text rest (inl less) = record {
  name = rest.name;
  common = omega (arith, rest.common);
  listed = λ own same. let later = rest.listed own same in found_later (str_eq_ignore_ascii_case own row.0) row.1 later.0 (first_code (str_eq_ignore_ascii_case own) rows) later.1;
  long = λ size is. rest.long size (both_hold (eqb (length row.0) size) (are_long size rows) is).1;
}
nearer row rows text rest (inr most) = record {
  name = row.0;
  common = omega arith;
  listed = λ own same. found_here (str_eq_ignore_ascii_case own row.0) row.1 (first_code (str_eq_ignore_ascii_case own) rows) same;
  long = λ size is. eqb-true (length row.0) size (both_hold (eqb (length row.0) size) (are_long size rows) is).0;
}

nearest : (row : Named) (rows : List Named) (text : List ℕ) → Nearest (row ∷ rows) text
nearest row [] text = record {
  name = row.0;
  common = omega arith;
  listed = λ own same. found_here (str_eq_ignore_ascii_case own row.0) row.1 (first_code (str_eq_ignore_ascii_case own) []) same;
  long = λ size is. eqb-true (length row.0) size (both_hold (eqb (length row.0) size) true is).0;
}
nearest row (other ∷ rows) text =
    nearer row (other ∷ rows) text (nearest other rows text) (cases_lt (common_fold row.0 text) (reach (other ∷ rows) text))

-- the bytes that the text has in common with the nearest name begin it
begun_name : (row : Named) (rows : List Named) (text : List ℕ) (at fault : ℕ) → at + reach (row ∷ rows) (drop at text) ≡ fault
    → BeginsUpTo text at fault (λ own. (name : List ℕ) × (str_eq_ignore_ascii_case own name ≡ true) × IsListed (row ∷ rows) name × ((size : ℕ) → are_long size (row ∷ rows) ≡ true → length name ≡ size))
begun_name row rows text at fault place =
    let bytes : List ℕ = drop at text in
    let n = nearest row rows bytes in
    let far : common_fold n.name bytes ≡ fault - at = omega (arith, n.common) in (
      omega arith,
      take (common_fold n.name bytes) bytes ++ drop (common_fold n.name bytes) n.name,
      drop (common_fold n.name bytes) n.name,
      ap (λ k. take k bytes ++ drop (common_fold n.name bytes) n.name) far,
      (n.name, mixed n.name bytes, n.listed, n.long),
      λ few. omega (arith, n.common, common_within n.name bytes, length-drop at text),
    )

pub name_begun : (row : Named) (rows : List Named) (size : ℕ) (text : List ℕ) (at fault : ℕ) → are_long size (row ∷ rows) ≡ true
    → name_at (row ∷ rows) size text at ≡ Err (Mismatch fault) → BeginsUpTo text at fault (λ own. (code : ℕ) × IsName (row ∷ rows) size own code)
unfolding name_at
name_begun row rows size text at fault long is =
    let test = name_fault_cases (code_at (row ∷ rows) size (drop at text)) (at + size) (at + reach (row ∷ rows) (drop at text)) fault is in
    let begun_is = begun_name row rows text at fault test.1 in
    let own : List ℕ = begun_is.1 in
    let named = begun_is.4 in
    let code = named.2 own named.1 in
    (begun_is.0, own, begun_is.2, begun_is.3, (code.0, record { size_is = same_length own named.0 named.1 ∙ named.3 size long; named = code.1 }), begun_is.5)

pub full_name_begun : (row : Named) (rows : List Named) (text : List ℕ) (at fault : ℕ)
    → full_name_at (row ∷ rows) text at ≡ Err (Mismatch fault) → BeginsUpTo text at fault (λ own. (code : ℕ) × IsFullName (row ∷ rows) own code)
unfolding full_name_at
full_name_begun row rows text at fault is =
    let test = fault_cases (begun (row ∷ rows) (drop at text)) at (at + reach (row ∷ rows) (drop at text)) fault is in
    let begun_is = begun_name row rows text at fault test.1 in
    let named = begun_is.4 in
    (begun_is.0, begun_is.1, begun_is.2, begun_is.3, named.2 begun_is.1 named.1, begun_is.5)
