-- Where no name can be read, no text that begins alike has one.
use Rattle.std.proofs.Common.{◌≡◌, ◌∙◌, sym, ap, refl, ℕ, zero, suc, ◌+◌, ◌<◌, ◌≤◌, max, List, [], ◌∷◌, ◌++◌, length, take, drop, Bool, true, false, cond, ◌==◌, Option, Some, None, Err, ◌⊎◌, inl, inr, arith, eq-eqb}
use Rattle.std.proofs.Math.Seq.{take-append-le, take-append_seam}
use Rattle.std.proofs.Math.ListN.{length-append}
use Rattle.std.proofs.lemmas.Bool.{le-ltb, eqb-true, cases_lt, false≢true}
use Rattle.std.specs.Char.{to_ascii_lowercase, eq_ignore_ascii_case}
use Rattle.std.specs.Str.{str_eq_ignore_ascii_case}
use Rattle.case_table.specs.Rows.{Named, first_code}
use Rattle.time_layout.specs.declared.fault.TimeFault.TheVariants.{Mismatch}
use Rattle.time_layout.specs.Atoms.{code_at, common_fold, named_or, name_at, reach}
use Rattle.time_layout.specs.Texts.{IsName}
use Rattle.time_layout.proofs.Completes.{front_whole}
use Rattle.time_layout.proofs.DeadEnds.{IsDead, same_place}
use Rattle.time_layout.proofs.Sounds.{both}

one_more : (same : Bool) (k n : ℕ) → same ≡ true → k ≤ n → suc k ≤ cond same (1 + n) 0
one_more same k n is le = rw is (omega arith)

-- the front of a name in another case
common_at_least : (name own z : List ℕ) (k : ℕ) → str_eq_ignore_ascii_case own name ≡ true → k ≤ length own → k ≤ common_fold name (take k own ++ z)
common_at_least name own z zero same few = omega arith
common_at_least name [] z (suc k) same few = absurd (omega arith)
common_at_least [] (byte ∷ own) z (suc k) same few = absurd (false≢true same)
common_at_least (letter ∷ name) (byte ∷ own) z (suc k) same few =
    let tests = both (to_ascii_lowercase byte == to_ascii_lowercase letter) (str_eq_ignore_ascii_case own name) same in
    let equal : eq_ignore_ascii_case letter byte ≡ true =
    eq-eqb (to_ascii_lowercase letter) (to_ascii_lowercase byte) (sym (eqb-true (to_ascii_lowercase byte) (to_ascii_lowercase letter) tests.0)) in
    one_more (eq_ignore_ascii_case letter byte) k (common_fold name (take k own ++ z)) equal (common_at_least name own z k tests.1 (omega arith))

reach_cases : (found : Bool) (name own z : List ℕ) (k code other : ℕ) (rest : Option ℕ) (far : ℕ) → str_eq_ignore_ascii_case own name ≡ found
    → cond found (Some other) rest ≡ Some code → k ≤ length own → (rest ≡ Some code → k ≤ far) → k ≤ max (common_fold name (take k own ++ z)) far
reach_cases true name own z k code other rest far same is few later = omega (arith, common_at_least name own z k same few)
reach_cases false name own z k code other rest far same is few later = omega (arith, later is)

pub named_reach : (table : List Named) (own z : List ℕ) (k code : ℕ) → first_code (str_eq_ignore_ascii_case own) table ≡ Some code → k ≤ length own
    → k ≤ reach table (take k own ++ z)
named_reach [] own z k code is few = cc
named_reach (row ∷ rows) own z k code is few =
    reach_cases (str_eq_ignore_ascii_case own row.0) row.0 own z k code row.1 (first_code (str_eq_ignore_ascii_case own) rows) (reach rows (take k own ++ z))
    refl is few (λ later. named_reach rows own z k code later few)

pub name_fault_cases : (found : Option ℕ) (next place fault : ℕ) → named_or found next place ≡ Err (Mismatch fault) → (found ≡ None) × (place ≡ fault)
name_fault_cases None next place fault is = (refl, same_place place fault is)
name_fault_cases (Some code) next place fault is = cc

some_code : (table : List Named) (size : ℕ) (bytes own : List ℕ) (code : ℕ) → take size bytes ≡ own → size ≤ length bytes
    → first_code (str_eq_ignore_ascii_case own) table ≡ Some code → code_at table size bytes ≡ Some code
some_code table size bytes own code is long named = rw (le-ltb (length bytes) size long, is) named

name_front : (table : List Named) (size : ℕ) (bytes front x more own rest : List ℕ) (code : ℕ) → bytes ≡ front ++ x → length front ≡ reach table bytes + 1
    → code_at table size bytes ≡ None → front ++ more ≡ own ++ rest → IsName table size own code → (size < length front) ⊎ (length front ≤ size) → ⊥
name_front table size bytes front x more own rest code splits long none is name (inl inside) =
    let one : take size bytes ≡ take size front = ap (take size) splits ∙ take-append-le size front x (omega arith) in
    let other : take size front ≡ own = sym (take-append-le size front more (omega arith)) ∙ ap (take size) is ∙ front_whole own rest size name.size_is in
    let found : code_at table size bytes ≡ Some code =
    some_code table size bytes own code (one ∙ other) (omega (arith, ap length splits, length-append front x)) name.named in
    let never : None ≡ Some code = sym none ∙ found in cc
name_front table size bytes front x more own rest code splits long none is name (inr past) =
    let k : ℕ = length front in
    let part : front ≡ take k own =
    sym (take-append_seam front more) ∙ ap (take k) is ∙ take-append-le k own rest (omega (arith, name.size_is)) in
    let far : k ≤ reach table (take k own ++ x) = named_reach table own x k code name.named (omega (arith, name.size_is)) in
    let same : reach table (take k own ++ x) ≡ reach table bytes = ap (λ f. reach table (f ++ x)) (sym part) ∙ ap (reach table) (sym splits) in
    omega arith

pub name_dead : (table : List Named) (size : ℕ) (text : List ℕ) (at fault : ℕ) → name_at table size text at ≡ Err (Mismatch fault)
    → IsDead text at fault (λ own rest. (code : ℕ) × IsName table size own code)
unfolding name_at
name_dead table size text at fault is =
    let test = name_fault_cases (code_at table size (drop at text)) (at + size) (at + reach table (drop at text)) fault is in (
      omega (arith, test.1),
      inl (λ front x splits long more own rest begins name.
          name_front table size (drop at text) front x more own rest name.0 splits (omega (arith, test.1)) test.0 begins name.1 (cases_lt size (length front))),
    )
