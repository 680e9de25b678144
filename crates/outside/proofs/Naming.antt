-- The names of a lawful history.
use Rattle.std.proofs.Common.{◌≡◌, ◌⊎◌, inl, inr, ℕ, ◌<◌, List, [], ◌∷◌, ◌++◌, Bool, true, false, cond, not, ◌&&◌, ◌||◌, ◌==◌, nat_eq, refl, sym, ap, subst, ◌∙◌, eq-eqb}
use Rattle.std.specs.Prelude.{if◌then◌else◌, Option, None, Some, option_map, find, filter, ⊤, IsTrue}
use Rattle.std.specs.List.{list_any, starts_with}
use Rattle.std.specs.Str.{bytes_eq}
use Rattle.std.proofs.lemmas.Bool.{eqb-true, or_parts, or_from, and_parts, not-true, both_ways, cases_Bool}
use Rattle.std.proofs.lemmas.Slice.Eq.{bytes_eq-Decides}
use Rattle.outside.specs.Path.{slash, is_path, is_below}
use Rattle.outside.specs.World.{create, append, rename, remove, look, miss, unlisted, History, Names, without, names, file_at, has_name, was_created}
use Rattle.outside.specs.Lawful.{clashes, IsLawful}

-- no two of the names clash, and none are of one file
abbrev AreApart : Names → Type 0
AreApart [] = ⊤
AreApart (name ∷ others) =
    (list_any (λ other. clashes name.0 other.0) others ≡ false) × (list_any (λ other. other.1 == name.1) others ≡ false) × AreApart others

abbrev ArePaths : Names → Type 0
ArePaths [] = ⊤
ArePaths (name ∷ others) = IsTrue (is_path name.0) × ArePaths others

any_filter : {X : Type 0} (p q : X → Bool) (xs : List X) → list_any p xs ≡ false → list_any p (filter q xs) ≡ false
any_filter p q [] none = refl
any_filter p q (x ∷ xs) none =
    let parts = or_parts (p x) (list_any p xs) none in
    elim (q x) as (λ t. list_any p (cond t (x ∷ filter q xs) (filter q xs)) ≡ false) [
      | true ↦ or_from (p x) (list_any p (filter q xs)) parts.0 (any_filter p q xs parts.1)
      | false ↦ any_filter p q xs parts.1
    ]

apart_filter : (q : (List ℕ × ℕ) → Bool) (ns : Names) → AreApart ns → AreApart (filter q ns)
apart_filter q [] apart = tt
apart_filter q (n ∷ ns) apart =
    elim (q n) as (λ t. AreApart (cond t (n ∷ filter q ns) (filter q ns))) [
      | true ↦ (any_filter (λ other. clashes n.0 other.0) q ns apart.0, any_filter (λ other. other.1 == n.1) q ns apart.1, apart_filter q ns apart.2)
      | false ↦ apart_filter q ns apart.2
    ]

paths_filter : (q : (List ℕ × ℕ) → Bool) (ns : Names) → ArePaths ns → ArePaths (filter q ns)
paths_filter q [] paths = tt
paths_filter q (n ∷ ns) paths =
    elim (q n) as (λ t. ArePaths (cond t (n ∷ filter q ns) (filter q ns))) [ true ↦ (paths.0, paths_filter q ns paths.1) | false ↦ paths_filter q ns paths.1 ]

own_none : (file : ℕ) (ns : Names) → has_name (without file ns) file ≡ false
own_none file [] = refl
own_none file (n ∷ ns) =
    let P : Bool → Type 0 = λ t. (n.1 == file) ≡ t → has_name (cond (not t) (n ∷ without file ns) (without file ns)) file ≡ false in
    let no : P false = λ e. or_from (n.1 == file) (has_name (without file ns) file) e (own_none file ns) in
    let all : P (n.1 == file) = elim (n.1 == file) as P [ true ↦ λ _. own_none file ns | false ↦ no ] in
    all refl

-- a file that was never made has no name
never_named : (history : History) (file : ℕ) → IsLawful history → was_created history file ≡ false → has_name (names history) file ≡ false
never_named [] file lawful never = refl
never_named (create other path ∷ before) file lawful never =
    let parts = or_parts (other == file) (was_created before file) never in
    or_from (other == file) (has_name (names before) file) parts.0 (never_named before file lawful.1 parts.1)
never_named (append _ _ ∷ before) file lawful never = never_named before file lawful.1 never
never_named (rename other path ∷ before) file lawful never =
    let none = never_named before file lawful.1 never in
    let named = (and_parts (has_name (names before) other) _ lawful.0).0 in
    let apart : (other == file) ≡ false = elim (cases_Bool (other == file)) [
      | inl same ↦ absurd (both_ways (has_name (names before) other) (ap (λ n. has_name (names before) n) (eqb-true other file same) ∙ none) named)
      | inr differs ↦ differs
    ] in
    or_from (other == file) (has_name (without other (names before)) file) apart (any_filter (λ name. name.1 == file) (λ name. not (name.1 == other)) (names before) none)
never_named (remove other ∷ before) file lawful never = any_filter (λ name. name.1 == file) (λ name. not (name.1 == other)) (names before) (never_named before file lawful.1 never)
never_named (look _ ∷ before) file lawful never = never_named before file lawful.1 never
never_named (miss _ ∷ before) file lawful never = never_named before file lawful.1 never
never_named (unlisted _ ∷ before) file lawful never = never_named before file lawful.1 never

names_apart : (history : History) → IsLawful history → AreApart (names history) × ArePaths (names history)
names_apart [] lawful = (tt, tt)
names_apart (create file path ∷ before) lawful =
    let so_far = names_apart before lawful.1 in
    let parts = and_parts (not (was_created before file)) _ lawful.0 in
    let free = and_parts (is_path path) _ parts.1 in
    ((not-true _ free.1, never_named before file lawful.1 (not-true _ parts.0), so_far.0), (free.0, so_far.1))
names_apart (append _ _ ∷ before) lawful = names_apart before lawful.1
names_apart (rename file path ∷ before) lawful =
    let so_far = names_apart before lawful.1 in
    let parts = and_parts (has_name (names before) file) _ lawful.0 in
    let free = and_parts (is_path path) _ parts.1 in
    let others : (List ℕ × ℕ) → Bool = λ name. not (name.1 == file) in
    ((any_filter (λ other. clashes path other.0) others (names before) (not-true _ free.1), own_none file (names before), apart_filter others (names before) so_far.0), (free.0, paths_filter others (names before) so_far.1))
names_apart (remove file ∷ before) lawful =
    let so_far = names_apart before lawful.1 in
    let others : (List ℕ × ℕ) → Bool = λ name. not (name.1 == file) in
    (apart_filter others (names before) so_far.0, paths_filter others (names before) so_far.1)
names_apart (look _ ∷ before) lawful = names_apart before lawful.1
names_apart (miss _ ∷ before) lawful = names_apart before lawful.1
names_apart (unlisted _ ∷ before) lawful = names_apart before lawful.1

same_path : (a b : List ℕ) → bytes_eq a b ≡ true → a ≡ b
same_path a b = (bytes_eq-Decides a b).0

-- the first name of a path decides: it is here, or behind
module _ (n : List ℕ × ℕ) (ns : Names) (path : List ℕ) (file : ℕ) where
  found_at : file_at (n ∷ ns) path ≡ Some file → ((n.0 ≡ path) × (n.1 ≡ file)) ⊎ (file_at ns path ≡ Some file)
  found_at found =
      let P : Bool → Type 0 = λ t. bytes_eq n.0 path ≡ t → option_map (λ (name : List ℕ × ℕ). name.1) (cond t (Some n) (find (λ name. bytes_eq name.0 path) ns)) ≡ Some file → ((n.0 ≡ path) × (n.1 ≡ file)) ⊎ (file_at ns path ≡ Some file) in
      let all : P (bytes_eq n.0 path) = elim (bytes_eq n.0 path) as P [ true ↦ λ same is. inl (same_path n.0 path same, cc) | false ↦ λ _ is. inr is ] in
      all refl found

found_path : (ns : Names) (path : List ℕ) (file : ℕ) → ArePaths ns → file_at ns path ≡ Some file → IsTrue (is_path path)
found_path [] path file paths found = absurd (cc)
found_path (n ∷ ns) path file paths found = elim (found_at n ns path file found) [
  | inl here ↦ (let P : List ℕ → Type 0 = λ p. IsTrue (is_path p) in subst P here.0 paths.0)
  | inr behind ↦ found_path ns path file paths.1 behind
]

-- a test that fails at each name fails at one that is found
found_test : (test : (List ℕ × ℕ) → Bool) (ns : Names) (path : List ℕ) (file : ℕ) → list_any test ns ≡ false → file_at ns path ≡ Some file → test (path, file) ≡ false
found_test test [] path file none found = absurd (cc)
found_test test (n ∷ ns) path file none found =
    let parts = or_parts (test n) (list_any test ns) none in
    elim (found_at n ns path file found) [
      | inl here ↦ (ap (λ p. test (p, file)) (sym here.0) ∙ ap (λ f. test (n.0, f)) (sym here.1) ∙ parts.0)
      | inr behind ↦ found_test test ns path file parts.1 behind
    ]

clash_free : (ns : Names) (a b : List ℕ) (f g : ℕ) → AreApart ns → file_at ns a ≡ Some f → file_at ns b ≡ Some g → ((a ≡ b) × (f ≡ g)) ⊎ ((clashes a b ≡ false) ⊎ (clashes b a ≡ false))
clash_free [] a b f g apart at_a at_b = absurd (cc)
clash_free (n ∷ ns) a b f g apart at_a at_b = elim (found_at n ns a f at_a) [
  | inl a_here ↦ elim (found_at n ns b g at_b) [
    | inl b_here ↦ inl (sym a_here.0 ∙ b_here.0, sym a_here.1 ∙ b_here.1)
    | inr b_behind ↦ inr (inl (ap (λ p. clashes p b) (sym a_here.0) ∙ found_test (λ other. clashes n.0 other.0) ns b g apart.0 b_behind))
  ]
  | inr a_behind ↦ elim (found_at n ns b g at_b) [
    | inl b_here ↦ inr (inr (ap (λ p. clashes p a) (sym b_here.0) ∙ found_test (λ other. clashes n.0 other.0) ns a f apart.0 a_behind))
    | inr b_behind ↦ clash_free ns a b f g apart.2 a_behind b_behind
  ]
]

-- no text begins with itself and a further byte
not_longer : (xs : List ℕ) (more : ℕ) → starts_with nat_eq xs (xs ++ more ∷ []) ≡ true → ⊥
not_longer [] more begins = absurd (cc)
not_longer (x ∷ xs) more begins = not_longer xs more (and_parts (nat_eq x x) _ begins).1

pub file_no_folder : (history : History) (folder path : List ℕ) (file : ℕ) → IsLawful history → file_at (names history) path ≡ Some file → IsTrue (is_below folder path) → file_at (names history) folder ≡ None
file_no_folder history folder path file lawful found below =
    let P : Option ℕ → Type 0 = λ at. file_at (names history) folder ≡ at → at ≡ None in
    let some : (other : ℕ) → P (Some other) = λ other at. elim (clash_free (names history) folder path other file (names_apart history lawful).0 at found) [
      | inl same ↦ absurd (not_longer folder slash (subst (λ p. starts_with nat_eq p (folder ++ slash ∷ []) ≡ true) (sym same.0) below))
      | inr clash ↦ elim clash [
        | inl none ↦ absurd (both_ways _ (or_parts (is_below folder path) (is_below path folder) (or_parts (bytes_eq folder path) _ none).1).0 below)
        | inr none ↦ absurd (both_ways _ (or_parts (is_below path folder) (is_below folder path) (or_parts (bytes_eq path folder) _ none).1).1 below)
      ]
    ] in
    let all : P (file_at (names history) folder) = elim (file_at (names history) folder) as P [ None ↦ λ _. refl | Some other ↦ some other ] in
    all refl

pub named_path : (history : History) (path : List ℕ) (file : ℕ) → IsLawful history → file_at (names history) path ≡ Some file → IsTrue (is_path path)
named_path history path file lawful found = found_path (names history) path file (names_apart history lawful).1 found

one_name_in : (ns : Names) (a b : List ℕ) (file : ℕ) → AreApart ns → file_at ns a ≡ Some file → file_at ns b ≡ Some file → a ≡ b
one_name_in [] a b file apart at_a at_b = absurd (cc)
one_name_in (n ∷ ns) a b file apart at_a at_b =
    let other_file : (path : List ℕ) → n.1 ≡ file → file_at ns path ≡ Some file → ⊥ = λ path is at. both_ways (file == n.1) (found_test (λ other. other.1 == n.1) ns path file apart.1 at) (eq-eqb file n.1 (sym is)) in
    elim (found_at n ns a file at_a) [
      | inl a_here ↦ elim (found_at n ns b file at_b) [
        | inl b_here ↦ sym a_here.0 ∙ b_here.0
        | inr b_behind ↦ absurd (other_file b a_here.1 b_behind)
      ]
      | inr a_behind ↦ elim (found_at n ns b file at_b) [
        | inl b_here ↦ absurd (other_file a b_here.1 a_behind)
        | inr b_behind ↦ one_name_in ns a b file apart.2 a_behind b_behind
      ]
    ]

pub one_name : (history : History) (a b : List ℕ) (file : ℕ) → IsLawful history → file_at (names history) a ≡ Some file → file_at (names history) b ≡ Some file → a ≡ b
one_name history a b file lawful = one_name_in (names history) a b file (names_apart history lawful).0
