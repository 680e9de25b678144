-- Files that ever were, and how many they are.
use Rattle.std.proofs.Common.{◌≡◌, ◌≢◌, ◌⊎◌, ℕ, zero, suc, ◌+◌, ◌<◌, ◌≤◌, ◌==◌, List, [], ◌∷◌, ◌++◌, length, Bool, true, false, cond, sym, subst, ◌∙◌, inl, inr, arith, eq-eqb}
use Rattle.std.specs.Prelude.{None, Some, option_map, find, not, ◌||◌}
use Rattle.std.specs.Str.{bytes_eq}
use Rattle.std.proofs.lemmas.Bool.{cases_eq, and_parts, ne_eqb}
use Rattle.lifetimes.specs.Small.{created}
use Rattle.outside.specs.Lawful.{IsLawful, is_free}
use Rattle.outside.specs.World.{Event, create, append, rename, remove, look, miss, unlisted, History, Names, names, without, has_name, file_at}
use Rattle.standing.specs.Moments.{IsLater, IsNamed}

-- ---- numbers in a list

abbrev pub Has : List ℕ → ℕ → Type 0
Has [] x = ⊥
Has (y ∷ ys) x = (y ≡ x) ⊎ Has ys x

abbrev but : ℕ → List ℕ → List ℕ
but x [] = []
but x (y ∷ ys) = cond (y == x) (but x ys) (y ∷ but x ys)

but_shorter : (x : ℕ) (ys : List ℕ) → length (but x ys) ≤ length ys
but_shorter x [] = omega arith
but_shorter x (y ∷ ys) = elim (y == x) as (λ t. length (cond t (but x ys) (y ∷ but x ys)) ≤ length (y ∷ ys)) [ true ↦ omega (arith, but_shorter x ys) | false ↦ omega (arith, but_shorter x ys) ]

but_one_less : (x : ℕ) (ys : List ℕ) → Has ys x → length (but x ys) + 1 ≤ length ys
but_one_less x [] has = absurd has
but_one_less x (y ∷ ys) (inl here) =
    let same : (y == x) ≡ true = eq-eqb y x here in
    subst (λ (t : Bool). length (cond t (but x ys) (y ∷ but x ys)) + 1 ≤ length (y ∷ ys)) (sym same) (omega (arith, but_shorter x ys))
but_one_less x (y ∷ ys) (inr later) =
    elim (y == x) as (λ t. length (cond t (but x ys) (y ∷ but x ys)) + 1 ≤ length (y ∷ ys)) [ true ↦ omega (arith, but_shorter x ys) | false ↦ omega (arith, but_one_less x ys later) ]

but_keeps : (x z : ℕ) (ys : List ℕ) → z ≢ x → Has ys z → Has (but x ys) z
but_keeps x z [] differs has = absurd has
but_keeps x z (y ∷ ys) differs (inl here) =
    let other : (y == x) ≡ false = ne_eqb y x (λ e. differs (sym here ∙ e)) in
    subst (λ (t : Bool). Has (cond t (but x ys) (y ∷ but x ys)) z) (sym other) (inl here)
but_keeps x z (y ∷ ys) differs (inr later) =
    let rest : Has (but x ys) z = but_keeps x z ys differs later in
    elim (y == x) as (λ t. Has (cond t (but x ys) (y ∷ but x ys)) z) [ true ↦ rest | false ↦ inr rest ]

-- numbers of which no two are one, all in a list, are no more than it has
pub pigeons : (n : ℕ) (f : (k : ℕ) → k < n → ℕ) (ys : List ℕ) → ((k : ℕ) (within : k < n) → Has ys (f k within))
    → ((j k : ℕ) (a : j < n) (b : k < n) → j ≢ k → f j a ≢ f k b) → n ≤ length ys
pigeons zero f ys inside differ = omega arith
pigeons (suc n) f ys inside differ =
    let last : n < suc n = omega arith in
    let x : ℕ = f n last in
    let more : (k : ℕ) → k < n → k < suc n = λ k within. omega (arith, within) in
    let rest = pigeons n (λ k within. f k (more k within)) (but x ys)
    (λ k within. but_keeps x (f k (more k within)) ys (differ k n (more k within) last (λ e. omega (arith, e, within))) (inside k (more k within)))
    (λ j k a b apart. differ j k (more j a) (more k b) apart) in
    omega (arith, rest, but_one_less x ys (inside n last))

-- and one more, which is none of them
pub pigeons_and_one : (n : ℕ) (f : (k : ℕ) → k < n → ℕ) (x : ℕ) (ys : List ℕ) → ((k : ℕ) (within : k < n) → Has ys (f k within)) → Has ys x
    → ((j k : ℕ) (a : j < n) (b : k < n) → j ≢ k → f j a ≢ f k b) → ((k : ℕ) (within : k < n) → f k within ≢ x) → n + 1 ≤ length ys
pigeons_and_one n f x ys inside has differ other =
    let rest = pigeons n f (but x ys) (λ k within. but_keeps x (f k within) ys (other k within) (inside k within)) differ in
    omega (arith, rest, but_one_less x ys has)

-- ---- names

abbrev NameOf : Names → ℕ → Type 0
NameOf [] file = ⊥
NameOf (name ∷ names) file = (name.1 ≡ file) ⊎ NameOf names file

name_at : (names : Names) (path : List ℕ) (file : ℕ) → file_at names path ≡ Some file → NameOf names file
name_at [] path file is = let never : None ≡ Some file = is in cc
name_at (name ∷ names) path file is =
    let P : Bool → Type 0 = λ t. option_map (λ (n : List ℕ × ℕ). n.1) (cond t (Some name) (find (λ (n : List ℕ × ℕ). bytes_eq n.0 path) names)) ≡ Some file → NameOf (name ∷ names) file in
    let all : P (bytes_eq name.0 path) = elim (bytes_eq name.0 path) as P [ true ↦ λ same. (let one : Some name.1 ≡ Some file = same in inl (cc)) | false ↦ λ same. inr (name_at names path file same) ] in
    all is

name_kept : (other : ℕ) (names : Names) (file : ℕ) → NameOf (without other names) file → NameOf names file
name_kept other [] file has = has
name_kept other (name ∷ names) file has =
    let P : Bool → Type 0 = λ t. NameOf (cond t (name ∷ without other names) (without other names)) file → NameOf (name ∷ names) file in
    let all : P (not (name.1 == other)) = elim (not (name.1 == other)) as P [
      | true ↦ λ h. elim h [ inl here ↦ inl here | inr later ↦ inr (name_kept other names file later) ]
      | false ↦ λ h. inr (name_kept other names file h)
    ] in
    all has

name_of_any : (names : Names) (file : ℕ) → has_name names file ≡ true → NameOf names file
name_of_any [] file is = let never : false ≡ true = is in cc
name_of_any (name ∷ names) file is =
    elim (cases_eq name.1 file) [
      | inl same ↦ inl same
      | inr differs ↦ (let other : (name.1 == file) ≡ false = ne_eqb name.1 file differs in
          inr (name_of_any names file (subst (λ (t : Bool). (t || has_name names file) ≡ true) other is)))
    ]

-- a file with a name was created
created_named : (history : History) (file : ℕ) → IsLawful history → NameOf (names history) file → Has (created history) file
created_named [] file lawful has = has
created_named (create other path ∷ before) file lawful (inl here) = inl here
created_named (create other path ∷ before) file lawful (inr later) = inr (created_named before file lawful.1 later)
created_named (append other more ∷ before) file lawful has = created_named before file lawful.1 has
created_named (rename other path ∷ before) file lawful (inl here) =
    let had : has_name (names before) other ≡ true = (and_parts (has_name (names before) other) (is_free (names before) path) lawful.0).0 in
    subst (λ (f : ℕ). Has (created before) f) here (created_named before other lawful.1 (name_of_any (names before) other had))
created_named (rename other path ∷ before) file lawful (inr later) = created_named before file lawful.1 (name_kept other (names before) file later)
created_named (remove other ∷ before) file lawful has = created_named before file lawful.1 (name_kept other (names before) file has)
created_named (look other ∷ before) file lawful has = created_named before file lawful.1 has
created_named (miss path ∷ before) file lawful has = created_named before file lawful.1 has
created_named (unlisted folder ∷ before) file lawful has = created_named before file lawful.1 has

pub created_by_name : (history : History) (path : List ℕ) (file : ℕ) → IsLawful history → IsNamed history path file → Has (created history) file
created_by_name history path file lawful named = created_named history file lawful (name_at (names history) path file named)

created_later : (events : List Event) (old : History) (file : ℕ) → Has (created old) file → Has (created (events ++ old)) file
created_later [] old file has = has
created_later (create _ _ ∷ events) old file has = inr (created_later events old file has)
created_later (append _ _ ∷ events) old file has = created_later events old file has
created_later (rename _ _ ∷ events) old file has = created_later events old file has
created_later (remove _ ∷ events) old file has = created_later events old file has
created_later (look _ ∷ events) old file has = created_later events old file has
created_later (miss _ ∷ events) old file has = created_later events old file has
created_later (unlisted _ ∷ events) old file has = created_later events old file has

pub created_lasts : (old new : History) (file : ℕ) → IsLater old new → Has (created old) file → Has (created new) file
created_lasts old new file later has = subst (λ (h : History). Has (created h) file) (sym later.goes_on) (created_later later.events old file has)

fewer_before : (events : List Event) (old : History) → length (created old) ≤ length (created (events ++ old))
fewer_before [] old = omega arith
fewer_before (create _ _ ∷ events) old = omega (arith, fewer_before events old)
fewer_before (append _ _ ∷ events) old = fewer_before events old
fewer_before (rename _ _ ∷ events) old = fewer_before events old
fewer_before (remove _ ∷ events) old = fewer_before events old
fewer_before (look _ ∷ events) old = fewer_before events old
fewer_before (miss _ ∷ events) old = fewer_before events old
fewer_before (unlisted _ ∷ events) old = fewer_before events old

pub few_before : (old new : History) → IsLater old new → length (created old) ≤ length (created new)
few_before old new later = subst (λ (h : History). length (created old) ≤ length (created h)) (sym later.goes_on) (fewer_before later.events old)

lawful_behind : (events : List Event) (old : History) → IsLawful (events ++ old) → IsLawful old
lawful_behind [] old lawful = lawful
lawful_behind (event ∷ events) old lawful = lawful_behind events old lawful.1

pub lawful_before : (old new : History) → IsLater old new → IsLawful new → IsLawful old
lawful_before old new later lawful = lawful_behind later.events old (subst IsLawful later.goes_on lawful)
