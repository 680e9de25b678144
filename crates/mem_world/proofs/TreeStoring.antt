-- What is stored of a world, step by step.
use Rattle.std.proofs.Common.{◌≡◌, ℕ, List, [], ◌∷◌, ◌++◌, map, Bool, true, false, cond, ◌||◌, ◌==◌, Some, refl, sym, ap, ◌∙◌, eq-eqb}
use Rattle.std.proofs.lemmas.Bool.{or_left, or_right}
use Rattle.std.proofs.lemmas.List.{append-nil}
use Rattle.std.specs.Str.{bytes_eq}
use Rattle.std.specs.Prelude.{find, filter, option_map}
use Rattle.std.specs.List.{list_any}
use Rattle.std.specs.Prelude.{IsTrue}
use Rattle.outside.specs.Lawful.{is_lawful, IsLawful}
use Rattle.outside.specs.World.{Event, create, append, rename, remove, look, miss, unlisted, History, Names, names, file_at, has_name, bytes, was_created}
use Rattle.mem_world.specs.WorldSteps.{added_by, makes, names_after}

pub any_map : {X Y : Type 0} (f : X → Y) (p : Y → Bool) (xs : List X) → list_any p (map f xs) ≡ list_any (λ x. p (f x)) xs
any_map f p [] = refl
any_map f p (x ∷ xs) = ap (λ b. p (f x) || b) (any_map f p xs)

pub find_map : {X Y : Type 0} (f : X → Y) (p : Y → Bool) (xs : List X) → find p (map f xs) ≡ option_map f (find (λ x. p (f x)) xs)
find_map f p [] = refl
find_map f p (x ∷ xs) = elim (p (f x)) as (λ t. cond t (Some (f x)) (find p (map f xs)) ≡ option_map f (cond t (Some x) (find (λ y. p (f y)) xs))) [ true ↦ refl | false ↦ find_map f p xs ]

pub filter_map : {X Y : Type 0} (f : X → Y) (p : Y → Bool) (xs : List X) → filter p (map f xs) ≡ map f (filter (λ x. p (f x)) xs)
filter_map f p [] = refl
filter_map f p (x ∷ xs) = elim (p (f x)) as (λ t. cond t (f x ∷ filter p (map f xs)) (filter p (map f xs)) ≡ map f (cond t (x ∷ filter (λ y. p (f y)) xs) (filter (λ y. p (f y)) xs))) [ true ↦ ap (λ ys. f x ∷ ys) (filter_map f p xs) | false ↦ filter_map f p xs ]

or_swap : (a b c : Bool) → (a || (b || c)) ≡ (b || (a || c))
or_swap true true c = refl
or_swap true false c = refl
or_swap false b c = refl

pub any_push : {X : Type 0} (p : X → Bool) (xs : List X) (x : X) → list_any p (xs ++ x ∷ []) ≡ (p x || list_any p xs)
any_push p [] x = refl
any_push p (y ∷ ys) x = ap (λ b. p y || b) (any_push p ys x) ∙ or_swap (p y) (p x) (list_any p ys)

-- a step that is lawful may come
pub lawful_then : (event : Event) (before : History) → IsTrue (is_lawful before event) → IsLawful before → IsLawful (event ∷ before)
lawful_then (create _ _) before lawful kept = (lawful, kept)
lawful_then (append _ _) before lawful kept = (lawful, kept)
lawful_then (rename _ _) before lawful kept = (lawful, kept)
lawful_then (remove _) before lawful kept = (lawful, kept)
lawful_then (look _) before lawful kept = absurd (let no : false ≡ true = lawful in cc)
lawful_then (miss _) before lawful kept = absurd (let no : false ≡ true = lawful in cc)
lawful_then (unlisted _) before lawful kept = absurd (let no : false ≡ true = lawful in cc)

-- a file that a path names has a name
pub found_named : (named : Names) (path : List ℕ) (file : ℕ) → file_at named path ≡ Some file → has_name named file ≡ true
found_named [] path file found = absurd (cc)
found_named (n ∷ ns) path file found =
    let P : Bool → Type 0 = λ t. option_map (λ (name : List ℕ × ℕ). name.1) (cond t (Some n) (find (λ name. bytes_eq name.0 path) ns)) ≡ Some file → has_name (n ∷ ns) file ≡ true in
    let here : P true = λ is. let same : n.1 ≡ file = cc in or_left (n.1 == file) (has_name ns file) (eq-eqb n.1 file same) in
    let behind : P false = λ is. or_right (n.1 == file) (has_name ns file) (found_named ns path file is) in
    let all : P (bytes_eq n.0 path) = elim (bytes_eq n.0 path) as P [ true ↦ here | false ↦ behind ] in
    all found

pub names_then : (event : Event) (before : History) → names (event ∷ before) ≡ names_after event (names before)
names_then (create _ _) before = refl
names_then (append _ _) before = refl
names_then (rename _ _) before = refl
names_then (remove _) before = refl
names_then (look _) before = refl
names_then (miss _) before = refl
names_then (unlisted _) before = refl

pub created_then : (event : Event) (before : History) (file : ℕ) → was_created (event ∷ before) file ≡ (makes event file || was_created before file)
created_then (create _ _) before file = refl
created_then (append _ _) before file = refl
created_then (rename _ _) before file = refl
created_then (remove _) before file = refl
created_then (look _) before file = refl
created_then (miss _) before file = refl
created_then (unlisted _) before file = refl

pub bytes_then : (event : Event) (before : History) (file : ℕ) → bytes (event ∷ before) file ≡ bytes before file ++ added_by event file
bytes_then (create _ _) before file = sym (append-nil (bytes before file))
bytes_then (append _ _) before file = refl
bytes_then (rename _ _) before file = sym (append-nil (bytes before file))
bytes_then (remove _) before file = sym (append-nil (bytes before file))
bytes_then (look _) before file = sym (append-nil (bytes before file))
bytes_then (miss _) before file = sym (append-nil (bytes before file))
bytes_then (unlisted _) before file = sym (append-nil (bytes before file))
