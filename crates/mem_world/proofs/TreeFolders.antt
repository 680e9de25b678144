-- Paths in a folder, and their first components.
use Rattle.std.proofs.Common.{◌≡◌, ◌≢◌, ◌⊎◌, inl, inr, ℕ, zero, suc, ◌+◌, ◌<◌, ◌≤◌, List, [], ◌∷◌, ◌++◌, length, take, get_or, Bool, true, false, cond, not, ◌&&◌, ◌||◌, nat_eq, ◌==◌, refl, sym, ap, subst, ◌∙◌, arith, append_assoc, length-append, eq-eqb}
use Rattle.std.specs.Prelude.{if◌then◌else◌, Option, None, Some, is_some, option_map, find, Contains, MatchOption}
use Rattle.std.specs.Borrow.{Bor}
use Rattle.std.specs.List.{list_any, list_all, starts_with, before_first, position_or_len}
use Rattle.std.specs.Str.{bytes_eq}
use Rattle.std.proofs.Math.Numerals.{one-add}
use Rattle.std.proofs.lemmas.Bool.Decides.{nat_tests}
use Rattle.std.proofs.lemmas.List.{append_cancel_left}
use Rattle.std.proofs.lemmas.Slice.Eq.{bytes_eq-Decides}
use Rattle.outside.specs.Path.{slash, is_component, is_below}
use Rattle.outside.specs.World.{Names, file_at}
use Rattle.outside.specs.Listing.{is_folder, kind_at, path_within}
use Rattle.outside.specs.declared.tree.Kind.{Kind}
use Rattle.outside.specs.declared.tree.Kind.TheVariants.{File, Folder}

pub same_bytes : (a b : List ℕ) → bytes_eq a b ≡ true → a ≡ b
same_bytes a b = (bytes_eq-Decides a b).0

pub eq_bytes : (a b : List ℕ) → a ≡ b → bytes_eq a b ≡ true
eq_bytes a b = (bytes_eq-Decides a b).1

-- up to the first slash
abbrev pub first_part : List ℕ → List ℕ
first_part [] = []
first_part (b ∷ bs) = if b == 47 then [] else b ∷ first_part bs

abbrev pub is_slashless : List ℕ → Bool
is_slashless name = list_all (λ b. not (b == slash)) name

pub first_is : (bs : List ℕ) → before_first (λ b. b == 47) bs ≡ first_part bs
first_is [] = refl
first_is (b ∷ bs) =
    let P : Bool → Type 0 = λ t. take (cond (not t) (1 + position_or_len (λ x. x == 47) bs) 0) (b ∷ bs) ≡ cond t [] (b ∷ first_part bs) in
    elim (b == 47) as P [ true ↦ refl | false ↦ rw one-add (ap (λ r. b ∷ r) (first_is bs)) ]

pub first_slashless : (bs : List ℕ) → is_slashless (first_part bs) ≡ true
first_slashless [] = refl
first_slashless (b ∷ bs) =
    let P : Bool → Type 0 = λ t. (b == 47) ≡ t → is_slashless (cond t [] (b ∷ first_part bs)) ≡ true in
    let no : P false = λ e. rw e (first_slashless bs) in
    let all : P (b == 47) = elim (b == 47) as P [ true ↦ λ _. refl | false ↦ no ] in
    all refl

pub first_whole : (name : List ℕ) → is_slashless name ≡ true → first_part name ≡ name
first_whole [] free = refl
first_whole (b ∷ bs) free =
    let P : Bool → Type 0 = λ t. (not t && is_slashless bs) ≡ true → cond t [] (b ∷ first_part bs) ≡ b ∷ bs in
    let all : P (b == 47) = elim (b == 47) as P [ true ↦ λ f. absurd (cc) | false ↦ λ f. ap (λ r. b ∷ r) (first_whole bs f) ] in
    all free

pub first_front : (name more : List ℕ) → is_slashless name ≡ true → first_part (name ++ 47 ∷ more) ≡ name
first_front [] more free = refl
first_front (b ∷ bs) more free =
    let P : Bool → Type 0 = λ t. (not t && is_slashless bs) ≡ true → cond t [] (b ∷ first_part (bs ++ 47 ∷ more)) ≡ b ∷ bs in
    let all : P (b == 47) = elim (b == 47) as P [ true ↦ λ f. absurd (cc) | false ↦ λ f. ap (λ r. b ∷ r) (first_front bs more f) ] in
    all free

pub first_cases : (bs : List ℕ) → (first_part bs ≡ bs) ⊎ ((more : List ℕ) × (bs ≡ first_part bs ++ 47 ∷ more))
first_cases [] = inl refl
first_cases (b ∷ bs) =
    let P : Bool → Type 0 = λ t. (b == 47) ≡ t → (cond t [] (b ∷ first_part bs) ≡ b ∷ bs) ⊎ ((more : List ℕ) × (b ∷ bs ≡ cond t [] (b ∷ first_part bs) ++ 47 ∷ more)) in
    let yes : P true = λ e. let same : b ≡ 47 = grind (arith, nat_tests) in inr (bs, ap (λ n. n ∷ bs) same) in
    let no : P false = λ _. elim (first_cases bs) [ inl whole ↦ inl (ap (λ r. b ∷ r) whole) | inr part ↦ inr (part.0, ap (λ r. b ∷ r) part.1) ] in
    let all : P (b == 47) = elim (b == 47) as P [ true ↦ yes | false ↦ no ] in
    all refl

pub within_append : (folder a b : List ℕ) → path_within folder (a ++ b) ≡ path_within folder a ++ b
within_append folder a b =
    let P : Bool → Bool → Type 0 = λ s t. cond s (a ++ b) (cond t (47 ∷ (a ++ b)) (folder ++ 47 ∷ (a ++ b))) ≡ cond s a (cond t (47 ∷ a) (folder ++ 47 ∷ a)) ++ b in
    elim (bytes_eq folder []) as (λ s. P s (bytes_eq folder (slash ∷ []))) [
      | true ↦ refl
      | false ↦ elim (bytes_eq folder (slash ∷ [])) as (λ t. P false t) [ true ↦ refl | false ↦ sym (append_assoc folder (47 ∷ a) b) ]
    ]

pub within_same : (folder a b : List ℕ) → path_within folder a ≡ path_within folder b → a ≡ b
within_same folder a b =
    let P : Bool → Bool → Type 0 = λ s t. cond s a (cond t (47 ∷ a) (folder ++ 47 ∷ a)) ≡ cond s b (cond t (47 ∷ b) (folder ++ 47 ∷ b)) → a ≡ b in
    elim (bytes_eq folder []) as (λ s. P s (bytes_eq folder (slash ∷ []))) [
      | true ↦ λ e. e
      | false ↦ elim (bytes_eq folder (slash ∷ [])) as (λ t. P false t) [ true ↦ λ e. cc | false ↦ λ e. (let tail = append_cancel_left folder (47 ∷ a) (47 ∷ b) e in cc) ]
    ]

pub within_root : (folder : List ℕ) → folder ≡ 47 ∷ [] → (rest : List ℕ) → path_within folder rest ≡ 47 ∷ rest
within_root folder root rest = ap (λ f. path_within f rest) root

pub within_other : (folder : List ℕ) → bytes_eq folder [] ≡ false → bytes_eq folder (47 ∷ []) ≡ false → (rest : List ℕ) → path_within folder rest ≡ folder ++ 47 ∷ rest
within_other folder some other rest = rw (some, other)

long_not : (folder : List ℕ) (b : ℕ) (bs short : List ℕ) → length short ≤ 1 → folder ++ 47 ∷ b ∷ bs ≡ short → ⊥
long_not folder b bs short few same = omega (arith, ap length same, length-append folder (47 ∷ b ∷ bs))

-- the path of a name is no folder that is always there
pub within_longer : (folder name : List ℕ) → is_component name ≡ true → is_slashless name ≡ true → (path_within folder name ≡ [] → ⊥) × (path_within folder name ≡ 47 ∷ [] → ⊥)
within_longer folder [] component free = absurd (cc)
within_longer folder (b ∷ bs) component free =
    let P : Bool → Bool → Type 0 = λ s t. (cond s (b ∷ bs) (cond t (47 ∷ b ∷ bs) (folder ++ 47 ∷ b ∷ bs)) ≡ [] → ⊥) × (cond s (b ∷ bs) (cond t (47 ∷ b ∷ bs) (folder ++ 47 ∷ b ∷ bs)) ≡ 47 ∷ [] → ⊥) in
    let one : b ∷ bs ≡ 47 ∷ [] → ⊥ = λ e. let first : b ≡ 47 = cc in let slashed : (b == 47) ≡ true = eq-eqb b 47 first in let Q : Bool → Type 0 = λ t. (not t && is_slashless bs) ≡ true in let no = subst Q slashed free in cc in
    elim (bytes_eq folder []) as (λ s. P s (bytes_eq folder (slash ∷ []))) [
      | true ↦ ((λ e. cc), one)
      | false ↦ elim (bytes_eq folder (slash ∷ [])) as (λ t. P false t) [
        | true ↦ ((λ e. cc), (λ e. cc))
        | false ↦ ((λ e. long_not folder b bs [] (omega arith) e), (λ e. long_not folder b bs (47 ∷ []) (omega arith) e))
      ]
    ]

pub starts_front : (front more : List ℕ) → starts_with nat_eq (front ++ more) front ≡ true
starts_front [] more = refl
starts_front (b ∷ front) more = let same : nat_eq b b ≡ true = eq-eqb b b refl in rw same (starts_front front more)

pub front_starts : (whole front : List ℕ) → starts_with nat_eq whole front ≡ true → (more : List ℕ) × (whole ≡ front ++ more)
front_starts whole [] starts = (whole, refl)
front_starts [] (f ∷ front) starts = absurd (cc)
front_starts (b ∷ whole) (f ∷ front) starts =
    let P : Bool → Type 0 = λ t. nat_eq f b ≡ t → (t && starts_with nat_eq whole front) ≡ true → (more : List ℕ) × (b ∷ whole ≡ f ∷ (front ++ more)) in
    let yes : P true = λ e s. let same : f ≡ b = grind (arith, nat_tests) in let rest = front_starts whole front s in (rest.0, ap (λ r. b ∷ r) rest.1 ∙ ap (λ n. n ∷ (front ++ rest.0)) (sym same)) in
    let all : P (nat_eq f b) = elim (nat_eq f b) as P [ true ↦ yes | false ↦ λ _ s. absurd (cc) ] in
    all refl starts

any_at : {X : Type 0} (p : X → Bool) (xs : List X) (k : ℕ) (x : X) → k < length xs → get_or xs k x ≡ x → p x ≡ true → list_any p xs ≡ true
any_at p [] k x within at passes = absurd (omega (arith, within))
any_at p (y ∷ ys) zero x within at passes = let here : p y ≡ true = ap p at ∙ passes in rw here
any_at p (y ∷ ys) (suc k) x within at passes =
    let rest = any_at p ys k x (omega (arith, within)) at passes in
    elim (p y) as (λ t. (t || list_any p ys) ≡ true) [ true ↦ refl | false ↦ rest ]

pub any_contains : {X : Type 0} (p : X → Bool) (xs : List X) (x : X) → Contains xs x → p x ≡ true → list_any p xs ≡ true
any_contains p xs x has passes = any_at p xs has.0 x has.1 has.2 passes

pub any_place : {X : Type 0} (p : X → Bool) (xs : List X) → list_any p xs ≡ true → (x : X) × ((p x ≡ true) × Contains xs x)
any_place p [] any = absurd (cc)
any_place p (y ∷ ys) any =
    let P : Bool → Type 0 = λ t. p y ≡ t → (t || list_any p ys) ≡ true → (x : _) × ((p x ≡ true) × Contains (y ∷ ys) x) in
    let all : P (p y) = elim (p y) as P [ true ↦ λ e _. (y, (e, (0, omega arith, refl))) | false ↦ λ _ rest. (let found = any_place p ys rest in (found.0, (found.1.0, (suc found.1.1.0, omega (arith, found.1.1.1), found.1.1.2)))) ] in
    all refl any

pub find_contains : {X : Type 0} (p : X → Bool) (xs : List X) → list_any p xs ≡ is_some (find p xs)
find_contains p [] = refl
find_contains p (y ∷ ys) = elim (p y) as (λ t. (t || list_any p ys) ≡ is_some (cond t (Some y) (find p ys))) [ true ↦ refl | false ↦ find_contains p ys ]

mapped : (o : Option (List ℕ × ℕ)) → is_some o ≡ true → is_some (option_map (λ n. n.1) o) ≡ true
mapped None some = absurd (cc)
mapped (Some x) some = refl

or_third : (a b c : Bool) → c ≡ true → (a || (b || c)) ≡ true
or_third true b c e = refl
or_third false true c e = refl
or_third false false c e = e

-- what follows the folder, from what follows its slash
pub rest_from : (folder path mid : List ℕ) → path ≡ folder ++ mid → ((rest : List ℕ) → path_within folder rest ≡ folder ++ 47 ∷ rest) → (r : Option (Bor (List ℕ))) → MatchOption r ((rest : List ℕ) → mid ≢ 47 ∷ rest) (λ x. mid ≡ 47 ∷ x.now) → MatchOption r ((rest : List ℕ) → path ≢ path_within folder rest) (λ x. path ≡ path_within folder x.now)
rest_from folder path mid is within None none = λ rest e. none rest (append_cancel_left folder mid (47 ∷ rest) (sym is ∙ e ∙ within rest))
rest_from folder path mid is within (Some x) some = is ∙ ap (λ m. folder ++ m) some ∙ sym (within x.now)

pub rest_at_root : (folder path : List ℕ) → ((rest : List ℕ) → path_within folder rest ≡ 47 ∷ rest) → (r : Option (Bor (List ℕ))) → MatchOption r ((rest : List ℕ) → path ≢ 47 ∷ rest) (λ x. path ≡ 47 ∷ x.now) → MatchOption r ((rest : List ℕ) → path ≢ path_within folder rest) (λ x. path ≡ path_within folder x.now)
rest_at_root folder path within None none = λ rest e. none rest (e ∙ within rest)
rest_at_root folder path within (Some x) some = some ∙ sym (within x.now)

file_some : (ns : Names) (path : List ℕ) (file : ℕ) (name : List ℕ × ℕ) → Contains ns name → bytes_eq name.0 path ≡ true → is_some (file_at ns path) ≡ true
file_some ns path file name has same =
    let found : is_some (find (λ n. bytes_eq n.0 path) ns) ≡ true = sym (find_contains (λ n. bytes_eq n.0 path) ns) ∙ any_contains (λ (n : List ℕ × ℕ). bytes_eq n.0 path) ns name has same in
    mapped (find (λ n. bytes_eq n.0 path) ns) found

below_is : (folder path more : List ℕ) → path ≡ folder ++ 47 ∷ more → is_below folder path ≡ true
below_is folder path more is =
    let whole : path ≡ (folder ++ 47 ∷ []) ++ more = is ∙ sym (append_assoc folder (47 ∷ []) more) in
    ap (λ p. starts_with nat_eq p (folder ++ 47 ∷ [])) whole ∙ starts_front (folder ++ 47 ∷ []) more

below_there : (ns : Names) (folder : List ℕ) (name : List ℕ × ℕ) → Contains ns name → is_below folder name.0 ≡ true → is_folder ns folder ≡ true
below_there ns folder name has below =
    let any = any_contains (λ (n : List ℕ × ℕ). is_below folder n.0) ns name has below in
    or_third (bytes_eq folder []) (bytes_eq folder (slash ∷ [])) (list_any (λ n. is_below folder n.0) ns) any

-- a path in the folder gives its first component a kind
pub kind_there : (ns : Names) (folder rest : List ℕ) (name : List ℕ × ℕ) → Contains ns name → name.0 ≡ path_within folder rest → (kind : Kind) × (kind_at ns (path_within folder (first_part rest)) ≡ Some kind)
kind_there ns folder rest name has is =
    let here = path_within folder (first_part rest) in
    let P : Bool → Bool → Type 0 = λ s t. (kind : Kind) × (cond s (Some File) (cond t (Some Folder) None) ≡ Some kind) in
    let file : is_some (file_at ns here) ≡ true → P (is_some (file_at ns here)) (is_folder ns here) = λ e. (File, rw e) in
    let folder_there : is_folder ns here ≡ true → P (is_some (file_at ns here)) (is_folder ns here) = λ e.
    let Q : Bool → Type 0 = λ t. P (is_some (file_at ns here)) t in
    subst Q (sym e) (elim (is_some (file_at ns here)) as (λ s. P s true) [ true ↦ (File, refl) | false ↦ (Folder, refl) ]) in
    elim (first_cases rest) [
      | inl whole ↦ file (file_some ns here (name.1) name has (eq_bytes name.0 here (is ∙ ap (path_within folder) (sym whole))))
      | inr part ↦ folder_there (below_there ns here name has (let split : name.0 ≡ here ++ 47 ∷ part.0 = is ∙ ap (path_within folder) part.1 ∙ within_append folder (first_part rest) (47 ∷ part.0) in below_is here name.0 part.0 split))
    ]

pub some_bytes : (folder : List ℕ) → (length folder == 0) ≡ false → bytes_eq folder [] ≡ false
some_bytes [] none = absurd (cc)
some_bytes (b ∷ bs) some = refl
