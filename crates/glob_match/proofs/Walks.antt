-- Names taken from the front of a path, and components laid on them.
use Rattle.std.proofs.Common.{◌≡◌, ℕ, zero, suc, ◌+◌, ◌<◌, List, [], ◌∷◌, ◌∙◌, ap, sym, refl, subst, length, take, drop, Option, None, Some, Bool, true, false, not, cond, nat_eq, ◌↔◌, arith}
use Rattle.std.proofs.lemmas.Bool.{ne_eqb}
use Rattle.std.specs.Str.{chars}
use Rattle.std.specs.List.{position_or_len}
use denote.Ref.{Bor}
use Rattle.glob_match.specs.declared.matching.Front.{Front}
use Rattle.glob_match.specs.declared.matching.Front.TheVariants as front
use Rattle.glob_match.specs.declared.pattern.Piece.{Piece}
use Rattle.glob_match.specs.declared.pattern.Component.{Component}
use Rattle.glob_match.specs.declared.pattern.Component.TheVariants.{Folders, Name}
use Rattle.glob_match.specs.Fits.{FitsPieces}
use Rattle.glob_match.specs.Inner.Front.{FitsUpTo, here, behind, IsFront, IsFoundFront, MayHold}
use Rattle.glob_match.specs.GlobMatch.{FitsNames, no_names, one_name, no_folder, one_folder}
use Rattle.glob_match.specs.Path.{in_front, names}
use Rattle.glob_match.specs.Inner.Walked.{names_left}

-- the first name and the others
abbrev is_slash : ℕ → Bool
is_slash byte = nat_eq byte 47

pub names_split : (path : List ℕ) → position_or_len is_slash path < length path → names path ≡ take (position_or_len is_slash path) path ∷ names (drop (position_or_len is_slash path + 1) path)
names_split [] l = absurd (omega arith)
names_split (byte ∷ rest) l = by (nat_eq byte 47) refl (λ h. names_split rest h)
  where
    by : (b : Bool) → nat_eq byte 47 ≡ b → (position_or_len is_slash rest < length rest → names rest ≡ take (position_or_len is_slash rest) rest ∷ names (drop (position_or_len is_slash rest + 1) rest))
        → names (byte ∷ rest) ≡ take (position_or_len is_slash (byte ∷ rest)) (byte ∷ rest) ∷ names (drop (position_or_len is_slash (byte ∷ rest) + 1) (byte ∷ rest))
    by true e more = rw e refl
    by false e more =
        let count : ℕ = position_or_len is_slash rest in
        let inside : 1 + count < length (byte ∷ rest) = rw e at l in
        let one : 1 + count ≡ suc count = omega arith in
        let two : suc count + 1 ≡ suc (count + 1) = omega arith in
        rw (e, more (omega arith), one, two) refl

pub names_whole : (path : List ℕ) → position_or_len is_slash path ≡ length path → names path ≡ path ∷ []
names_whole [] e = refl
names_whole (byte ∷ rest) e = by (nat_eq byte 47) refl (λ h. names_whole rest h)
  where
    by : (b : Bool) → nat_eq byte 47 ≡ b → (position_or_len is_slash rest ≡ length rest → names rest ≡ rest ∷ []) → names (byte ∷ rest) ≡ (byte ∷ rest) ∷ []
    by true h more = let none : 0 ≡ length (byte ∷ rest) = rw h at e in absurd (omega arith)
    by false h more =
        let inside : 1 + position_or_len is_slash rest ≡ length (byte ∷ rest) = rw h at e in
        rw (h, more (omega arith)) refl

-- what fits begins with a component
pub record FitsFirst (pieces : List Piece) (components : List Component) (names : List (List ℕ)) : Type 0 where
  pub name : List ℕ
  pub others : List (List ℕ)
  pub is : names ≡ name ∷ others
  pub fits : FitsPieces pieces (chars name)
  pub rest : FitsNames components others

first_of : (all : List Component) (names : List (List ℕ)) (pieces : List Piece) (components : List Component) → FitsNames all names → all ≡ Name pieces ∷ components → FitsFirst pieces components names
first_of _ _ pieces components no_names e = absurd (cc e)
first_of _ _ pieces components (one_name {pieces = own} {components = behind_it} {name = name} {others = others} fits rest) e =
    let same : own ≡ pieces = cc e in
    let same_rest : behind_it ≡ components = cc e in
    record { name = name; others = others; is = refl; fits = subst (λ (p : List Piece). FitsPieces p (chars name)) same fits; rest = subst (λ (c : List Component). FitsNames c others) same_rest rest }
first_of _ _ pieces components (no_folder rest) e = absurd (cc e)
first_of _ _ pieces components (one_folder rest) e = absurd (cc e)

pub fits_first : (pieces : List Piece) (components : List Component) (names : List (List ℕ)) → FitsNames (Name pieces ∷ components) names → FitsFirst pieces components names
fits_first pieces components names fits = first_of (Name pieces ∷ components) names pieces components fits refl

none_left : (all : List Component) (names : List (List ℕ)) → FitsNames all names → all ≡ [] → names ≡ []
none_left _ _ no_names e = refl
none_left _ _ (one_name fits rest) e = absurd (cc e)
none_left _ _ (no_folder rest) e = absurd (cc e)
none_left _ _ (one_folder rest) e = absurd (cc e)

pub fits_none : (names : List (List ℕ)) → FitsNames [] names → names ≡ []
fits_none names fits = none_left [] names fits refl

-- behind some names the other components fit
below_of : (all : List Component) (names : List (List ℕ)) (components : List Component) → FitsNames all names → all ≡ Folders ∷ components → (count : ℕ) × FitsNames components (drop count names)
below_of _ _ components no_names e = absurd (cc e)
below_of _ _ components (one_name fits rest) e = absurd (cc e)
below_of _ _ components (no_folder {components = own} {names = names} rest) e = let same : own ≡ components = cc e in (0, subst (λ (c : List Component). FitsNames c names) same rest)
below_of _ _ components (one_folder {components = own} {others = others} rest) e = let more = below_of (Folders ∷ own) others components rest e in (suc more.0, more.1)

pub fits_below_some : (components : List Component) (names : List (List ℕ)) → FitsNames (Folders ∷ components) names → (count : ℕ) × FitsNames components (drop count names)
fits_below_some components names fits = below_of (Folders ∷ components) names components fits refl

pub fits_below_more : (components : List Component) (names : List (List ℕ)) (count : ℕ) → FitsNames (Folders ∷ components) (drop count names) → FitsNames (Folders ∷ components) names
fits_below_more components names zero fits = fits
fits_below_more components [] (suc count) fits = fits
fits_below_more components (name ∷ names) (suc count) fits = one_folder (fits_below_more components names count fits)

-- what stands behind the first `**`
pub up_to_fits : (components : List Component) (names : List (List ℕ)) (left : List Component) (rest : List (List ℕ)) → FitsUpTo components names left rest → FitsNames (Folders ∷ left) rest → FitsNames components names
up_to_fits _ _ left rest here fits = fits
up_to_fits _ _ left rest (behind own more) fits = one_name own (up_to_fits _ _ left rest more fits)

pub up_to_shorter : (components : List Component) (names : List (List ℕ)) (left : List Component) (rest : List (List ℕ)) → FitsUpTo components names left rest → length left < length components
up_to_shorter _ _ left rest here = omega arith
up_to_shorter _ _ left rest (behind own more) = omega (arith, up_to_shorter _ _ left rest more)

-- the components that fit behind some of the names fit behind the first that do
up_to_first : (components : List Component) (names : List (List ℕ)) (left : List Component) (rest : List (List ℕ)) (count : ℕ) → FitsUpTo components names left rest → FitsNames components (drop count names) → FitsNames (Folders ∷ left) (drop count rest)
up_to_first _ _ left rest count here fits = fits
up_to_first _ _ left rest count (behind {pieces = pieces} {components = components} {name = name} {others = others} own more) fits =
    let first = fits_first pieces components (drop count (name ∷ others)) fits in
    up_to_first components others left rest count more (subst (FitsNames components) (sym (tails count name others first.name first.others first.is)) first.rest)
  where
    tails : (count : ℕ) (x : List ℕ) (xs : List (List ℕ)) (y : List ℕ) (ys : List (List ℕ)) → drop count (x ∷ xs) ≡ y ∷ ys → drop count xs ≡ ys
    tails zero x xs y ys e = cc e
    tails (suc count) x [] y ys e = absurd (nothing count e)
      where
        nothing : (n : ℕ) → drop n [] ≡ y ∷ ys → ⊥
        nothing zero e = cc e
        nothing (suc n) e = cc e
    tails (suc count) x (z ∷ zs) y ys e = tails count z zs y ys e

pub up_to_below : (components : List Component) (names : List (List ℕ)) (left : List Component) (rest : List (List ℕ)) → FitsUpTo components names left rest → FitsNames (Folders ∷ components) names ↔ FitsNames (Folders ∷ left) rest
up_to_below components names left rest up = (
  (λ fits. let some = fits_below_some components names fits in fits_below_more left rest some.0 (up_to_first components names left rest some.0 up some.1)),
  (λ fits. no_folder (up_to_fits components names left rest up fits)),
)

pub up_to_here : (components : List Component) (names : List (List ℕ)) (left : List Component) (rest : List (List ℕ)) → FitsUpTo components names left rest → FitsNames components names ↔ FitsNames (Folders ∷ left) rest
up_to_here components names left rest up = ((λ fits. up_to_first components names left rest 0 up fits), (λ fits. up_to_fits components names left rest up fits))

-- a loop over components and names carries what fits
pub record Carries (components : List Component) (names : List (List ℕ)) (at : List Component) (left : List (List ℕ)) : Type 0 where
  pub fits : FitsNames at left → FitsNames components names
  pub only : FitsNames components names → FitsNames at left
  pub up_to : (others : List Component) (rest : List (List ℕ)) → FitsUpTo at left others rest → FitsUpTo components names others rest

pub carries_start : (components : List Component) (names : List (List ℕ)) → Carries components names components names
carries_start components names = record { fits = λ f. f; only = λ f. f; up_to = λ others rest up. up }

-- one component and one name more
pub carries_more : (components : List Component) (names : List (List ℕ)) (pieces : List Piece) (at : List Component) (name : List ℕ) (left rest : List (List ℕ)) → Carries components names (Name pieces ∷ at) left → left ≡ name ∷ rest → FitsPieces pieces (chars name) → Carries components names at rest
carries_more components names pieces at name left rest carries is fits = record {
  fits = λ f. carries.fits (subst (FitsNames (Name pieces ∷ at)) (sym is) (one_name fits f));
  only = λ f. let first = fits_first pieces at left (carries.only f) in let same : first.others ≡ rest = tail (sym first.is ∙ is) in subst (FitsNames at) same first.rest;
  up_to = λ others more up. carries.up_to others more (subst (λ (n : List (List ℕ)). FitsUpTo (Name pieces ∷ at) n others more) (sym is) (behind fits up));
}
  where
    tail : {a b : List ℕ} {x y : List (List ℕ)} → a ∷ x ≡ b ∷ y → x ≡ y
    tail e = cc e

-- no name is left, or the next doesn't fit
pub carries_no_name : (components : List Component) (names : List (List ℕ)) (pieces : List Piece) (at : List Component) → Carries components names (Name pieces ∷ at) [] → FitsNames components names → ⊥
carries_no_name components names pieces at carries fits = cc (fits_first pieces at [] (carries.only fits)).is

pub carries_other : (components : List Component) (names : List (List ℕ)) (pieces : List Piece) (at : List Component) (name : List ℕ) (left rest : List (List ℕ)) → Carries components names (Name pieces ∷ at) left → left ≡ name ∷ rest → (FitsPieces pieces (chars name) → ⊥) → FitsNames components names → ⊥
carries_other components names pieces at name left rest carries is never fits =
    let first = fits_first pieces at left (carries.only fits) in
    let same : first.name ≡ name = head (sym first.is ∙ is) in never (subst (λ (n : List ℕ). FitsPieces pieces (chars n)) same first.fits)
  where
    head : {a b : List ℕ} {x y : List (List ℕ)} → a ∷ x ≡ b ∷ y → a ≡ b
    head e = cc e

-- `**` takes one name more
pub below_more : (components : List Component) (name : List ℕ) (left rest : List (List ℕ)) → left ≡ name ∷ rest → (FitsNames components left → ⊥) → FitsNames (Folders ∷ components) left ↔ FitsNames (Folders ∷ components) rest
below_more components name left rest is never = (
  (λ fits. by (fits_below_some components left fits)),
  (λ fits. subst (FitsNames (Folders ∷ components)) (sym is) (one_folder fits)),
)
  where
    by : (count : ℕ) × FitsNames components (drop count left) → FitsNames (Folders ∷ components) rest
    by some = cases some.0 some.1
      where
        cases : (count : ℕ) → FitsNames components (drop count left) → FitsNames (Folders ∷ components) rest
        cases zero fits = absurd (never fits)
        cases (suc count) fits = fits_below_more components rest count (no_folder (subst (λ (n : List (List ℕ)). FitsNames components (drop (suc count) n)) is fits))

pub below_none : (components : List Component) → (FitsNames components [] → ⊥) → FitsNames (Folders ∷ components) [] → ⊥
below_none components never fits = by (fits_below_some components [] fits)
  where
    by : (count : ℕ) × FitsNames components (drop count []) → ⊥
    by some = cases some.0 some.1
      where
        cases : (count : ℕ) → FitsNames components (drop count []) → ⊥
        cases zero fits = never fits
        cases (suc count) fits = never fits

-- what is found at the names that are left is found from the first on
pub found_front : (components : List Component) (names left : List (List ℕ)) (found : Front) → FitsNames (Folders ∷ components) names ↔ FitsNames (Folders ∷ components) left → (found ≡ front.Other → ⊥) → IsFront components left found → IsFoundFront components names found
found_front components names left front.Whole same never is = same.1 (no_folder is)
found_front components names left (front.Folders others rest) same never is =
    let below = up_to_below components left others.now (names_left rest) is in
    (up_to_shorter components left others.now (names_left rest) is, ((λ fits. below.0 (same.0 fits)), (λ fits. same.1 (below.1 fits))))
found_front components names left front.Other same never is = absurd (never refl)

-- the first components, fewer than all
pub may_hold_more : (pieces : List Piece) (components : List Component) (name : List ℕ) (rest : List (List ℕ)) → FitsPieces pieces (chars name) → MayHold (Name pieces ∷ components) (name ∷ rest) ↔ MayHold components rest
may_hold_more pieces components name rest fits = (
  (λ may. by may.count may.fewer may.fits),
  (λ may. record { count = suc may.count; fewer = omega (arith, may.fewer); fits = one_name fits may.fits }),
)
  where
    by : (count : ℕ) → count < length (Name pieces ∷ components) → FitsNames (take count (Name pieces ∷ components)) (name ∷ rest) → MayHold components rest
    by zero l f = absurd (cc (fits_none (name ∷ rest) f))
    by (suc count) l f =
        let first = fits_first pieces (take count components) (name ∷ rest) f in
        let same : first.others ≡ rest = cc first.is in record { count = count; fewer = omega arith; fits = subst (FitsNames (take count components)) same first.rest }

pub may_hold_other : (pieces : List Piece) (components : List Component) (name : List ℕ) (rest : List (List ℕ)) → (FitsPieces pieces (chars name) → ⊥) → MayHold (Name pieces ∷ components) (name ∷ rest) → ⊥
may_hold_other pieces components name rest never may = by may.count may.fits
  where
    by : (count : ℕ) → FitsNames (take count (Name pieces ∷ components)) (name ∷ rest) → ⊥
    by zero f = cc (fits_none (name ∷ rest) f)
    by (suc count) f =
        let first = fits_first pieces (take count components) (name ∷ rest) f in
        let same : first.name ≡ name = cc first.is in never (subst (λ (n : List ℕ). FitsPieces pieces (chars n)) same first.fits)

all_below : (names : List (List ℕ)) → FitsNames (Folders ∷ []) names
all_below [] = no_folder no_names
all_below (name ∷ names) = one_folder (all_below names)

pub may_hold_below : (components : List Component) (names : List (List ℕ)) → 0 < length components → MayHold (Folders ∷ components) names
may_hold_below components names some = record { count = 1; fewer = omega arith; fits = all_below names }

pub may_hold_only : (component : Component) (name : List ℕ) (rest : List (List ℕ)) → MayHold (component ∷ []) (name ∷ rest) → ⊥
may_hold_only component name rest may = by may.count may.fewer may.fits
  where
    by : (count : ℕ) → count < length (component ∷ []) → FitsNames (take count (component ∷ [])) (name ∷ rest) → ⊥
    by zero l f = cc (fits_none (name ∷ rest) f)
    by (suc count) l f = omega arith

pub may_hold_end : (components : List Component) → 0 < length components → MayHold components []
may_hold_end components some = record { count = 0; fewer = some; fits = no_names }

pub may_hold_none : (names : List (List ℕ)) → MayHold [] names → ⊥
may_hold_none names may = omega (arith, may.fewer)

pub folders_if : (component : Component) → ((pieces : List Piece) → component ≡ Name pieces → ⊥) → component ≡ Folders
folders_if Folders never = refl
folders_if (Name pieces) never = absurd (never pieces refl)

pub some_name : (path : List ℕ) → names path ≡ [] → ⊥
some_name [] e = cc e
some_name (byte ∷ rest) e = by (nat_eq byte 47) (names rest) e
  where
    by : (b : Bool) (more : List (List ℕ)) → cond b ([] ∷ more) (in_front byte more) ≡ [] → ⊥
    by true more e = cc e
    by false [] e = cc e
    by false (first ∷ others) e = cc e

pub none_left_if : (left : Option (Bor (List ℕ))) → ((path : Bor (List ℕ)) → left ≡ Some path → ⊥) → names_left left ≡ []
none_left_if None never = refl
none_left_if (Some path) never = absurd (never path refl)

pub no_components : (components : List Component) → length components ≡ 0 → components ≡ []
no_components [] e = refl
no_components (first ∷ others) e = absurd (omega arith)

-- the answers of `may_hold`
pub may_hold_folders : (others : List Component) (name : List ℕ) (rest : List (List ℕ)) (b : Bool) → b ≡ nat_eq (length others) 0
    → (not b ≡ true → MayHold (Folders ∷ others) (name ∷ rest)) × (MayHold (Folders ∷ others) (name ∷ rest) → not b ≡ true)
may_hold_folders [] name rest b is = ((λ h. let wrong : not b ≡ false = ap not is in absurd (cc (h, wrong))), (λ may. absurd (may_hold_only Folders name rest may)))
may_hold_folders (first ∷ others) name rest b is = (
  (λ h. may_hold_below (first ∷ others) (name ∷ rest) (omega arith)),
  (λ may. ap not (is ∙ ne_eqb (length (first ∷ others)) 0 (λ (e : length (first ∷ others) ≡ 0). omega arith))),
)

pub may_hold_all : (components : List Component) (b : Bool) → b ≡ nat_eq (length components) 0 → (not b ≡ true → MayHold components []) × (MayHold components [] → not b ≡ true)
may_hold_all [] b is = ((λ h. let wrong : not b ≡ false = ap not is in absurd (cc (h, wrong))), (λ may. absurd (may_hold_none [] may)))
may_hold_all (first ∷ others) b is = (
  (λ h. may_hold_end (first ∷ others) (omega arith)),
  (λ may. ap not (is ∙ ne_eqb (length (first ∷ others)) 0 (λ (e : length (first ∷ others) ≡ 0). omega arith))),
)

-- a text has a first name
pub some_names : (path : List ℕ) → (name : List ℕ) × (others : List (List ℕ)) × (names path ≡ name ∷ others)
some_names path = by (names path) refl
  where
    by : (all : List (List ℕ)) → names path ≡ all → (name : List ℕ) × (others : List (List ℕ)) × (names path ≡ name ∷ others)
    by [] e = absurd (some_name path e)
    by (name ∷ others) e = (name, others, e)
