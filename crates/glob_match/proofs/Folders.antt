-- The folders on a path that is matched.
use Rattle.std.proofs.Common.{◌≡◌, ◌≢◌, ℕ, zero, suc, ◌<◌, List, [], ◌∷◌, ◌++◌, ◌∙◌, ap, sym, refl, subst, length, take, Bool, true, false, cond, nat_eq, inl, inr, ◌⊎◌, arith, length-append}
use Rattle.std.proofs.lemmas.Bool.{and_parts, and_from}
use Rattle.std.specs.List.{list_all}
use Rattle.std.specs.Str.{chars}
use Rattle.glob_match.proofs.Walks.{some_name}
use Rattle.glob_match.specs.declared.pattern.Component.{Component}
use Rattle.glob_match.specs.declared.pattern.Component.TheVariants.{Folders, Name}
use Rattle.glob_match.specs.declared.pattern.Piece.{Piece}
use Rattle.glob_match.specs.declared.pattern.Piece.TheVariants.{Single}
use Rattle.glob_match.specs.declared.pattern.Unit.TheVariants.{Star}
use Rattle.glob_match.specs.Fits.{FitsPieces}
use Rattle.glob_match.specs.GlobText.{IsGlobText}
use Rattle.glob_match.specs.GlobMatch.{FitsNames, no_names, one_name, no_folder, one_folder, MatchesPath, ListsFolder}
use Rattle.glob_match.specs.Path.{in_front, names, is_absolute, relative, is_name}
use Rattle.glob_match.specs.Pattern.{Pattern, are_two_stars, component, components, last_components, ends_in_name}

-- the names of a path that is cut at a slash
names-cut : (folder rest : List ℕ) → names (folder ++ 47 ∷ rest) ≡ names folder ++ names rest
names-cut [] rest = refl
names-cut (byte ∷ folder) rest = by (nat_eq byte 47) (names-cut folder rest)
  where
    front : (all others : List (List ℕ)) → (all ≡ [] → ⊥) → in_front byte (all ++ others) ≡ in_front byte all ++ others
    front [] others never = absurd (never refl)
    front (name ∷ all) others never = refl

    by : (b : Bool) → names (folder ++ 47 ∷ rest) ≡ names folder ++ names rest
        → cond b ([] ∷ names (folder ++ 47 ∷ rest)) (in_front byte (names (folder ++ 47 ∷ rest))) ≡ cond b ([] ∷ names folder) (in_front byte (names folder)) ++ names rest
    by true e = ap (λ (n : List (List ℕ)). [] ∷ n) e
    by false e = ap (in_front byte) e ∙ front (names folder) (names rest) (some_name folder)

relative-cut : (folder rest : List ℕ) → folder ≢ [] → relative (folder ++ 47 ∷ rest) ≡ relative folder ++ 47 ∷ rest
relative-cut [] rest never = absurd (never refl)
relative-cut (byte ∷ folder) rest never = by (nat_eq byte 47)
  where
    by : (b : Bool) → cond b (folder ++ 47 ∷ rest) (byte ∷ (folder ++ 47 ∷ rest)) ≡ cond b folder (byte ∷ folder) ++ 47 ∷ rest
    by true = refl
    by false = refl

absolute-cut : (folder rest : List ℕ) → folder ≢ [] → is_absolute (folder ++ 47 ∷ rest) ≡ is_absolute folder
absolute-cut [] rest never = absurd (never refl)
absolute-cut (byte ∷ folder) rest never = refl

all_front : (xs ys : List (List ℕ)) → list_all is_name (xs ++ ys) ≡ true → list_all is_name xs ≡ true
all_front [] ys h = refl
all_front (x ∷ xs) ys h = let parts = and_parts (is_name x) (list_all is_name (xs ++ ys)) h in and_from (is_name x) (list_all is_name xs) parts.0 (all_front xs ys parts.1)

-- the last component is a name
pub record EndsInName (components : List Component) : Type 0 where
  pub before : List Component
  pub pieces : List Piece
  pub is : components ≡ before ++ Name pieces ∷ []

pub ends_behind : (component : Component) (components : List Component) → EndsInName (component ∷ components) → ((pieces : List Piece) × (component ∷ components ≡ Name pieces ∷ [])) ⊎ EndsInName components
ends_behind component components ends = by ends.before ends.is
  where
    by : (before : List Component) → component ∷ components ≡ before ++ Name ends.pieces ∷ [] → ((pieces : List Piece) × (component ∷ components ≡ Name pieces ∷ [])) ⊎ EndsInName components
    by [] e = inl (ends.pieces, e)
    by (own ∷ before) e = let same : components ≡ before ++ Name ends.pieces ∷ [] = cc e in inr (record { before = before; pieces = ends.pieces; is = same })

ends_more : (component : Component) (components : List Component) → EndsInName components → EndsInName (component ∷ components)
ends_more component components ends = record { before = component ∷ ends.before; pieces = ends.pieces; is = ap (λ (c : List Component). component ∷ c) ends.is }

last_ends : (pieces : List Piece) → EndsInName (last_components pieces)
last_ends pieces = by (are_two_stars pieces)
  where
    by : (b : Bool) → EndsInName (cond b (Folders ∷ Name (Single Star ∷ []) ∷ []) (Name pieces ∷ []))
    by true = record { before = Folders ∷ []; pieces = Single Star ∷ []; is = refl }
    by false = record { before = []; pieces = pieces; is = refl }

-- by the test
pub ends_by : (components : List Component) → ends_in_name components ≡ true → EndsInName components
ends_by [] h = absurd (cc h)
ends_by (Folders ∷ []) h = absurd (cc h)
ends_by (Name pieces ∷ []) h = record { before = []; pieces = pieces; is = refl }
ends_by (component ∷ next ∷ others) h = ends_more component (next ∷ others) (ends_by (next ∷ others) h)

ends_in_last : (pieces : List Piece) → ends_in_name (last_components pieces) ≡ true
ends_in_last pieces = by (are_two_stars pieces)
  where
    by : (b : Bool) → ends_in_name (cond b (Folders ∷ Name (Single Star ∷ []) ∷ []) (Name pieces ∷ [])) ≡ true
    by true = refl
    by false = refl

ends_behind_all : (before components : List Component) → ends_in_name components ≡ true → ends_in_name (before ++ components) ≡ true
ends_behind_all [] components h = h
ends_behind_all (first ∷ []) [] h = absurd (cc h)
ends_behind_all (first ∷ []) (component ∷ others) h = h
ends_behind_all (first ∷ next ∷ before) components h = ends_behind_all (next ∷ before) components h

pub ends_read : (all before : List Component) (pieces : List Piece) → all ≡ before ++ last_components pieces → ends_in_name all ≡ true
ends_read all before pieces is = rw is (ends_behind_all before (last_components pieces) (ends_in_last pieces))

components_end : (pieces : List Piece) (others : List (List Piece)) → EndsInName (components pieces others)
components_end pieces [] = last_ends pieces
components_end pieces (next ∷ others) = ends_more (component pieces) (components next others) (components_end next others)

-- some first components, fewer than all, fit the first names, fewer than all
record FitsFront (components : List Component) (names : List (List ℕ)) : Type 0 where
  count : ℕ
  fewer : count < length components
  fits : FitsNames (take count components) names

none_fit : (all : List Component) (names : List (List ℕ)) → FitsNames all names → all ≡ [] → names ≡ []
none_fit _ _ no_names e = refl
none_fit _ _ (one_name fits rest) e = absurd (cc e)
none_fit _ _ (no_folder rest) e = absurd (cc e)
none_fit _ _ (one_folder rest) e = absurd (cc e)

more_of : (components : List Component) (name : List ℕ) (front : List (List ℕ)) → EndsInName (Folders ∷ components) → FitsFront (Folders ∷ components) front → FitsFront (Folders ∷ components) (name ∷ front)
more_of components name front ends more = by more.count more.fewer more.fits
  where
    some : ((pieces : List Piece) × (Folders ∷ components ≡ Name pieces ∷ [])) ⊎ EndsInName components → 0 < length components
    some (inl h) = absurd (cc h.1)
    some (inr h) = nonempty h.before h.pieces h.is
      where
        nonempty : (before : List Component) (pieces : List Piece) → components ≡ before ++ Name pieces ∷ [] → 0 < length components
        nonempty before pieces e = omega (arith, ap length e, length-append before (Name pieces ∷ []))

    by : (count : ℕ) → count < length (Folders ∷ components) → FitsNames (take count (Folders ∷ components)) front → FitsFront (Folders ∷ components) (name ∷ front)
    by zero l fits =
        let none = none_fit [] front fits refl in
        let at_least = some (ends_behind Folders components ends) in
        record { count = 1; fewer = omega arith; fits = rw none (one_folder (no_folder no_names)) }
    by (suc count) l fits = record { count = suc count; fewer = l; fits = one_folder fits }

front_fits : (components : List Component) (all front : List (List ℕ)) (name : List ℕ) (behind : List (List ℕ)) → EndsInName components → all ≡ front ++ name ∷ behind → FitsNames components all → FitsFront components front
front_fits _ _ [] name behind ends e no_names = absurd (cc e)
front_fits _ _ (x ∷ front) name behind ends e no_names = absurd (cc e)
front_fits _ _ [] name behind ends e (one_name fits rest) = record { count = 0; fewer = omega arith; fits = no_names }
front_fits _ _ (x ∷ front) name behind ends e (one_name {pieces = pieces} {components = components} {name = own} {others = others} fits rest) =
    let tail : others ≡ front ++ name ∷ behind = cc e in
    let same : own ≡ x = cc e in
    by (ends_behind (Name pieces) components ends) tail same (λ behind_it. front_fits components others front name behind behind_it tail rest)
  where
    by : ((last : List Piece) × (Name pieces ∷ components ≡ Name last ∷ [])) ⊎ EndsInName components → others ≡ front ++ name ∷ behind → own ≡ x → (EndsInName components → FitsFront components front) → FitsFront (Name pieces ∷ components) (x ∷ front)
    by (inl h) tail same step =
        let none : components ≡ [] = cc h.1 in
        let nothing : others ≡ [] = none_fit components others rest none in absurd (no_middle front (sym nothing ∙ tail))
      where
        no_middle : (xs : List (List ℕ)) → [] ≡ xs ++ name ∷ behind → ⊥
        no_middle [] e = cc e
        no_middle (y ∷ ys) e = cc e
    by (inr h) tail same step = let more = step h in record { count = suc more.count; fewer = omega (arith, more.fewer); fits = one_name (subst (λ (n : List ℕ). FitsPieces pieces (chars n)) same fits) more.fits }
front_fits _ _ front name behind ends e (no_folder {components = components} {names = all} rest) = by (ends_behind Folders components ends) (λ behind_it. front_fits components all front name behind behind_it e rest)
  where
    by : ((last : List Piece) × (Folders ∷ components ≡ Name last ∷ [])) ⊎ EndsInName components → (EndsInName components → FitsFront components front) → FitsFront (Folders ∷ components) front
    by (inl h) step = absurd (cc h.1)
    by (inr h) step = let more = step h in record { count = suc more.count; fewer = omega (arith, more.fewer); fits = no_folder more.fits }
front_fits _ _ [] name behind ends e (one_folder rest) = record { count = 0; fewer = omega arith; fits = no_names }
front_fits _ _ (x ∷ front) name behind ends e (one_folder {components = components} {others = others} rest) =
    let tail : others ≡ front ++ name ∷ behind = cc e in
    more_of components x front ends (front_fits (Folders ∷ components) others front name behind ends tail rest)

-- a text has a first name
some_first : (text : List ℕ) → (name : List ℕ) × (others : List (List ℕ)) × (names text ≡ name ∷ others)
some_first text = by (names text) refl
  where
    by : (all : List (List ℕ)) → names text ≡ all → (name : List ℕ) × (others : List (List ℕ)) × (names text ≡ name ∷ others)
    by [] e = absurd (some_name text e)
    by (name ∷ others) e = (name, others, e)

pub folder_behind : (pattern : Pattern) (folder rest : List ℕ) → EndsInName pattern.components → folder ≢ [] → MatchesPath pattern (folder ++ 47 ∷ rest) → ListsFolder pattern folder
folder_behind pattern folder rest ends some matches =
    let cut : names (relative (folder ++ 47 ∷ rest)) ≡ names (relative folder) ++ names rest = ap names (relative-cut folder rest some) ∙ names-cut (relative folder) rest in
    let behind = some_first rest in
    let whole : names (relative (folder ++ 47 ∷ rest)) ≡ names (relative folder) ++ behind.0 ∷ behind.1 = cut ∙ ap (λ (n : List (List ℕ)). names (relative folder) ++ n) behind.2 in
    let front = front_fits pattern.components (names (relative (folder ++ 47 ∷ rest))) (names (relative folder)) behind.0 behind.1 ends whole matches.fits in
    inr (
      front.count,
      front.fewer,
      record {
        proper = all_front (names (relative folder)) (names rest) (rw cut at matches.proper);
        rooted = sym (absolute-cut folder rest some) ∙ matches.rooted;
        fits = front.fits;
      },
    )

pub folder_listed : (text : List ℕ) (pattern : Pattern) (folder rest : List ℕ) → IsGlobText text pattern → folder ≢ [] → MatchesPath pattern (folder ++ 47 ∷ rest) → ListsFolder pattern folder
folder_listed text pattern folder rest is = folder_behind pattern folder rest (subst EndsInName (sym (ap (λ (p : Pattern). p.components) is.means)) (components_end is.pieces is.others))
