-- Which folders were listed, over several calls.
use Rattle.std.proofs.Common.{◌≡◌, ℕ, ◌+◌, ◌<◌, ◌≤◌, List, [], ◌∷◌, ◌++◌, Bool, refl, sym, ap, subst, ◌∙◌, length, take, drop, map, get_or, inl, inr, ◌⊎◌, arith, append_assoc}
use Rattle.std.proofs.lemmas.List.{take-append-drop}
use Rattle.std.proofs.lemmas.List.Elements.{Contains-append_left, Contains-append_cases, Contains-push}
use Rattle.std.specs.Prelude.{Contains, IsTrue, Option, None, Some, is_some, Result, Ok, Err}
use Rattle.std.specs.List.{IsDistinct}
use Rattle.std.specs.Str.{bytes_eq}
use Rattle.glob_match.specs.Pattern.{Pattern}
use Rattle.glob_match.specs.Start.{start}
use Rattle.outside.proofs.Telling.{told_same, told_weaker, told_then}
use Rattle.outside.specs.Listing.{newly_listed, listed_after}
use Rattle.outside.specs.TreeMeaning.{TreeMeaning}
use Rattle.outside.specs.World.{World, Told}
use Rattle.outside.specs.declared.fault.CallFault.{CallFault}
use Rattle.outside.specs.declared.fault.CallFault.TheVariants.{Failed, Memory}
use Rattle.outside.specs.declared.tree.Listed.{Listed}
use Rattle.tree_walk.proofs.Lists.{contains_none, contains_one, contains_first, one_more, distinct_none, distinct_append, Apart, distinct_parts, distinct_of}
use Rattle.tree_walk.proofs.Reaching.{start_met}
use Rattle.tree_walk.specs.Depth.{depth, level_of}
use Rattle.tree_walk.specs.Inner.Gained.{Gains, IsSorted}
use Rattle.tree_walk.specs.ListsOnce.{ListsFolders, ListsOnce}
use Rattle.tree_walk.specs.Inner.ListsSome.{ListsSome}
use Rattle.tree_walk.specs.Inner.Reached.{ReachesIn, Reaches}
use Rattle.tree_walk.specs.Starts.{IsStart, MayHold}
use Rattle.tree_walk.specs.Listings.{failures}
use Rattle.tree_walk.specs.Patterns.{patterns}
use Rattle.tree_walk.specs.declared.findings.Findings.{Findings}

distinct_one : (x : List ℕ) → IsDistinct bytes_eq (x ∷ [])
unfolding IsDistinct
distinct_one x = (tt, tt)

some_none : (P : List ℕ → Type 0) (now : List (List ℕ)) → ListsSome P now now
some_none P now = record { folders = []; goes_on = refl; each_due = λ x c. absurd (contains_none x c); each_once = distinct_none }

pub told_none : (P : List ℕ → Type 0) (now : Option (List (List ℕ))) → Told (ListsSome P) now now
told_none P now = told_same (ListsSome P) now (some_none P)

pub told_more : (P Q : List ℕ → Type 0) (old new : Option (List (List ℕ))) → ((x : List ℕ) → P x → Q x) → Told (ListsSome P) old new → Told (ListsSome Q) old new
told_more P Q old new more some =
    told_weaker (ListsSome P) (ListsSome Q) old new (λ x y s. record { folders = s.folders; goes_on = s.goes_on; each_due = λ folder c. more folder (s.each_due folder c); each_once = s.each_once }) some

-- one folder
pub told_one : (folder : List ℕ) (result : Result Listed CallFault) (old new : Option (List (List ℕ))) → new ≡ listed_after folder result old → Told (ListsSome (λ x. x ≡ folder)) old new
told_one folder result old new is = subst (λ (n : Option (List (List ℕ))). Told (ListsSome (λ x. x ≡ folder)) old n) (sym is) (by old)
  where
    one : (result : Result Listed CallFault) (now : List (List ℕ)) → ListsSome (λ x. x ≡ folder) now (newly_listed folder result ++ now)
    one (Ok _) now = record { folders = folder ∷ []; goes_on = refl; each_due = λ x c. sym (contains_one folder x c); each_once = distinct_one folder }
    one (Err Failed) now = record { folders = folder ∷ []; goes_on = refl; each_due = λ x c. sym (contains_one folder x c); each_once = distinct_one folder }
    one (Err Memory) now = some_none (λ x. x ≡ folder) now

    by : (now : Option (List (List ℕ))) → Told (ListsSome (λ x. x ≡ folder)) now (listed_after folder result now)
    by None = tt
    by (Some now) = one result now

some_then : (P Q R : List ℕ → Type 0) → ((x : List ℕ) → P x → R x) → ((x : List ℕ) → Q x → R x) → ((x : List ℕ) → P x → Q x → ⊥) → (old mid new : List (List ℕ)) → ListsSome P old mid → ListsSome Q mid new → ListsSome R old new
some_then P Q R first second apart old mid new a b = record {
  folders = b.folders ++ a.folders;
  goes_on = b.goes_on ∙ ap (λ (t : List (List ℕ)). b.folders ++ t) a.goes_on ∙ sym (append_assoc b.folders a.folders old);
  each_due = λ x c. elim (Contains-append_cases b.folders a.folders x c) [ inl later ↦ second x (b.each_due x later) | inr earlier ↦ first x (a.each_due x earlier) ];
  each_once = distinct_append b.folders a.folders b.each_once a.each_once (λ x later earlier. apart x (a.each_due x earlier) (b.each_due x later));
}

-- the next of some folders
module _ (folders : List (List ℕ)) where
  pub of_front : (i : ℕ) (x : List ℕ) → Contains (take i folders) x → Contains folders x
  of_front i x c = subst (λ (xs : List (List ℕ)). Contains xs x) (take-append-drop i folders) (Contains-append_left (take i folders) (drop i folders) x c)

  pub told_next : (i : ℕ) (folder : List ℕ) → i < length folders → folder ≡ get_or folders i folder → IsDistinct bytes_eq folders → (old mid new : Option (List (List ℕ)))
      → Told (ListsSome (Contains (take i folders))) old mid → Told (ListsSome (λ x. x ≡ folder)) mid new → Told (ListsSome (Contains (take (i + 1) folders))) old new
  told_next i folder within is distinct old mid new a b =
      told_then (ListsSome (Contains (take i folders))) (ListsSome (λ x. x ≡ folder)) (ListsSome (Contains (take (i + 1) folders))) old mid new
      (λ x y z first second. some_then (Contains (take i folders)) (λ x. x ≡ folder) (Contains (take (i + 1) folders)) earlier now apart x y z first second) a b
    where
      one : take (i + 1) folders ≡ take i folders ++ folder ∷ []
      one = one_more (λ (_ : List ℕ). Unit {0}) folders i folder within is

      front : IsDistinct bytes_eq (take (i + 1) folders)
      front = (distinct_parts (take (i + 1) folders) (drop (i + 1) folders) (subst (IsDistinct bytes_eq) (sym (take-append-drop (i + 1) folders)) distinct)).left

      parts : Apart (take i folders) (folder ∷ [])
      parts = distinct_parts (take i folders) (folder ∷ []) (subst (IsDistinct bytes_eq) one front)

      earlier : (x : List ℕ) → Contains (take i folders) x → Contains (take (i + 1) folders) x
      earlier x c = subst (λ (xs : List (List ℕ)). Contains xs x) (sym one) (Contains-append_left (take i folders) (folder ∷ []) x c)

      now : (x : List ℕ) → x ≡ folder → Contains (take (i + 1) folders) x
      now x same = subst (λ (xs : List (List ℕ)). Contains xs x) (sym one) (subst (Contains (take i folders ++ folder ∷ [])) (sym same) (Contains-push (take i folders) folder))

      apart : (x : List ℕ) → Contains (take i folders) x → x ≡ folder → ⊥
      apart x c same = parts.apart x c (subst (Contains (folder ∷ [])) (sym same) (contains_first folder []))

-- the folders of one level
abbrev pub IsDue : List (List ℕ) → List (List ℕ) → ℕ → List ℕ → Type 0
IsDue found starts level folder = Contains found folder ⊎ (Contains starts folder × (level_of folder ≡ level))

pub told_level : (found starts due folders : List (List ℕ)) (level : ℕ) → Gains (λ folder. Contains starts folder × (level_of folder ≡ level)) found due → IsSorted due folders → (old new : Option (List (List ℕ)))
    → (IsDistinct bytes_eq folders → Told (ListsSome (Contains folders)) old new) → Told (ListsSome (IsDue found starts level)) old new
told_level found starts due folders level with_starts sorted old new some =
    told_more (Contains folders) (IsDue found starts level) old new (λ x c. with_starts.only x (sorted.only x c)) (some (distinct_of folders sorted.ascends))

-- all that was listed lies above the level
pub record ListsAbove (include : List Pattern) (told : Bool) (level : ℕ) (old new : List (List ℕ)) : Type 0 where
  pub folders : List (List ℕ)
  pub goes_on : new ≡ folders ++ old
  pub each_met : (folder : List ℕ) → Contains folders folder → IsStart include folder ⊎ MayHold include folder
  pub each_once : IsTrue told → IsDistinct bytes_eq folders
  pub each_above : IsTrue told → (folder : List ℕ) → Contains folders folder → depth folder < level

above_then : (include : List Pattern) (told : Bool) (level : ℕ) (P : List ℕ → Type 0) → ((x : List ℕ) → P x → IsStart include x ⊎ MayHold include x) → (IsTrue told → (x : List ℕ) → P x → depth x ≡ level)
    → (old mid new : List (List ℕ)) → ListsAbove include told level old mid → ListsSome P mid new → ListsAbove include told (level + 1) old new
above_then include told level P met at old mid new a b = record {
  folders = b.folders ++ a.folders;
  goes_on = b.goes_on ∙ ap (λ (t : List (List ℕ)). b.folders ++ t) a.goes_on ∙ sym (append_assoc b.folders a.folders old);
  each_met = λ x c. elim (Contains-append_cases b.folders a.folders x c) [ inl later ↦ met x (b.each_due x later) | inr earlier ↦ a.each_met x earlier ];
  each_once = λ is. distinct_append b.folders a.folders b.each_once (a.each_once is) (λ x later earlier. absurd (omega (arith, at is x (b.each_due x later), a.each_above is x earlier)));
  each_above = λ is x c. elim (Contains-append_cases b.folders a.folders x c) [
    | inl later ↦ omega (arith, at is x (b.each_due x later))
    | inr earlier ↦ omega (arith, a.each_above is x earlier)
  ];
}

module _ {T : Type 0} (meaning : TreeMeaning T) (include : List Pattern) where
  abbrev pub HasListed : ℕ → T → T → Type 0
  HasListed level old new = Told (ListsAbove include (is_some (meaning.world old)) level) (meaning.listed old) (meaning.listed new)

  pub listed_none : (tree : T) → HasListed 0 tree tree
  listed_none tree =
      told_same (ListsAbove include (is_some (meaning.world tree)) 0) (meaning.listed tree)
      (λ now. record { folders = []; goes_on = refl; each_met = λ x c. absurd (contains_none x c); each_once = λ _. distinct_none; each_above = λ _ x c. absurd (contains_none x c) })

  pub listed_in_all : (level : ℕ) (old new : T) → level ≤ 33 → HasListed level old new → ListsOnce meaning include old new
  listed_in_all level old new shallow listed =
      told_weaker (ListsAbove include (is_some (meaning.world old)) level) (ListsFolders include (is_some (meaning.world old))) (meaning.listed old) (meaning.listed new)
      (λ x y a. record { folders = a.folders; goes_on = a.goes_on; each_met = a.each_met; each_once = a.each_once; none_deep = λ is folder c. omega (arith, a.each_above is folder c, shallow) }) listed

  pub listed_next : (exclude : List Pattern) (starts : List (List ℕ)) → starts ≡ map start include → (level : ℕ) → level ≤ 32 → (found : Findings) (old between new : T) → Reaches meaning (patterns include exclude) level found old between
      → HasListed level old between → Told (ListsSome (IsDue found.folders.items starts level)) (meaning.listed between) (meaning.listed new) → HasListed (level + 1) old new
  listed_next exclude starts from_include level shallow found old between new reached before some =
      let told = is_some (meaning.world old) in
      let Due = IsDue found.folders.items starts level in
      told_then (ListsAbove include told level) (ListsSome Due) (ListsAbove include told (level + 1)) (meaning.listed old) (meaning.listed between) (meaning.listed new) (λ x y z a b. above_then include told level Due met at x y z a b) before some
    where
      found_at : (w x : Option World) → IsTrue (is_some w) → Told (ReachesIn (patterns include exclude) level (failures reached.fails reached.unnamed) found) w x → (folder : List ℕ) → Contains found.folders.items folder → depth folder ≡ level
      found_at None x is in_it folder c = absurd (cc is)
      found_at (Some w) None is in_it folder c = absurd in_it
      found_at (Some w) (Some x) is in_it folder c = (in_it.are_folders folder c).0

      met : (x : List ℕ) → IsDue found.folders.items starts level x → IsStart include x ⊎ MayHold include x
      met x due = elim due [ inl was ↦ inr (reached.may_hold x was) | inr begins ↦ inl (start_met include starts x from_include begins.0) ]

      at : IsTrue (is_some (meaning.world old)) → (x : List ℕ) → IsDue found.folders.items starts level x → depth x ≡ level
      at is x due = elim due [ inl was ↦ found_at (meaning.world old) (meaning.world between) is reached.world x was | inr begins ↦ omega (arith, begins.1, shallow) ]
