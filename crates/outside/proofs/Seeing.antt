-- The agent's own events, while others move; and the handles, opened and given back.
use Rattle.std.proofs.Common.{◌≡◌, ◌≢◌, ℕ, List, [], ◌∷◌, ◌++◌, Bool, true, false, cond, not, ◌==◌, refl, sym, ap, ◌∙◌, eq-eqb}
use Rattle.std.specs.Prelude.{None, Some, option_map, find, filter}
use Rattle.std.proofs.lemmas.Bool.{eqb-true, ne_eqb}
use Rattle.outside.specs.World.{Event, create, append, rename, remove, look, miss, unlisted, History}
use Rattle.outside.specs.Moment.{AreLawful, Moves}
use Rattle.outside.specs.Reading.{file_of}
use Rattle.outside.specs.Seen.{looked, missed, left_unlisted}

-- a reading of histories that only the agent's own events change
abbrev Skips : {X : Type 0} → (History → X) → Type 0
Skips read =
    ((file : ℕ) (path : List ℕ) (before : History) → read (create file path ∷ before) ≡ read before)
    × ((file : ℕ) (more : List ℕ) (before : History) → read (append file more ∷ before) ≡ read before)
    × ((file : ℕ) (path : List ℕ) (before : History) → read (rename file path ∷ before) ≡ read before)
    × ((file : ℕ) (before : History) → read (remove file ∷ before) ≡ read before)

module _ {X : Type 0} (read : History → X) (skips : Skips read) where
  steps_skip : (steps : List Event) (old : History) → AreLawful steps old → read (steps ++ old) ≡ read old
  steps_skip [] old lawful = refl
  steps_skip (create file path ∷ steps) old lawful = skips.0 file path (steps ++ old) ∙ steps_skip steps old lawful.1
  steps_skip (append file more ∷ steps) old lawful = skips.1 file more (steps ++ old) ∙ steps_skip steps old lawful.1
  steps_skip (rename file path ∷ steps) old lawful = skips.2 file path (steps ++ old) ∙ steps_skip steps old lawful.1
  steps_skip (remove file ∷ steps) old lawful = skips.3 file (steps ++ old) ∙ steps_skip steps old lawful.1
  steps_skip (look _ ∷ steps) old lawful = absurd (let no : false ≡ true = lawful.0 in cc)
  steps_skip (miss _ ∷ steps) old lawful = absurd (let no : false ≡ true = lawful.0 in cc)
  steps_skip (unlisted _ ∷ steps) old lawful = absurd (let no : false ≡ true = lawful.0 in cc)

  moves_skip : (old new : History) → Moves old new → read new ≡ read old
  moves_skip old new moves = ap read moves.goes_on ∙ steps_skip moves.steps old moves.lawful

pub looks_stay : (old new : History) → Moves old new → looked new ≡ looked old
looks_stay = moves_skip looked ((λ _ _ _. refl), (λ _ _ _. refl), (λ _ _ _. refl), (λ _ _. refl))

pub misses_stay : (old new : History) → Moves old new → missed new ≡ missed old
misses_stay = moves_skip missed ((λ _ _ _. refl), (λ _ _ _. refl), (λ _ _ _. refl), (λ _ _. refl))

pub unlisted_stay : (old new : History) → Moves old new → left_unlisted new ≡ left_unlisted old
unlisted_stay = moves_skip left_unlisted ((λ _ _ _. refl), (λ _ _ _. refl), (λ _ _ _. refl), (λ _ _. refl))

abbrev Handles : Type 0
Handles = List (ℕ × ℕ)

-- what isn't there stays when it is given up
none_given_up : (handle : ℕ) (handles : Handles) → file_of handles handle ≡ None → filter (λ pair. not (pair.0 == handle)) handles ≡ handles
none_given_up handle [] none = refl
none_given_up handle (first ∷ others) none =
    let P : Bool → Type 0 = λ t. option_map (λ (pair : ℕ × ℕ). pair.1) (cond t (Some first) (find (λ pair. pair.0 == handle) others)) ≡ None → cond (not t) (first ∷ filter (λ pair. not (pair.0 == handle)) others) (filter (λ pair. not (pair.0 == handle)) others) ≡ first ∷ others in
    let all : P (first.0 == handle) = elim (first.0 == handle) as P [ true ↦ λ is. absurd (cc) | false ↦ λ is. ap (λ rest. first ∷ rest) (none_given_up handle others is) ] in
    all none

pub given_back : (handle file : ℕ) (handles : Handles) → file_of handles handle ≡ None → filter (λ pair. not (pair.0 == handle)) ((handle, file) ∷ handles) ≡ handles
given_back handle file handles none =
    let same : (handle == handle) ≡ true = eq-eqb handle handle refl in
    rw same (none_given_up handle handles none)

-- another handle stands for what it stood for
pub others_stay : (handle other : ℕ) (handles : Handles) → other ≢ handle → file_of (filter (λ pair. not (pair.0 == handle)) handles) other ≡ file_of handles other
others_stay handle other [] apart = refl
others_stay handle other (first ∷ others) apart =
    let rest = others_stay handle other others apart in
    let P : Bool → Type 0 = λ t. (first.0 == handle) ≡ t → file_of (cond (not t) (first ∷ filter (λ pair. not (pair.0 == handle)) others) (filter (λ pair. not (pair.0 == handle)) others)) other ≡ file_of (first ∷ others) other in
    let yes : P true = λ same.
    let differs : (first.0 == other) ≡ false = ne_eqb first.0 other (λ is. apart (sym is ∙ eqb-true first.0 handle same)) in
    rw differs rest in
    let no : P false = λ _. elim (first.0 == other) as (λ t. option_map (λ (pair : ℕ × ℕ). pair.1) (cond t (Some first) (find (λ pair. pair.0 == other) (filter (λ pair. not (pair.0 == handle)) others))) ≡ option_map (λ (pair : ℕ × ℕ). pair.1) (cond t (Some first) (find (λ pair. pair.0 == other) others))) [ true ↦ refl | false ↦ rest ] in
    let all : P (first.0 == handle) = elim (first.0 == handle) as P [ true ↦ yes | false ↦ no ] in
    all refl

pub none_after : (handle : ℕ) (handles : Handles) → file_of (filter (λ pair. not (pair.0 == handle)) handles) handle ≡ None
none_after handle [] = refl
none_after handle (first ∷ others) =
    let P : Bool → Type 0 = λ t. (first.0 == handle) ≡ t → file_of (cond (not t) (first ∷ filter (λ pair. not (pair.0 == handle)) others) (filter (λ pair. not (pair.0 == handle)) others)) handle ≡ None in
    let no : P false = λ differs. rw differs (none_after handle others) in
    let all : P (first.0 == handle) = elim (first.0 == handle) as P [ true ↦ λ _. none_after handle others | false ↦ no ] in
    all refl
