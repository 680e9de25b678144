-- What paths name at a moment, and what lists leave of a history.
use Rattle.std.proofs.Common.{◌≡◌, ℕ, List, [], ◌∷◌, ◌++◌, refl, sym, ap, subst, ◌∙◌, Bool, true, false, cond, ◌&&◌, ◌||◌, nat_eq, ◌⊎◌, append_assoc, eq-eqb}
use Rattle.std.proofs.lemmas.Bool.{and_parts, and_from, and_right, or_right}
use Rattle.std.proofs.lemmas.Slice.Eq.{bytes_eq-Decides}
use Rattle.std.specs.Prelude.{Option, None, Some, option_map, find, is_some, IsTrue}
use Rattle.std.specs.List.{list_any, starts_with}
use Rattle.std.specs.Str.{bytes_eq}
use Rattle.outside.proofs.Naming.{file_no_folder}
use Rattle.outside.proofs.Seeing.{looks_stay, misses_stay, unlisted_stay}
use Rattle.outside.specs.Lawful.{IsLawful}
use Rattle.outside.specs.Listing.{is_folder, kind_at, path_within}
use Rattle.outside.specs.Moment.{Moves, AtOneMoment}
use Rattle.outside.specs.Path.{is_below}
use Rattle.outside.specs.World.{Event, History, Names, names, file_at, unlisted}
use Rattle.outside.specs.declared.tree.Kind.{Kind}
use Rattle.outside.specs.declared.tree.Kind.TheVariants.{File, Folder}
use Rattle.standing.proofs.MomentLemmas.{later_none, later_then}
use Rattle.standing.specs.Moments.{IsLater}
use Rattle.tree_walk.specs.Calls.{ListsOnly}
use Rattle.tree_walk.specs.Times.{WasOnce, WasAlways}

pub later_moves : {old new : History} → Moves old new → IsLater old new
later_moves moves = record { events = moves.steps; goes_on = moves.goes_on }

lawful_front : (events : List Event) (moment : History) → IsLawful (events ++ moment) → IsLawful moment
lawful_front [] moment lawful = lawful
lawful_front (event ∷ events) moment lawful = lawful_front events moment lawful.1

pub lawful_before : (moment new : History) → IsLater moment new → IsLawful new → IsLawful moment
lawful_before moment new later lawful = lawful_front later.events moment (subst IsLawful later.goes_on lawful)

pub lists_none : (history : History) → ListsOnly [] history history
lists_none history = record { later = later_none history; no_looks = refl; no_misses = refl; all_unlisteds = refl }

pub lists_moves : {old new : History} → Moves old new → ListsOnly [] old new
lists_moves {old} {new} moves = record { later = later_moves moves; no_looks = looks_stay old new moves; no_misses = misses_stay old new moves; all_unlisteds = unlisted_stay old new moves }

pub lists_failed : {folder : List ℕ} {fact : History → Type 0} {old new : History} → AtOneMoment (unlisted folder ∷ []) fact old new → ListsOnly (folder ∷ []) old new
lists_failed {folder} {fact} {old} {new} at =
    let before = lists_moves at.before in
    let after = lists_moves at.after in
    let here : IsLater at.moment (unlisted folder ∷ at.moment) = record { events = unlisted folder ∷ []; goes_on = refl } in
    record {
      later = later_then old at.moment new before.later (later_then at.moment (unlisted folder ∷ at.moment) new here after.later);
      no_looks = after.no_looks ∙ before.no_looks;
      no_misses = after.no_misses ∙ before.no_misses;
      all_unlisteds = after.all_unlisteds ∙ ap (λ (u : List (List ℕ)). folder ∷ u) before.all_unlisteds;
    }

pub lists_then : (first second : List (List ℕ)) (old mid new : History) → ListsOnly first old mid → ListsOnly second mid new → ListsOnly (second ++ first) old new
lists_then first second old mid new a b = record {
  later = later_then old mid new a.later b.later;
  no_looks = b.no_looks ∙ a.no_looks;
  no_misses = b.no_misses ∙ a.no_misses;
  all_unlisteds = b.all_unlisteds ∙ ap (λ (u : List (List ℕ)). second ++ u) a.all_unlisteds ∙ sym (append_assoc second first _);
}

-- what was once so in a part of the time
pub once_longer : (kind : Kind) (old from to new : History) (path : List ℕ) → IsLater old from → IsLater to new → WasOnce kind from to path → WasOnce kind old new path
once_longer kind old from to new path early late once = record { moment = once.moment; after = later_then old from once.moment early once.after; before = later_then once.moment to new once.before late; is = once.is }

pub always_shorter : (kind : Kind) (old from to new : History) (path : List ℕ) → IsLater old from → IsLater to new → WasAlways kind old new path → WasAlways kind from to path
always_shorter kind old from to new path early late always moment after before = always moment (later_then old from moment early after) (later_then moment to new before late)

-- the kind of a path
pub file_named : (ns : Names) (path : List ℕ) → kind_at ns path ≡ Some File → (file : ℕ) × (file_at ns path ≡ Some file)
file_named ns path kind = by (file_at ns path) refl (is_folder ns path) kind
  where
    by : (at : Option ℕ) → file_at ns path ≡ at → (folder : Bool) → cond (is_some at) (Some File) (cond folder (Some Folder) None) ≡ Some File → (file : ℕ) × (file_at ns path ≡ Some file)
    by (Some file) e folder k = (file, e)
    by None e true k = absurd (cc k)
    by None e false k = absurd (cc k)

pub named_kind : (ns : Names) (path : List ℕ) (file : ℕ) → file_at ns path ≡ Some file → kind_at ns path ≡ Some File
named_kind ns path file e = rw e refl

-- a test of paths that a named path passes
named_any : (test : List ℕ → Bool) (ns : Names) (path : List ℕ) (file : ℕ) → file_at ns path ≡ Some file → test path ≡ true → list_any (λ name. test name.0) ns ≡ true
named_any test [] path file found passes = absurd (cc found)
named_any test (n ∷ ns) path file found passes = by (bytes_eq n.0 path) refl found (λ behind. named_any test ns path file behind passes)
  where
    by : (b : Bool) → bytes_eq n.0 path ≡ b → option_map (λ (name : List ℕ × ℕ). name.1) (cond b (Some n) (find (λ name. bytes_eq name.0 path) ns)) ≡ Some file
        → (file_at ns path ≡ Some file → list_any (λ name. test name.0) ns ≡ true) → (test n.0 || list_any (λ name. test name.0) ns) ≡ true
    by true e f more = let same : test n.0 ≡ true = ap test ((bytes_eq-Decides n.0 path).0 e) ∙ passes in rw same refl
    by false e f more = or_right (test n.0) (list_any (λ name. test name.0) ns) (more f)

other_kind : (ns : Names) (path : List ℕ) → file_at ns path ≡ None → list_any (λ name. is_below path name.0) ns ≡ true → kind_at ns path ≡ Some Folder
other_kind ns path none below = rw none (by (bytes_eq path []) (bytes_eq path (47 ∷ [])) (list_any (λ name. is_below path name.0) ns) below)
  where
    by : (a b c : Bool) → c ≡ true → cond (a || (b || c)) (Some Folder) None ≡ Some Folder
    by true b c e = refl
    by false true c e = refl
    by false false c e = rw e refl

-- what a file's path lies below is a folder
pub folder_above : (history : History) (folder path : List ℕ) → IsLawful history → kind_at (names history) path ≡ Some File → IsTrue (is_below folder path) → kind_at (names history) folder ≡ Some Folder
folder_above history folder path lawful kind below =
    let file = file_named (names history) path kind in
    other_kind (names history) folder (file_no_folder history folder path file.0 lawful file.1 below) (named_any (is_below folder) (names history) path file.0 file.1 below)

-- where something is in it there is a folder
starts_shorter : (text front more : List ℕ) → starts_with nat_eq text (front ++ more) ≡ true → starts_with nat_eq text front ≡ true
starts_shorter [] [] more e = refl
starts_shorter (c ∷ text) [] more e = refl
starts_shorter [] (x ∷ front) more e = e
starts_shorter (c ∷ text) (x ∷ front) more e =
    let both = and_parts (nat_eq x c) (starts_with nat_eq text (front ++ more)) e in and_from (nat_eq x c) (starts_with nat_eq text front) both.0 (starts_shorter text front more both.1)

pub starts_self : (front more : List ℕ) → starts_with nat_eq (front ++ more) front ≡ true
starts_self [] [] = refl
starts_self [] (y ∷ more) = refl
starts_self (x ∷ front) more = and_from (nat_eq x x) (starts_with nat_eq (front ++ more) front) (eq-eqb x x refl) (starts_self front more)

any_more : (p q : List ℕ → Bool) (ns : Names) → ((x : List ℕ) → p x ≡ true → q x ≡ true) → list_any (λ name. p name.0) ns ≡ true → list_any (λ name. q name.0) ns ≡ true
any_more p q [] more e = e
any_more p q (n ∷ ns) more e = by (p n.0) refl e (any_more p q ns more)
  where
    by : (b : Bool) → p n.0 ≡ b → (b || list_any (λ name. p name.0) ns) ≡ true → (list_any (λ name. p name.0) ns ≡ true → list_any (λ name. q name.0) ns ≡ true) → (q n.0 || list_any (λ name. q name.0) ns) ≡ true
    by true h k step = let here : q n.0 ≡ true = more n.0 h in rw here refl
    by false h k step = or_right (q n.0) (list_any (λ name. q name.0) ns) (step k)

pub folder_there : (ns : Names) (folder name : List ℕ) (kind : Kind) → kind_at ns (path_within folder name) ≡ Some kind → is_folder ns folder ≡ true
folder_there ns [] name kind e = refl
folder_there ns (byte ∷ rest) name kind e = by (bytes_eq (byte ∷ rest) (47 ∷ [])) refl
  where
    folder : List ℕ
    folder = byte ∷ rest

    path : List ℕ
    path = folder ++ 47 ∷ name

    within : path ≡ (folder ++ 47 ∷ []) ++ name
    within = sym (append_assoc folder (47 ∷ []) name)

    not_root : (text : List ℕ) → bytes_eq (text ++ 47 ∷ name) [] ≡ false
    not_root [] = refl
    not_root (x ∷ text) = refl

    below : IsTrue (is_below folder path)
    below = subst (λ (t : List ℕ). starts_with nat_eq t (folder ++ 47 ∷ []) ≡ true) (sym within) (starts_self (folder ++ 47 ∷ []) name)

    lower : (x : List ℕ) → is_below path x ≡ true → is_below folder x ≡ true
    lower x h = starts_shorter x (folder ++ 47 ∷ []) (name ++ 47 ∷ []) (subst (λ (t : List ℕ). starts_with nat_eq x t ≡ true) (ap (λ (t : List ℕ). t ++ 47 ∷ []) within ∙ append_assoc (folder ++ 47 ∷ []) name (47 ∷ [])) h)

    some : (at : Option ℕ) → file_at ns path ≡ at → (f r l : Bool) → f ≡ false → r ≡ false → list_any (λ n. is_below path n.0) ns ≡ l
        → cond (is_some at) (Some File) (cond (f || (r || l)) (Some Folder) None) ≡ Some kind → list_any (λ n. is_below folder n.0) ns ≡ true
    some (Some file) at f r l ef er el k = named_any (is_below folder) ns path file at below
    some None at f r true ef er el k = any_more (is_below path) (is_below folder) ns lower el
    some None at f r false ef er el k = absurd (cc (rw (ef, er) at k))

    by : (t : Bool) → bytes_eq folder (47 ∷ []) ≡ t → (t || list_any (λ n. is_below folder n.0) ns) ≡ true
    by true h = refl
    by false h =
        let there : kind_at ns path ≡ Some kind = rw h at e in
        some (file_at ns path) refl (bytes_eq path []) (bytes_eq path (47 ∷ [])) (list_any (λ n. is_below path n.0) ns) refl (and_right (nat_eq byte 47) (bytes_eq (rest ++ 47 ∷ name) []) (not_root rest)) refl there
