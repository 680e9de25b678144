-- At most as many paths lose their files as there are events that take a name.
use Rattle.std.proofs.Common.{◌≡◌, ◌≢◌, ◌⊎◌, ℕ, ◌+◌, ◌≤◌, List, [], ◌∷◌, ◌++◌, length, map, reverse, Bool, true, false, cond, not, ◌==◌, Option, None, Some, refl, sym, ap, subst, ◌∙◌, arith, inl, inr}
use Rattle.std.specs.Prelude.{Contains, option_map, find}
use Rattle.std.specs.Cmp.{IsEquivalence}
use Rattle.std.specs.List.{AllByRecursion, IsDistinct}
use Rattle.std.specs.Str.{bytes_eq}
use Rattle.std.proofs.lemmas.Bool.{cases_eq, eqb-true}
use Rattle.std.proofs.lemmas.List.{length-append, reverse-reverse, nil_from_length}
use Rattle.std.proofs.lemmas.List.Sorted.{IsPermutation-reverse}
use Rattle.std.proofs.lemmas.Map.Keys.{IsDistinct-head, IsDistinct-tail, IsDistinct-cons, IsDistinct-IsPermutation}
use Rattle.std.proofs.lemmas.Map.Made.{is_member-Decides, length-le_from_is_member}
use Rattle.std.proofs.lemmas.Slice.Eq.{bytes_eq-Decides}
use Rattle.file_pass.proofs.Listing.{contains_none, contains_cons}
use Rattle.file_pass.proofs.Turned.{first_there, behind_there, in_reverse}
use Rattle.file_pass.specs.Turns.{Turn, looks_at, misses_path, finds_none, path_of, gone_of}
use Rattle.outside.proofs.Naming.{one_name}
use Rattle.outside.specs.Lawful.{IsLawful}
use Rattle.outside.specs.World.{Event, create, append, rename, remove, look, miss, unlisted, History, Names, without, names, file_at}
use Rattle.standing.specs.Moments.{IsLater}
use Rattle.standing.specs.Sums.{partings}
use Rattle.tree_walk.proofs.Lists.{distinct_of}
use Rattle.tree_walk.specs.Walked.{Ascends}

abbrev pub Texts : Type 0
Texts = List (List ℕ)

same_path : (a b : List ℕ) → bytes_eq a b ≡ true → a ≡ b
same_path a b = (bytes_eq-Decides a b).0

bytes_equivalence : IsEquivalence bytes_eq
bytes_equivalence = record {
  refl = λ x. (bytes_eq-Decides x x).1 refl;
  symm = λ x y. flips x y (bytes_eq x y) (bytes_eq y x) refl refl;
  congr = λ x y z same. ap (λ (w : List ℕ). bytes_eq w z) (same_path x y same);
}
  where
    flips : (x y : List ℕ) (s t : Bool) → bytes_eq x y ≡ s → bytes_eq y x ≡ t → s ≡ t
    flips x y true true is has = refl
    flips x y false false is has = refl
    flips x y true false is has = sym ((bytes_eq-Decides y x).1 (sym (same_path x y is))) ∙ has
    flips x y false true is has = sym is ∙ (bytes_eq-Decides x y).1 (sym (same_path y x has))

-- ---- the name that an event takes

-- what is found at a path is here or behind
found_first : (n : List ℕ × ℕ) (ns : Names) (path : List ℕ) (file : ℕ) → file_at (n ∷ ns) path ≡ Some file → (n.0 ≡ path) ⊎ (file_at ns path ≡ Some file)
found_first n ns path file found =
    let P : Bool → Type 0 = λ t. bytes_eq n.0 path ≡ t → option_map (λ (name : List ℕ × ℕ). name.1) (cond t (Some n) (find (λ name. bytes_eq name.0 path) ns)) ≡ Some file → (n.0 ≡ path) ⊎ (file_at ns path ≡ Some file) in
    let all : P (bytes_eq n.0 path) = elim (bytes_eq n.0 path) as P [ true ↦ λ same is. inl (same_path n.0 path same) | false ↦ λ _ is. inr is ] in
    all refl found

abbrev paths_in : Names → Texts
paths_in ns = map (λ (n : List ℕ × ℕ). n.0) ns

path_among : (ns : Names) (path : List ℕ) (file : ℕ) → file_at ns path ≡ Some file → Contains (paths_in ns) path
path_among [] path file found = absurd (cc)
path_among (n ∷ ns) path file found = elim (found_first n ns path file found) [
  | inl here ↦ subst (λ (p : List ℕ). Contains (n.0 ∷ paths_in ns) p) here (first_there n.0 (paths_in ns))
  | inr behind ↦ behind_there n.0 (paths_in ns) path (path_among ns path file behind)
]

-- a path names the file, or none does
abbrev Holder : Names → ℕ → Type 0
Holder all file = ((path : List ℕ) × (file_at all path ≡ Some file)) ⊎ ((path : List ℕ) → file_at all path ≡ Some file → ⊥)

abbrev NoneOf : Names → ℕ → Texts → Type 0
NoneOf all file paths = (path : List ℕ) → Contains paths path → file_at all path ≡ Some file → ⊥

holds_or : (all : Names) (file : ℕ) (path : List ℕ) → (file_at all path ≡ Some file) ⊎ (file_at all path ≡ Some file → ⊥)
holds_or all file path = by (file_at all path) refl
  where
    by : (at : Option ℕ) → file_at all path ≡ at → (file_at all path ≡ Some file) ⊎ (file_at all path ≡ Some file → ⊥)
    by None is = inr (λ held. let never : None ≡ Some file = sym is ∙ held in cc)
    by (Some other) is = elim (cases_eq other file) [
      | inl same ↦ inl (is ∙ ap (λ (n : ℕ). Some n) same)
      | inr differs ↦ inr (λ held. let same : Some other ≡ Some file = sym is ∙ held in differs (cc))
    ]

holder_among : (all : Names) (file : ℕ) (paths : Texts) → ((path : List ℕ) × (file_at all path ≡ Some file)) ⊎ NoneOf all file paths
holder_among all file [] = inr (λ path c held. contains_none path c)
holder_among all file (first ∷ paths) = elim (holds_or all file first) [
  | inl held ↦ inl (first, held)
  | inr not_held ↦ elim (holder_among all file paths) [
    | inl found ↦ inl found
    | inr none ↦ inr (λ path c held. elim (contains_cons first paths path c) [
      | inl same ↦ not_held (ap (λ (p : List ℕ). file_at all p) same ∙ held)
      | inr there ↦ none path there held
    ])
  ]
]

holder : (all : Names) (file : ℕ) → Holder all file
holder all file = elim (holder_among all file (paths_in all)) [
  | inl found ↦ inl found
  | inr none ↦ inr (λ path held. none path (path_among all path file held) held)
]

-- a path that loses its file when a file's names are taken named this one
pub without_keeps : (file : ℕ) (ns : Names) (path : List ℕ) (other : ℕ) → other ≢ file → file_at ns path ≡ Some other → file_at (without file ns) path ≡ Some other
without_keeps file [] path other differs found = absurd (cc)
without_keeps file (n ∷ ns) path other differs found =
    let rest = without_keeps file ns path other differs in
    let P : Bool → Bool → Type 0 = λ same own. bytes_eq n.0 path ≡ same → (n.1 == file) ≡ own
    → option_map (λ (name : List ℕ × ℕ). name.1) (cond same (Some n) (find (λ name. bytes_eq name.0 path) ns)) ≡ Some other
    → file_at (cond (not own) (n ∷ without file ns) (without file ns)) path ≡ Some other in
    let mine : P true true = λ same own is. absurd (differs (let here : Some n.1 ≡ Some other = is in sym (cc) ∙ eqb-true n.1 file own)) in
    let kept : P true false = λ same own is. rw same is in
    let other_taken : P false true = λ same own is. rest is in
    let other_kept : P false false = λ same own is. rw same (rest is) in
    let all : P (bytes_eq n.0 path) (n.1 == file) = elim (bytes_eq n.0 path) as (λ s. P s (n.1 == file)) [
      | true ↦ elim (n.1 == file) as (λ o. P true o) [ true ↦ mine | false ↦ kept ]
      | false ↦ elim (n.1 == file) as (λ o. P false o) [ true ↦ other_taken | false ↦ other_kept ]
    ] in
    all refl refl found

taken_by : (file : ℕ) (ns : Names) (path : List ℕ) (other : ℕ) → file_at ns path ≡ Some other → file_at (without file ns) path ≡ None → file_at ns path ≡ Some file
taken_by file ns path other found none = elim (cases_eq other file) [
  | inl same ↦ found ∙ ap (λ (n : ℕ). Some n) same
  | inr differs ↦ (let kept = without_keeps file ns path other differs found in let never : None ≡ Some other = sym none ∙ kept in absurd (cc))
]

-- ---- paths that lose their files

-- the path named a file at a moment, and none at a later one
pub record WasLost (old new : History) (path : List ℕ) : Type 0 where
  pub file : ℕ
  pub first : History
  pub after : IsLater old first
  pub named : file_at (names first) path ≡ Some file
  pub last : History
  pub between : IsLater first last
  pub before : IsLater last new
  pub none : file_at (names last) path ≡ None

-- it was lost before the newest event, or with it
record LostNow (event : Event) (mid : History) (path : List ℕ) : Type 0 where
  file : ℕ
  held : file_at (names mid) path ≡ Some file
  gone : file_at (names (event ∷ mid)) path ≡ None

lost_cases : (event : Event) (old mid : History) (path : List ℕ) → WasLost old (event ∷ mid) path → WasLost old mid path ⊎ LostNow event mid path
lost_cases event old mid path lost = by lost.before.events lost.before.goes_on
  where
    -- the moment without a file is the newest one
    now : event ∷ mid ≡ lost.last → (events : List Event) → lost.last ≡ events ++ lost.first → WasLost old mid path ⊎ LostNow event mid path
    now is [] goes_on = (let same : lost.last ≡ lost.first = goes_on in
        let never : None ≡ Some lost.file = sym lost.none ∙ ap (λ (h : History). file_at (names h) path) same ∙ lost.named in absurd (cc))
    now is (e ∷ events) goes_on =
        let whole : event ∷ mid ≡ e ∷ (events ++ lost.first) = is ∙ goes_on in
        let mid_is : mid ≡ events ++ lost.first = cc in
        let gone : file_at (names (event ∷ mid)) path ≡ None = ap (λ (h : History). file_at (names h) path) is ∙ lost.none in
        at (file_at (names mid) path) refl mid_is gone
      where
        at : (o : Option ℕ) → file_at (names mid) path ≡ o → mid ≡ events ++ lost.first → file_at (names (event ∷ mid)) path ≡ None → WasLost old mid path ⊎ LostNow event mid path
        at None none mid_is gone = inl (record {
          file = lost.file;
          first = lost.first;
          after = lost.after;
          named = lost.named;
          last = mid;
          between = record { events = events; goes_on = mid_is };
          before = record { events = []; goes_on = refl };
          none = none;
        })
        at (Some file) held mid_is gone = inr (record { file = file; held = held; gone = gone })

    by : (events : List Event) → event ∷ mid ≡ events ++ lost.last → WasLost old mid path ⊎ LostNow event mid path
    by [] goes_on = now goes_on lost.between.events lost.between.goes_on
    by (e ∷ events) goes_on = inl (record {
      file = lost.file;
      first = lost.first;
      after = lost.after;
      named = lost.named;
      last = lost.last;
      between = lost.between;
      before = record { events = events; goes_on = (let whole : event ∷ mid ≡ e ∷ (events ++ lost.last) = goes_on in cc) };
      none = lost.none;
    })

-- all that were lost are among these
record AreLost (old new : History) : Type 0 where
  paths : Texts
  few : length paths + partings old ≤ partings new
  all : (path : List ℕ) → WasLost old new path → Contains paths path

-- an event that leaves the files of paths that have one
keeps_lost : (event : Event) (old mid : History) → partings (event ∷ mid) ≡ partings mid → ((path : List ℕ) → LostNow event mid path → ⊥) → AreLost old mid → AreLost old (event ∷ mid)
keeps_lost event old mid same never before = record {
  paths = before.paths;
  few = omega (arith, before.few, same);
  all = λ path lost. elim (lost_cases event old mid path lost) [ inl early ↦ before.all path early | inr now ↦ absurd (never path now) ];
}

-- an event that takes the names of a file
takes_lost : (event : Event) (file : ℕ) (old mid : History) → IsLawful mid → partings (event ∷ mid) ≡ partings mid + 1 → ((path : List ℕ) → LostNow event mid path → file_at (names mid) path ≡ Some file) → AreLost old mid → AreLost old (event ∷ mid)
takes_lost event file old mid lawful same own before = elim (holder (names mid) file) [
  | inl found ↦ record {
    paths = found.0 ∷ before.paths;
    few = omega (arith, before.few, same);
    all = λ path lost. elim (lost_cases event old mid path lost) [
      | inl early ↦ behind_there found.0 before.paths path (before.all path early)
      | inr now ↦ subst (λ (p : List ℕ). Contains (found.0 ∷ before.paths) p) (one_name mid found.0 path file lawful found.1 (own path now)) (first_there found.0 before.paths)
    ];
  }
  | inr none ↦ record {
    paths = before.paths;
    few = omega (arith, before.few, same);
    all = λ path lost. elim (lost_cases event old mid path lost) [ inl early ↦ before.all path early | inr now ↦ absurd (none path (own path now)) ];
  }
]

held_still : (mid : History) (event : Event) → names (event ∷ mid) ≡ names mid → (path : List ℕ) → LostNow event mid path → ⊥
held_still mid event same path lost =
    let never : None ≡ Some lost.file = sym lost.gone ∙ ap (λ (ns : Names). file_at ns path) same ∙ lost.held in
    absurd (cc)

-- a name more, in front
with_name : (ns : Names) (file : ℕ) (name path : List ℕ) → file_at ((name, file) ∷ ns) path ≡ None → file_at ns path ≡ None
with_name ns file name path none =
    let P : Bool → Type 0 = λ t. option_map (λ (n : List ℕ × ℕ). n.1) (cond t (Some (name, file)) (find (λ n. bytes_eq n.0 path) ns)) ≡ None → file_at ns path ≡ None in
    let all : P (bytes_eq name path) = elim (bytes_eq name path) as P [ true ↦ λ is. absurd (cc) | false ↦ λ is. is ] in
    all none

all_lost : (events : List Event) (old : History) → IsLawful (events ++ old) → AreLost old (events ++ old)
all_lost [] old lawful = record {
  paths = [];
  few = omega arith;
  all = λ path lost. absurd (none_lost lost.first lost.last path lost.file lost.before lost.between lost.after lost.named lost.none);
}
  where
    none_lost : (first last : History) (path : List ℕ) (file : ℕ) → IsLater last old → IsLater first last → IsLater old first → file_at (names first) path ≡ Some file → file_at (names last) path ≡ None → ⊥
    none_lost first last path file before between after named none =
        let one = ap length before.goes_on ∙ length-append before.events last in
        let two = ap length between.goes_on ∙ length-append between.events first in
        let three = ap length after.goes_on ∙ length-append after.events old in
        let empty : [] ≡ between.events = sym (nil_from_length between.events (omega (arith, one, two, three))) in
        let same : last ≡ first = between.goes_on ∙ ap (λ (es : List Event). es ++ first) (sym empty) in
        let never : None ≡ Some file = sym none ∙ ap (λ (h : History). file_at (names h) path) same ∙ named in
        absurd (cc)
all_lost (create file name ∷ events) old lawful =
    let mid : History = events ++ old in
    keeps_lost (create file name) old mid refl (λ path lost. let none = with_name (names mid) file name path lost.gone in let never : None ≡ Some lost.file = sym none ∙ lost.held in absurd (cc)) (all_lost events old lawful.1)
all_lost (append file more ∷ events) old lawful = keeps_lost (append file more) old (events ++ old) refl (held_still (events ++ old) (append file more) refl) (all_lost events old lawful.1)
all_lost (rename file name ∷ events) old lawful =
    let mid : History = events ++ old in
    takes_lost (rename file name) file old mid lawful.1 refl (λ path lost. taken_by file (names mid) path lost.file lost.held (with_name (without file (names mid)) file name path lost.gone)) (all_lost events old lawful.1)
all_lost (remove file ∷ events) old lawful =
    let mid : History = events ++ old in
    takes_lost (remove file) file old mid lawful.1 refl (λ path lost. taken_by file (names mid) path lost.file lost.held lost.gone) (all_lost events old lawful.1)
all_lost (look file ∷ events) old lawful = keeps_lost (look file) old (events ++ old) refl (held_still (events ++ old) (look file) refl) (all_lost events old lawful.1)
all_lost (miss path ∷ events) old lawful = keeps_lost (miss path) old (events ++ old) refl (held_still (events ++ old) (miss path) refl) (all_lost events old lawful.1)
all_lost (unlisted path ∷ events) old lawful = keeps_lost (unlisted path) old (events ++ old) refl (held_still (events ++ old) (unlisted path) refl) (all_lost events old lawful.1)

few_in : (paths lost : Texts) → IsDistinct bytes_eq paths → ((path : List ℕ) → Contains paths path → Contains lost path) → length paths ≤ length lost
few_in paths lost distinct each = length-le_from_is_member bytes_equivalence paths lost distinct
    (λ path is. (is_member-Decides bytes_eq-Decides lost path).1 (each path ((is_member-Decides bytes_eq-Decides paths path).0 is)))

pub lost_few : (old new : History) (paths : Texts) → IsLawful new → IsLater old new → IsDistinct bytes_eq paths → ((path : List ℕ) → Contains paths path → WasLost old new path) → length paths + partings old ≤ partings new
lost_few old new paths lawful later distinct each =
    let lost : AreLost old new = subst (λ (h : History). AreLost old h) (sym later.goes_on) (all_lost later.events old (subst IsLawful later.goes_on lawful)) in
    omega (arith, few_in paths lost.paths distinct (λ path c. lost.all path (each path c)), lost.few)

-- ---- of a pass

pub gone_among : (turns : List Turn) (path : List ℕ) → Contains (gone_of turns) path → Contains (map path_of turns) path
gone_among [] path c = absurd (contains_none path c)
gone_among (looks_at here ∷ turns) path c = behind_there here.path (map path_of turns) path (gone_among turns path c)
gone_among (misses_path other ∷ turns) path c = behind_there other (map path_of turns) path (gone_among turns path c)
gone_among (finds_none other ∷ turns) path c = elim (contains_cons other (gone_of turns) path c) [
  | inl same ↦ subst (λ (p : List ℕ). Contains (other ∷ map path_of turns) p) same (first_there other (map path_of turns))
  | inr there ↦ behind_there other (map path_of turns) path (gone_among turns path there)
]

differs_all : (first : List ℕ) (turns : List Turn) → AllByRecursion (λ y. bytes_eq first y ≡ false) (map path_of turns) → AllByRecursion (λ y. bytes_eq first y ≡ false) (gone_of turns)
differs_all first [] all = tt
differs_all first (looks_at here ∷ turns) all = differs_all first turns all.1
differs_all first (misses_path other ∷ turns) all = differs_all first turns all.1
differs_all first (finds_none other ∷ turns) all = (all.0, differs_all first turns all.1)

gone_distinct : (turns : List Turn) → IsDistinct bytes_eq (map path_of turns) → IsDistinct bytes_eq (gone_of turns)
gone_distinct [] distinct = distinct
gone_distinct (looks_at here ∷ turns) distinct = gone_distinct turns (IsDistinct-tail bytes_eq here.path (map path_of turns) distinct)
gone_distinct (misses_path other ∷ turns) distinct = gone_distinct turns (IsDistinct-tail bytes_eq other (map path_of turns) distinct)
gone_distinct (finds_none other ∷ turns) distinct =
    IsDistinct-cons bytes_eq other (gone_of turns) (differs_all other turns (IsDistinct-head bytes_eq other (map path_of turns) distinct))
    (gone_distinct turns (IsDistinct-tail bytes_eq other (map path_of turns) distinct))

pub gone_differ : (paths : Texts) (turns : List Turn) → map path_of turns ≡ reverse paths → Ascends paths → IsDistinct bytes_eq (gone_of turns)
gone_differ paths turns each ascends =
    let reversed : IsDistinct bytes_eq (reverse paths) = IsDistinct-IsPermutation bytes_eq bytes_equivalence.symm paths (reverse paths) (IsPermutation-reverse paths) (distinct_of paths ascends) in
    gone_distinct turns (subst (λ (ps : Texts). IsDistinct bytes_eq ps) (sym each) reversed)

pub gone_there : (paths : Texts) (turns : List Turn) → map path_of turns ≡ reverse paths → (path : List ℕ) → Contains (gone_of turns) path → Contains paths path
gone_there paths turns each path c =
    let reversed : Contains (reverse paths) path = subst (λ (ps : Texts). Contains ps path) each (gone_among turns path c) in
    subst (λ (ps : Texts). Contains ps path) (reverse-reverse paths) (in_reverse (reverse paths) path reversed)
