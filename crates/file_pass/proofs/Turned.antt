-- What follows of turns, of which each path has one.
use Rattle.std.proofs.Common.{◌≡◌, ◌⊎◌, Less, ℕ, List, [], ◌∷◌, ◌++◌, map, reverse, get_or, refl, sym, ap, subst, ◌∙◌, inl, inr}
use Rattle.std.proofs.lemmas.List.{reverse-append, reverse-reverse}
use Rattle.std.proofs.lemmas.List.Elements.{Contains-get_or, Contains-push, Contains-append_left, Contains-append_right}
use Rattle.std.specs.Cmp.Lexicographic.{slice_cmp}
use Rattle.std.specs.List.{AllByRecursion}
use Rattle.std.specs.List.Sorted.{IsStrictlySortedBy}
use Rattle.std.specs.Ordering.{nat_cmp, is_lt}
use Rattle.std.specs.Prelude.{Contains, All, Some, None, IsTrue}
use Rattle.outside.specs.World.{History}
use Rattle.standing.specs.Look.{Look}
use Rattle.standing.specs.Looks.{Ascend}
use Rattle.standing.specs.Moments.{NamesThroughout}
use Rattle.standing.specs.Pass.{WasLookedAt}
use Rattle.file_pass.specs.Turns.{Turn, looks_at, misses_path, finds_none, path_of, looks_of, misses_of, gone_of, HadNone}
use Rattle.file_pass.proofs.Listing.{contains_none, contains_cons}

abbrev Texts : Type 0
Texts = List (List ℕ)

pub first_there : {A : Type 0} (x : A) (xs : List A) → Contains (x ∷ xs) x
first_there x xs = Contains-append_left (x ∷ []) xs x (Contains-push [] x)

pub behind_there : {A : Type 0} (y : A) (xs : List A) (x : A) → Contains xs x → Contains (y ∷ xs) x
behind_there y xs x c = Contains-append_right (y ∷ []) xs x c

pub in_reverse : {A : Type 0} (xs : List A) (x : A) → Contains xs x → Contains (reverse xs) x
in_reverse [] x c = absurd (contains_none x c)
in_reverse (y ∷ ys) x c = subst (λ l. Contains l x) (sym (reverse-append (y ∷ []) ys)) (elim (contains_cons y ys x c) [
  | inl same ↦ subst (λ z. Contains (reverse ys ++ y ∷ []) z) same (Contains-push (reverse ys) y)
  | inr there ↦ Contains-append_left (reverse ys) (y ∷ []) x (in_reverse ys x there)
])

all_of : {A : Type 0} (P : A → Type 0) (xs : List A) → ((x : A) → Contains xs x → P x) → All P xs
all_of P xs each = λ k d within. each (get_or xs k d) (Contains-get_or xs k d within)

-- the last of sorted texts is behind the others
record IsLast (front : Texts) (last : List ℕ) : Type 0 where
  sorted : IsStrictlySortedBy (slice_cmp nat_cmp) front
  above : (text : List ℕ) → Contains front text → slice_cmp nat_cmp text last ≡ Less

last_of : (front : Texts) (last : List ℕ) → IsStrictlySortedBy (slice_cmp nat_cmp) (front ++ last ∷ []) → IsLast front last
unfolding IsStrictlySortedBy
last_of [] last sorted = record { sorted = tt; above = λ text c. absurd (contains_none text c) }
last_of (first ∷ rest) last sorted =
    let behind = last_of rest last sorted.1 in
    record {
      sorted = (fewer rest sorted.0, behind.sorted);
      above = λ text c. elim (contains_cons first rest text c) [ inl same ↦ subst (λ (t : List ℕ). slice_cmp nat_cmp t last ≡ Less) same (ends rest sorted.0) | inr there ↦ behind.above text there ];
    }
  where
    fewer : (texts : Texts) → AllByRecursion (λ y. slice_cmp nat_cmp first y ≡ Less) (texts ++ last ∷ []) → AllByRecursion (λ y. slice_cmp nat_cmp first y ≡ Less) texts
    fewer [] all = tt
    fewer (text ∷ texts) all = (all.0, fewer texts all.1)

    ends : (texts : Texts) → AllByRecursion (λ y. slice_cmp nat_cmp first y ≡ Less) (texts ++ last ∷ []) → slice_cmp nat_cmp first last ≡ Less
    ends [] all = all.0
    ends (text ∷ texts) all = ends texts all.1

look_among : (turns : List Turn) (here : Look) → Contains (looks_of turns) here → Contains (map path_of turns) here.path
look_among [] here c = absurd (contains_none here c)
look_among (looks_at look ∷ turns) here c = elim (contains_cons look (looks_of turns) here c) [
  | inl same ↦ subst (λ (l : Look). Contains (look.path ∷ map path_of turns) l.path) same (first_there look.path (map path_of turns))
  | inr there ↦ behind_there look.path (map path_of turns) here.path (look_among turns here there)
]
look_among (misses_path path ∷ turns) here c = behind_there path (map path_of turns) here.path (look_among turns here c)
look_among (finds_none path ∷ turns) here c = behind_there path (map path_of turns) here.path (look_among turns here c)

less : (a b : List ℕ) → slice_cmp nat_cmp a b ≡ Less → IsTrue (is_lt (slice_cmp nat_cmp a b))
less a b is = rw is refl

ascends : (turns : List Turn) → IsStrictlySortedBy (slice_cmp nat_cmp) (reverse (map path_of turns)) → Ascend (looks_of turns)
ascends [] sorted = tt
ascends (looks_at here ∷ turns) sorted =
    let last = last_of (reverse (map path_of turns)) here.path (subst (IsStrictlySortedBy (slice_cmp nat_cmp)) (reverse-append (here.path ∷ []) (map path_of turns)) sorted) in (
      all_of (λ (before : Look). IsTrue (is_lt (slice_cmp nat_cmp before.path here.path))) (looks_of turns)
          (λ before c. less before.path here.path (last.above before.path (in_reverse (map path_of turns) before.path (look_among turns before c)))),
      ascends turns last.sorted,
    )
ascends (misses_path path ∷ turns) sorted = ascends turns (last_of (reverse (map path_of turns)) path (subst (IsStrictlySortedBy (slice_cmp nat_cmp)) (reverse-append (path ∷ []) (map path_of turns)) sorted)).sorted
ascends (finds_none path ∷ turns) sorted = ascends turns (last_of (reverse (map path_of turns)) path (subst (IsStrictlySortedBy (slice_cmp nat_cmp)) (reverse-append (path ∷ []) (map path_of turns)) sorted)).sorted

-- each path had one of three turns
turn_of : (turns : List Turn) (path : List ℕ) → Contains (map path_of turns) path → WasLookedAt (looks_of turns) path ⊎ (Contains (misses_of turns) path ⊎ Contains (gone_of turns) path)
turn_of [] path c = absurd (contains_none path c)
turn_of (looks_at here ∷ turns) path c = elim (contains_cons here.path (map path_of turns) path c) [
  | inl same ↦ inl (subst (λ (p : List ℕ). Contains (here.path ∷ map (λ (l : Look). l.path) (looks_of turns)) p) same (first_there here.path (map (λ (l : Look). l.path) (looks_of turns))))
  | inr there ↦ elim (turn_of turns path there) [ inl looked ↦ inl (behind_there here.path (map (λ (l : Look). l.path) (looks_of turns)) path looked) | inr other ↦ inr other ]
]
turn_of (misses_path other ∷ turns) path c = elim (contains_cons other (map path_of turns) path c) [
  | inl same ↦ inr (inl (subst (λ (p : List ℕ). Contains (other ∷ misses_of turns) p) same (first_there other (misses_of turns))))
  | inr there ↦ elim (turn_of turns path there) [ inl looked ↦ inl looked | inr rest ↦ elim rest [ inl missed ↦ inr (inl (behind_there other (misses_of turns) path missed)) | inr gone ↦ inr (inr gone) ] ]
]
turn_of (finds_none other ∷ turns) path c = elim (contains_cons other (map path_of turns) path c) [
  | inl same ↦ inr (inr (subst (λ (p : List ℕ). Contains (other ∷ gone_of turns) p) same (first_there other (gone_of turns))))
  | inr there ↦ elim (turn_of turns path there) [ inl looked ↦ inl looked | inr rest ↦ elim rest [ inl missed ↦ inr (inl missed) | inr gone ↦ inr (inr (behind_there other (gone_of turns) path gone)) ] ]
]

module _ (paths : Texts) (turns : List Turn) (each : map path_of turns ≡ reverse paths) where
  turned : reverse (map path_of turns) ≡ paths
  turned = ap reverse each ∙ reverse-reverse paths

  pub looks_ascend : IsStrictlySortedBy (slice_cmp nat_cmp) paths → Ascend (looks_of turns)
  looks_ascend sorted = ascends turns (subst (IsStrictlySortedBy (slice_cmp nat_cmp)) (sym turned) sorted)

  pub looks_among : (here : Look) → Contains (looks_of turns) here → Contains paths here.path
  looks_among here c = subst (λ (l : Texts). Contains l here.path) turned (in_reverse (map path_of turns) here.path (look_among turns here c))

  -- a path that named one file all the time was looked at or missed
  pub none_left_out : (old new : History) → ((path : List ℕ) → Contains (gone_of turns) path → HadNone old new path) → (path : List ℕ) (file : ℕ) → Contains paths path → NamesThroughout old new path file
      → WasLookedAt (looks_of turns) path ⊎ Contains (misses_of turns) path
  none_left_out old new had_none path file c throughout =
      elim (turn_of turns path (subst (λ (l : Texts). Contains l path) (sym each) (in_reverse paths path c))) [
        | inl looked ↦ inl looked
        | inr rest ↦ elim rest [
          | inl missed ↦ inr missed
          | inr gone ↦
              (let had = had_none path gone in
              let never : None ≡ Some file = sym had.none ∙ throughout had.moment had.after had.before in
              absurd (cc))
        ]
      ]
