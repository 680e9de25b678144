-- Elements of lists, and paths that are added to others.
use Rattle.std.proofs.Common.{◌≡◌, ℕ, ◌+◌, ◌<◌, ◌≤◌, List, [], ◌∷◌, ◌++◌, sym, ap, subst, ◌∙◌, length, take, get_or, true, false, inl, inr, ◌⊎◌, arith}
use Rattle.std.proofs.lemmas.List.Elements.{Contains-append_left, Contains-append_right, Contains-append_cases, Contains-push, Contains-push_cases}
use Rattle.std.proofs.lemmas.List.{take_more, take_all}
use Rattle.std.proofs.lemmas.Slice.Eq.{bytes_eq-Decides}
use Rattle.std.proofs.lemmas.Bool.{cases_Bool}
use Rattle.std.specs.Prelude.{Contains}
use Rattle.std.specs.List.{Any, AllByRecursion, IsDistinct}
use Rattle.std.specs.Str.{bytes_eq}
use Rattle.std.proofs.lemmas.Map.Keys.{IsDistinct-from_sorted}
use Rattle.std.proofs.lemmas.Map.Text.{is_eq-slice_cmp}
use Rattle.std.specs.Cmp.Lexicographic.{slice_cmp}
use Rattle.std.specs.Ordering.{nat_cmp, eq_by_cmp}
use Rattle.tree_walk.specs.Inner.Gained.{Gains}
use Rattle.tree_walk.specs.Walked.{Ascends}

module _ {X : Type 0} where
  pub contains_none : (x : X) → Contains [] x → ⊥
  contains_none x c = absurd (omega (arith, c.1))

  pub contains_one : (y x : X) → Contains (y ∷ []) x → y ≡ x
  contains_one y x c = elim (Contains-push_cases [] y x c) [ inl none ↦ absurd (contains_none x none) | inr same ↦ same ]

  pub contains_first : (x : X) (xs : List X) → Contains (x ∷ xs) x
  contains_first x xs = Contains-append_left (x ∷ []) xs x (Contains-push [] x)

  pub contains_behind : (y : X) (xs : List X) (x : X) → Contains xs x → Contains (y ∷ xs) x
  contains_behind y xs x c = Contains-append_right (y ∷ []) xs x c

  pub contains_cases : (y : X) (xs : List X) (x : X) → Contains (y ∷ xs) x → (y ≡ x) ⊎ Contains xs x
  contains_cases y xs x c = elim (Contains-append_cases (y ∷ []) xs x c) [ inl one ↦ inl (contains_one y x one) | inr behind ↦ inr behind ]

  -- an element of which this holds
  pub record Found (P : X → Type 0) (xs : List X) : Type 0 where
    pub one : X
    pub there : Contains xs one
    pub holds : P one

  pub any_found : (P : X → Type 0) (xs : List X) → Any P xs → Found P xs
  any_found P xs any = record { one = any.1; there = (any.0, any.2, any.3); holds = any.4 }

  pub found_any : (P : X → Type 0) (xs : List X) (x : X) → Contains xs x → P x → Any P xs
  found_any P xs x c holds = (c.0, x, c.1, c.2, holds)

  pub any_one : (P : X → Type 0) (x : X) → P x → Any P (x ∷ [])
  any_one P x holds = found_any P (x ∷ []) x (contains_first x []) holds

  pub any_of_one : (P : X → Type 0) (x : X) → Any P (x ∷ []) → P x
  any_of_one P x any = let found = any_found P (x ∷ []) any in subst P (sym (contains_one x found.one found.there)) found.holds

  pub any_left : (P : X → Type 0) (xs ys : List X) → Any P xs → Any P (xs ++ ys)
  any_left P xs ys any = let found = any_found P xs any in found_any P (xs ++ ys) found.one (Contains-append_left xs ys found.one found.there) found.holds

  pub any_right : (P : X → Type 0) (xs ys : List X) → Any P ys → Any P (xs ++ ys)
  any_right P xs ys any = let found = any_found P ys any in found_any P (xs ++ ys) found.one (Contains-append_right xs ys found.one found.there) found.holds

  pub any_cases : (P : X → Type 0) (xs ys : List X) → Any P (xs ++ ys) → Any P xs ⊎ Any P ys
  any_cases P xs ys any =
      let found = any_found P (xs ++ ys) any in
      elim (Contains-append_cases xs ys found.one found.there) [
        | inl left ↦ inl (found_any P xs found.one left found.holds)
        | inr right ↦ inr (found_any P ys found.one right found.holds)
      ]

pub gains_none : (P : List ℕ → Type 0) (xs : List (List ℕ)) → ((x : List ℕ) → P x → ⊥) → Gains P xs xs
gains_none P xs never = record { keeps = λ x c. c; adds = λ x p. absurd (never x p); only = λ x c. inl c }

-- one more, of which this holds
pub gains_one : (P : List ℕ → Type 0) (xs : List (List ℕ)) (path : List ℕ) → P path → ((x : List ℕ) → P x → path ≡ x) → Gains P xs (xs ++ path ∷ [])
gains_one P xs path holds only = record {
  keeps = λ x c. Contains-append_left xs (path ∷ []) x c;
  adds = λ x p. subst (Contains (xs ++ path ∷ [])) (only x p) (Contains-push xs path);
  only = λ x c. elim (Contains-push_cases xs path x c) [ inl before ↦ inl before | inr same ↦ inr (subst P same holds) ];
}

pub gains_then : (P Q R : List ℕ → Type 0) (xs ys zs : List (List ℕ)) → Gains P xs ys → Gains Q ys zs → ((x : List ℕ) → R x → P x ⊎ Q x) → ((x : List ℕ) → P x → R x) → ((x : List ℕ) → Q x → R x) → Gains R xs zs
gains_then P Q R xs ys zs a b parts first second = record {
  keeps = λ x c. b.keeps x (a.keeps x c);
  adds = λ x r. elim (parts x r) [ inl p ↦ b.keeps x (a.adds x p) | inr q ↦ b.adds x q ];
  only = λ x c. elim (b.only x c) [ inl mid ↦ elim (a.only x mid) [ inl before ↦ inl before | inr p ↦ inr (first x p) ] | inr q ↦ inr (second x q) ];
}

-- lists whose elements differ
pub distinct_none : IsDistinct bytes_eq []
unfolding IsDistinct
distinct_none = tt

apart_at : (x : List ℕ) (ys : List (List ℕ)) → AllByRecursion (λ y. bytes_eq x y ≡ false) ys → Contains ys x → ⊥
apart_at x [] apart c = contains_none x c
apart_at x (y ∷ ys) apart c = elim (contains_cases y ys x c) [
  | inl same ↦ absurd (let one : bytes_eq x y ≡ true = (bytes_eq-Decides x y).1 (sym same) in cc (one, apart.0))
  | inr behind ↦ apart_at x ys apart.1 behind
]

all_apart : (x : List ℕ) (ys : List (List ℕ)) → (Contains ys x → ⊥) → AllByRecursion (λ y. bytes_eq x y ≡ false) ys
all_apart x [] never = tt
all_apart x (y ∷ ys) never = (
  elim (cases_Bool (bytes_eq x y)) [
    | inl same ↦ absurd (never (subst (λ (z : List ℕ). Contains (y ∷ ys) z) (sym ((bytes_eq-Decides x y).0 same)) (contains_first y ys)))
    | inr differs ↦ differs
  ],
  all_apart x ys (λ c. never (contains_behind y ys x c)),
)

pub distinct_append : (xs ys : List (List ℕ)) → IsDistinct bytes_eq xs → IsDistinct bytes_eq ys → ((x : List ℕ) → Contains xs x → Contains ys x → ⊥) → IsDistinct bytes_eq (xs ++ ys)
unfolding IsDistinct
distinct_append [] ys first second apart = second
distinct_append (x ∷ xs) ys first second apart = (
  all_apart x (xs ++ ys) (λ c. elim (Contains-append_cases xs ys x c) [ inl left ↦ apart_at x xs first.0 left | inr right ↦ apart x (contains_first x xs) right ]),
  distinct_append xs ys first.1 second (λ z left right. apart z (contains_behind x xs z left) right),
)

-- of a list whose elements differ, its two parts
pub record Apart (xs ys : List (List ℕ)) : Type 0 where
  pub left : IsDistinct bytes_eq xs
  pub right : IsDistinct bytes_eq ys
  pub apart : (x : List ℕ) → Contains xs x → Contains ys x → ⊥

pub distinct_parts : (xs ys : List (List ℕ)) → IsDistinct bytes_eq (xs ++ ys) → Apart xs ys
unfolding IsDistinct
distinct_parts [] ys all = record { left = tt; right = all; apart = λ x none. absurd (contains_none x none) }
distinct_parts (x ∷ xs) ys all =
    let more = distinct_parts xs ys all.1 in
    record {
      left = (all_apart x xs (λ c. apart_at x (xs ++ ys) all.0 (Contains-append_left xs ys x c)), more.left);
      right = more.right;
      apart = λ z left right. elim (contains_cases x xs z left) [
        | inl same ↦ apart_at x (xs ++ ys) all.0 (Contains-append_right xs ys x (subst (Contains ys) (sym same) right))
        | inr behind ↦ more.apart z behind right
      ];
    }

-- ascending paths differ
pub distinct_of : (paths : List (List ℕ)) → Ascends paths → IsDistinct bytes_eq paths
unfolding IsDistinct
distinct_of paths ascends = differ paths (IsDistinct-from_sorted (slice_cmp nat_cmp) paths ascends)
  where
    same_all : (x : List ℕ) (ys : List (List ℕ)) → AllByRecursion (λ y. eq_by_cmp (slice_cmp nat_cmp) x y ≡ false) ys → AllByRecursion (λ y. bytes_eq x y ≡ false) ys
    same_all x [] all = tt
    same_all x (y ∷ ys) all = (sym (is_eq-slice_cmp x y) ∙ all.0, same_all x ys all.1)

    differ : (paths : List (List ℕ)) → IsDistinct (eq_by_cmp (slice_cmp nat_cmp)) paths → IsDistinct bytes_eq paths
    differ [] all = tt
    differ (x ∷ xs) all = (same_all x xs all.0, differ xs all.1)

-- a search that goes up
module _ {X : Type 0} (P : X → Type 0) (xs : List X) where
  pub one_more : (i : ℕ) (x : X) → i < length xs → x ≡ get_or xs i x → take (i + 1) xs ≡ take i xs ++ x ∷ []
  one_more i x within is = take_more xs i x within ∙ ap (λ (y : X). take i xs ++ y ∷ []) (sym is)

  pub none_yet : Any P (take 0 xs) → ⊥
  none_yet any = contains_none _ (any_found P [] any).there

  pub none_more : (i : ℕ) (x : X) → i < length xs → x ≡ get_or xs i x → (Any P (take i xs) → ⊥) → (P x → ⊥) → Any P (take (i + 1) xs) → ⊥
  none_more i x within is before here any = elim (any_cases P (take i xs) (x ∷ []) (subst (Any P) (one_more i x within is) any)) [ inl earlier ↦ before earlier | inr now ↦ here (any_of_one P x now) ]

  pub none_left : (i : ℕ) → length xs ≤ i → (Any P (take i xs) → ⊥) → Any P xs → ⊥
  none_left i all before any = before (subst (Any P) (sym (take_all i xs all)) any)

  pub any_at : (i : ℕ) (x : X) → i < length xs → x ≡ get_or xs i x → P x → Any P xs
  any_at i x within is holds = (i, x, within, sym is, holds)

-- the paths of a list of which this holds are added one by one
module _ (R : List ℕ → Type 0) (xs : List (List ℕ)) (i : ℕ) (x : List ℕ) (within : i < length xs) (is : x ≡ get_or xs i x) (before after : List (List ℕ)) (so_far : Gains (λ path. Contains (take i xs) path × R path) before after) where
  further : (path : List ℕ) → Contains (take i xs) path → Contains (take (i + 1) xs) path
  further path c = rw (one_more (λ (_ : List ℕ). Unit {0}) xs i x within is) (Contains-append_left (take i xs) (x ∷ []) path c)

  cases_at : (path : List ℕ) → Contains (take (i + 1) xs) path → Contains (take i xs) path ⊎ (x ≡ path)
  cases_at path c = Contains-push_cases (take i xs) x path (rw (one_more (λ (_ : List ℕ). Unit {0}) xs i x within is) at c)

  pub added : R x → Gains (λ path. Contains (take (i + 1) xs) path × R path) before (after ++ x ∷ [])
  added holds = record {
    keeps = λ path c. Contains-append_left after (x ∷ []) path (so_far.keeps path c);
    adds = λ path new. elim (cases_at path new.0) [
      | inl earlier ↦ Contains-append_left after (x ∷ []) path (so_far.adds path (earlier, new.1))
      | inr same ↦ subst (Contains (after ++ x ∷ [])) same (Contains-push after x)
    ];
    only = λ path c. elim (Contains-push_cases after x path c) [
      | inl earlier ↦ elim (so_far.only path earlier) [ inl old ↦ inl old | inr new ↦ inr (further path new.0, new.1) ]
      | inr same ↦ inr (subst (Contains (take (i + 1) xs)) same (rw (one_more (λ (_ : List ℕ). Unit {0}) xs i x within is) (Contains-push (take i xs) x)), subst R same holds)
    ];
  }

  pub passed : (R x → ⊥) → Gains (λ path. Contains (take (i + 1) xs) path × R path) before after
  passed never = record {
    keeps = so_far.keeps;
    adds = λ path new. elim (cases_at path new.0) [ inl earlier ↦ so_far.adds path (earlier, new.1) | inr same ↦ absurd (never (subst R (sym same) new.1)) ];
    only = λ path c. elim (so_far.only path c) [ inl old ↦ inl old | inr new ↦ inr (further path new.0, new.1) ];
  }
