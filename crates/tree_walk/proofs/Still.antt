-- A walk over a world in which no name changes, and paths in order.
use Rattle.std.proofs.Common.{◌≡◌, ℕ, List, [], ◌∷◌, ◌∙◌, ap, sym, refl, subst, length, inl, inr, ◌↔◌, arith}
use Rattle.std.proofs.lemmas.Bool.{cases_lt}
use Rattle.std.proofs.lemmas.Cmp.{nat_list_cmp_total}
use Rattle.std.specs.Cmp.Lexicographic.{slice_cmp}
use Rattle.std.specs.List.{AllByRecursion}
use Rattle.std.specs.List.Sorted.{IsStrictlySortedBy}
use Rattle.std.specs.Ordering.{nat_cmp, ordering_reverse}
use Rattle.std.specs.declared.cmp.Ordering.TheVariants.{Less, Greater}
use Rattle.std.specs.Prelude.{Contains}
use Rattle.glob_match.specs.Pattern.{Pattern}
use Rattle.outside.specs.Listing.{kind_at}
use Rattle.outside.specs.Path.{components, relative}
use Rattle.outside.specs.World.{World, Names}
use Rattle.outside.specs.declared.tree.Kind.TheVariants.{File}
use Rattle.standing.specs.Moments.{KeepsNames}
use Rattle.standing.specs.Pass.{IsReachable}
use Rattle.tree_walk.proofs.Lists.{contains_none, contains_first, contains_behind, contains_cases}
use Rattle.standing.specs.Included.{IsIncluded}
use Rattle.tree_walk.specs.Times.{IsOfKind, WasAlways}
use Rattle.tree_walk.specs.Listings.{failures}
use Rattle.tree_walk.specs.Patterns.{patterns}
use Rattle.tree_walk.specs.Walked.{Ascends, IsHidden, FindsIn}

none_in : (xs : List (List ℕ)) (x : List ℕ) → 0 ≡ length xs → Contains xs x → ⊥
none_in xs x none c = absurd (omega (arith, none, c.1))

pub found_whole : (include exclude : List Pattern) (paths : List (List ℕ)) (unnamed : ℕ) (old new : World) → ((path : List ℕ) → Contains paths path → IsIncluded include exclude path) → FindsIn (patterns include exclude) paths [] (failures 0 unnamed) old new
    → KeepsNames old.history new.history → (path : List ℕ) → Contains paths path ↔ (IsIncluded include exclude path × IsOfKind File old.history path)
found_whole include exclude paths unnamed old new included finds keeps path = (there, back)
  where
    not_hidden : IsHidden finds.unlisteds path → ⊥
    not_hidden hidden = none_in finds.unlisteds hidden.0 finds.each_fails hidden.1

    there : Contains paths path → IsIncluded include exclude path × IsOfKind File old.history path
    there c = let once = finds.are_files path c in (included path c, ap (λ (ns : Names). kind_at ns path) (sym (keeps once.moment once.after once.before)) ∙ once.is)

    back : IsIncluded include exclude path × IsOfKind File old.history path → Contains paths path
    back is =
        let always : WasAlways File old.history new.history path = λ moment after before. ap (λ (ns : Names). kind_at ns path) (keeps moment after before) ∙ is.1 in
        let far : (IsReachable path → ⊥) → Contains paths path = λ never. elim (finds.no_deep_left_out path is.0 never always) [
          | inl deep ↦ absurd (contains_none deep.0 deep.1)
          | inr hidden ↦ absurd (not_hidden hidden)
        ] in
        elim (cases_lt 33 (length (components (relative path)))) [
          | inl deeper ↦ far (λ near. absurd (omega (arith, near, deeper)))
          | inr near ↦ elim (finds.none_left_out path is.0 near always) [ inl c ↦ c | inr hidden ↦ absurd (not_hidden hidden) ]
        ]

-- paths that ascend are one list where they are the same paths
below_all : (x : List ℕ) (xs : List (List ℕ)) (path : List ℕ) → AllByRecursion (λ y. slice_cmp nat_cmp x y ≡ Less) xs → Contains xs path → slice_cmp nat_cmp x path ≡ Less
below_all x [] path all c = absurd (contains_none path c)
below_all x (y ∷ xs) path all c = elim (contains_cases y xs path c) [
  | inl same ↦ subst (λ (p : List ℕ). slice_cmp nat_cmp x p ≡ Less) same all.0
  | inr behind ↦ below_all x xs path all.1 behind
]

not_both : (x y : List ℕ) → slice_cmp nat_cmp x y ≡ Less → slice_cmp nat_cmp y x ≡ Less → ⊥
not_both x y a b = let turned : Less ≡ Greater = sym a ∙ nat_list_cmp_total.antisymm x y ∙ ap ordering_reverse b in cc turned

pub same_list : (paths other : List (List ℕ)) → Ascends paths → Ascends other → ((path : List ℕ) → Contains paths path ↔ Contains other path) → paths ≡ other
unfolding IsStrictlySortedBy
same_list [] [] a b same = refl
same_list [] (y ∷ ys) a b same = absurd (contains_none y ((same y).1 (contains_first y ys)))
same_list (x ∷ xs) [] a b same = absurd (contains_none x ((same x).0 (contains_first x xs)))
same_list (x ∷ xs) (y ∷ ys) a b same = ap (λ (p : List ℕ). p ∷ xs) first ∙ ap (λ (ps : List (List ℕ)). y ∷ ps) (same_list xs ys a.1 b.1 (λ path. (behind path, before path)))
  where
    first : x ≡ y
    first = elim (contains_cases y ys x ((same x).0 (contains_first x xs))) [
      | inl e ↦ sym e
      | inr in_ys ↦ elim (contains_cases x xs y ((same y).1 (contains_first y ys))) [
        | inl e ↦ e
        | inr in_xs ↦ absurd (not_both x y (below_all x xs y a.0 in_xs) (below_all y ys x b.0 in_ys))
      ]
    ]

    behind : (path : List ℕ) → Contains xs path → Contains ys path
    behind path c = elim (contains_cases y ys path ((same path).0 (contains_behind x xs path c))) [
      | inl e ↦ (let own : slice_cmp nat_cmp x x ≡ Less = subst (λ (p : List ℕ). slice_cmp nat_cmp x p ≡ Less) (sym (first ∙ e)) (below_all x xs path a.0 c) in absurd (not_both x x own own))
      | inr in_ys ↦ in_ys
    ]

    before : (path : List ℕ) → Contains ys path → Contains xs path
    before path c = elim (contains_cases x xs path ((same path).1 (contains_behind y ys path c))) [
      | inl e ↦ (let own : slice_cmp nat_cmp y y ≡ Less = subst (λ (p : List ℕ). slice_cmp nat_cmp y p ≡ Less) (sym (sym first ∙ e)) (below_all y ys path b.0 c) in absurd (not_both y y own own))
      | inr in_xs ↦ in_xs
    ]
