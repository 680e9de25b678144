-- Lists of calls that ascend, and those that are brought in order by halves.
use Rattle.std.proofs.Common.{◌≡◌, inl, inr, ℕ, ◌+◌, ◌<◌, ◌≤◌, true, List, [], ◌∷◌, ◌++◌, refl, sym, subst, ap, ◌∙◌, arith, length, take, drop, get_or, append_assoc}
use Rattle.std.proofs.lemmas.List.{take-append-drop, take_more, take_all}
use Rattle.graph_core.specs.Traces.{Call, is_before, by_address}
use Rattle.graph_core.specs.Runs.{IsAscending}
use Rattle.graph_core.proofs.Addresses.{before_trans}
use Rattle.graph_core.proofs.Sorting.{by_address_ascends}
use Rattle.graph_core.proofs.Members.{Has-append_left, Has-append_right, Has-append_cases}
use Rattle.whole_runs.specs.Inner.TakesFirst.{HasAddress}
use Rattle.whole_runs.proofs.Firsts.{parts_in_order}

module _ {Item : Type 0} where
  -- a call more behind one that comes before it
  one_more : (cs : List (Call Item)) (c d : Call Item) → IsAscending (cs ++ c ∷ []) → is_before c.at d.at ≡ true → IsAscending (cs ++ c ∷ d ∷ [])
  one_more [] c d a t = ((λ x h. elim h [ inl e ↦ subst (λ (z : Call Item). is_before c.at z.at ≡ true) (sym e) t | inr k ↦ absurd k ]), ((λ x h. absurd h), tt))
  one_more (b ∷ cs) c d a t = (
    (λ x h. elim (Has-append_cases cs (c ∷ d ∷ []) x h) [
      | inl k ↦ a.0 x (Has-append_left cs (c ∷ []) x k)
      | inr k ↦ elim k [
        | inl e ↦ a.0 x (Has-append_right cs (c ∷ []) x (inl e))
        | inr m ↦ elim m [
          | inl e ↦ subst (λ (z : Call Item). is_before b.at z.at ≡ true) (sym e) (before_trans b.at c.at d.at (a.0 c (Has-append_right cs (c ∷ []) c (inl refl))) t)
          | inr n ↦ absurd n
        ]
      ]
    ]),
    one_more cs c d a.1 t,
  )

  -- the first calls of a list ascend, and one more
  pub ascends_more : (cs : List (Call Item)) (k : ℕ) (c d : Call Item) → k + 1 < length cs → c ≡ get_or cs k c → d ≡ get_or cs (k + 1) d
      → is_before c.at d.at ≡ true → IsAscending (take (k + 1) cs) → IsAscending (take (k + 1 + 1) cs)
  ascends_more cs k c d within e f t a =
      let first : take (k + 1) cs ≡ take k cs ++ c ∷ [] = take_more cs k c (omega arith) ∙ ap (λ (z : Call Item). take k cs ++ z ∷ []) (sym e) in
      let second : take (k + 1 + 1) cs ≡ take k cs ++ c ∷ d ∷ [] =
      take_more cs (k + 1) d within ∙ (ap (λ (z : Call Item). take (k + 1) cs ++ z ∷ []) (sym f)
      ∙ (ap (λ (l : List (Call Item)). l ++ d ∷ []) first ∙ append_assoc (take k cs) (c ∷ []) (d ∷ []))) in
      subst (λ (l : List (Call Item)). IsAscending l) (sym second) (one_more (take k cs) c d (subst (λ (l : List (Call Item)). IsAscending l) first a) t)

  pub ascends_at : (cs : List (Call Item)) (i k : ℕ) (before here : List ℕ) → k + 1 ≡ i → i < length cs → HasAddress cs k before → HasAddress cs i here → is_before before here ≡ true
      → IsAscending (take i cs) → IsAscending (take (i + 1) cs)
  ascends_at cs i k before here e within b h t a =
      let back : is_before b.call.at h.call.at ≡ true = subst (λ (z : List ℕ). is_before b.call.at z ≡ true) h.address (subst (λ (z : List ℕ). is_before z here ≡ true) b.address t) in
      let at : h.call ≡ get_or cs (k + 1) h.call = h.is ∙ ap (λ (n : ℕ). get_or cs n h.call) (sym e) in
      let first : IsAscending (take (k + 1) cs) = subst (λ (n : ℕ). IsAscending (take n cs)) (sym e) a in
      subst (λ (n : ℕ). IsAscending (take (n + 1) cs)) e (ascends_more cs k b.call h.call (omega arith) b.is at back first)

  -- halves in order, and then the whole
  pub by_halves : (cs : List (Call Item)) (i : ℕ) → by_address (by_address (take i cs) ++ by_address (drop i cs)) ≡ by_address cs
  by_halves cs i = parts_in_order (take i cs) (drop i cs) ∙ ap by_address (take-append-drop i cs)

  pub halves_sorted : (calls first second front back : List (Call Item)) (i : ℕ) → first ≡ take i calls → second ≡ drop i calls → front ≡ by_address first → back ≡ by_address second
      → by_address (front ++ back) ≡ by_address calls
  halves_sorted calls first second front back i f s a b =
      ap (λ (l : List (Call Item)). by_address (l ++ back)) (a ∙ ap by_address f)
      ∙ (ap (λ (l : List (Call Item)). by_address (by_address (take i calls) ++ l)) (b ∙ ap by_address s) ∙ by_halves calls i)

  pub sorted_ascends : (calls ordered : List (Call Item)) → ordered ≡ by_address calls → IsAscending ordered
  sorted_ascends calls ordered e = subst (λ (l : List (Call Item)). IsAscending l) (sym e) (by_address_ascends calls)

  -- a list whose first calls ascend, all of them
  pub all_ascend : (calls : List (Call Item)) (i : ℕ) → length calls ≤ i → IsAscending (take i calls) → IsAscending calls
  all_ascend calls i past a = subst (λ (l : List (Call Item)). IsAscending l) (take_all i calls past) a

  pub first_ascends : (calls : List (Call Item)) → IsAscending (take 1 calls)
  first_ascends [] = tt
  first_ascends (c ∷ calls) = ((λ d h. absurd h), tt)
