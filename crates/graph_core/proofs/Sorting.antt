-- The calls by address are the one ascending list with the same members.
use Rattle.std.proofs.Common.{◌≡◌, ◌⊎◌, inl, inr, ℕ, true, false, cond, List, [], ◌∷◌, refl, sym, subst, ap, ◌∙◌}
use Rattle.std.proofs.lemmas.Bool.{cases_Bool, cond-true, cond-false}
use Rattle.graph_core.specs.Wiring.{Has}
use Rattle.graph_core.specs.Traces.{Call, is_before, insert_call, by_address}
use Rattle.graph_core.specs.Runs.{IsAscending}
use Rattle.graph_core.proofs.Addresses.{before_irrefl, before_trans, before_total}
use Rattle.graph_core.proofs.Members.{Has-same}

module _ {Item : Type 0} where
  -- c where it belongs in front of, inside or as the head of d ∷ ds
  insert_cases : (c d : Call Item) (ds : List (Call Item))
      → ((is_before c.at d.at ≡ true) × (insert_call c (d ∷ ds) ≡ c ∷ d ∷ ds))
      ⊎ (((is_before c.at d.at ≡ false) × (is_before d.at c.at ≡ true) × (insert_call c (d ∷ ds) ≡ d ∷ insert_call c ds))
      ⊎ ((c.at ≡ d.at) × (insert_call c (d ∷ ds) ≡ d ∷ ds)))
  insert_cases c d ds =
      elim (cases_Bool (is_before c.at d.at)) [
        | inl t ↦ inl (t, cond-true (is_before c.at d.at) (c ∷ d ∷ ds) (cond (is_before d.at c.at) (d ∷ insert_call c ds) (d ∷ ds)) t)
        | inr f ↦ elim (cases_Bool (is_before d.at c.at)) [
          | inl t ↦ inr (inl (f, t, cond-false (is_before c.at d.at) (c ∷ d ∷ ds) (cond (is_before d.at c.at) (d ∷ insert_call c ds) (d ∷ ds)) f ∙ cond-true (is_before d.at c.at) (d ∷ insert_call c ds) (d ∷ ds) t))
          | inr g ↦ inr (inr (before_total c.at d.at f g, cond-false (is_before c.at d.at) (c ∷ d ∷ ds) (cond (is_before d.at c.at) (d ∷ insert_call c ds) (d ∷ ds)) f ∙ cond-false (is_before d.at c.at) (d ∷ insert_call c ds) (d ∷ ds) g))
        ]
      ]

  pub from_insert : (c : Call Item) (ds : List (Call Item)) (x : Call Item) → Has (insert_call c ds) x → (x ≡ c) ⊎ Has ds x
  from_insert c [] x (inl e) = inl e
  from_insert c [] x (inr h) = absurd h
  from_insert c (d ∷ ds) x h =
      elim (insert_cases c d ds) [
        | inl p ↦ (elim (rw p.1 at h) [ inl e ↦ inl e | inr k ↦ inr k ])
        | inr q ↦ elim q [
          | inl p ↦ (elim (rw p.2 at h) [ inl e ↦ inr (inl e) | inr k ↦ (elim (from_insert c ds x k) [ inl e ↦ inl e | inr m ↦ inr (inr m) ]) ])
          | inr p ↦ inr (rw p.1 at h)
        ]
      ]

  pub insert_keeps : (c : Call Item) (ds : List (Call Item)) (x : Call Item) → Has ds x → Has (insert_call c ds) x
  insert_keeps c [] x h = absurd h
  insert_keeps c (d ∷ ds) x h =
      elim (insert_cases c d ds) [
        | inl p ↦ rw p.1 (inr h)
        | inr q ↦ elim q [
          | inl p ↦ rw p.2 (elim h [ inl e ↦ inl e | inr k ↦ inr (insert_keeps c ds x k) ])
          | inr p ↦ rw p.1 h
        ]
      ]

  -- c itself goes in where a call at its address can only be c
  pub insert_has : (c : Call Item) (ds : List (Call Item)) → ((d : Call Item) → Has ds d → c.at ≡ d.at → c ≡ d) → Has (insert_call c ds) c
  insert_has c [] one = inl refl
  insert_has c (d ∷ ds) one =
      elim (insert_cases c d ds) [
        | inl p ↦ rw p.1 (inl refl)
        | inr q ↦ elim q [
          | inl p ↦ rw p.2 (inr (insert_has c ds (λ e h. one e (inr h))))
          | inr p ↦ rw p.1 (inl (one d (inl refl) p.0))
        ]
      ]

  pub insert_ascends : (c : Call Item) (ds : List (Call Item)) → IsAscending ds → IsAscending (insert_call c ds)
  insert_ascends c [] a = ((λ d h. absurd h), tt)
  insert_ascends c (d ∷ ds) a =
      elim (insert_cases c d ds) [
        | inl p ↦ rw p.1 ((λ e h. first_before p.0 e h), a)
        | inr q ↦ elim q [
          | inl p ↦ rw p.2 ((λ e h. after_first p.1 e (from_insert c ds e h)), insert_ascends c ds a.1)
          | inr p ↦ rw p.1 a
        ]
      ]
    where
      first_before : is_before c.at d.at ≡ true → (e : Call Item) → Has (d ∷ ds) e → is_before c.at e.at ≡ true
      first_before t e (inl s) = rw s t
      first_before t e (inr h) = before_trans c.at d.at e.at t (a.0 e h)

      after_first : is_before d.at c.at ≡ true → (e : Call Item) → (e ≡ c) ⊎ Has ds e → is_before d.at e.at ≡ true
      after_first t e (inl s) = rw s t
      after_first t e (inr h) = a.0 e h

  pub by_address_ascends : (cs : List (Call Item)) → IsAscending (by_address cs)
  by_address_ascends [] = tt
  by_address_ascends (c ∷ cs) = insert_ascends c (by_address cs) (by_address_ascends cs)

  pub from_by_address : (cs : List (Call Item)) (x : Call Item) → Has (by_address cs) x → Has cs x
  from_by_address [] x h = h
  from_by_address (c ∷ cs) x h = elim (from_insert c (by_address cs) x h) [ inl e ↦ inl e | inr k ↦ inr (from_by_address cs x k) ]

  pub by_address_keeps : (cs : List (Call Item)) → ((c d : Call Item) → Has cs c → Has cs d → c.at ≡ d.at → c ≡ d)
      → (x : Call Item) → Has cs x → Has (by_address cs) x
  by_address_keeps [] one x h = h
  by_address_keeps (c ∷ cs) one x (inl e) =
      Has-same (insert_call c (by_address cs)) c x (sym e) (insert_has c (by_address cs) (λ d h. one c d (inl refl) (inr (from_by_address cs d h))))
  by_address_keeps (c ∷ cs) one x (inr h) =
      insert_keeps c (by_address cs) x (by_address_keeps cs (λ d e k l. one d e (inr k) (inr l)) x h)

  -- in an ascending list an address has one call
  pub ascending_one : (cs : List (Call Item)) → IsAscending cs → (c d : Call Item) → Has cs c → Has cs d → c.at ≡ d.at → c ≡ d
  ascending_one [] a c d h k e = absurd h
  ascending_one (b ∷ bs) a c d (inl s) (inl t) e = s ∙ sym t
  ascending_one (b ∷ bs) a c d (inl s) (inr k) e = absurd (before_irrefl d.at (subst (λ (z : List ℕ). is_before z d.at ≡ true) (ap (λ (z : Call Item). z.at) (sym s) ∙ e) (a.0 d k)))
  ascending_one (b ∷ bs) a c d (inr h) (inl t) e = absurd (before_irrefl c.at (subst (λ (z : List ℕ). is_before z c.at ≡ true) (ap (λ (z : Call Item). z.at) (sym t) ∙ sym e) (a.0 c h)))
  ascending_one (b ∷ bs) a c d (inr h) (inr k) e = ascending_one bs a.1 c d h k e

  -- two ascending lists with the same members are one list
  pub same_ascending : (xs ys : List (Call Item)) → IsAscending xs → IsAscending ys
      → ((c : Call Item) → Has xs c → Has ys c) → ((c : Call Item) → Has ys c → Has xs c) → xs ≡ ys
  same_ascending [] [] a b f g = refl
  same_ascending [] (y ∷ ys) a b f g = absurd (g y (inl refl))
  same_ascending (x ∷ xs) [] a b f g = absurd (f x (inl refl))
  same_ascending (x ∷ xs) (y ∷ ys) a b f g =
      let e : x ≡ y = heads (f x (inl refl)) (g y (inl refl)) in
      let t : xs ≡ ys = same_ascending xs ys a.1 b.1 (λ c h. later_right c h (f c (inr h)) e) (λ c h. later_left c h (g c (inr h)) e) in
      cc
    where
      heads : Has (y ∷ ys) x → Has (x ∷ xs) y → x ≡ y
      heads (inl e) k = e
      heads (inr h) (inl e) = sym e
      heads (inr h) (inr k) = absurd (before_irrefl x.at (before_trans x.at y.at x.at (a.0 y k) (b.0 x h)))

      later_right : (c : Call Item) → Has xs c → Has (y ∷ ys) c → x ≡ y → Has ys c
      later_right c h (inl s) e = absurd (before_irrefl c.at (subst (λ (z : Call Item). is_before z.at c.at ≡ true) (e ∙ sym s) (a.0 c h)))
      later_right c h (inr k) e = k

      later_left : (c : Call Item) → Has ys c → Has (x ∷ xs) c → x ≡ y → Has xs c
      later_left c h (inl s) e = absurd (before_irrefl c.at (subst (λ (z : Call Item). is_before z.at c.at ≡ true) (sym e ∙ sym s) (b.0 c h)))
      later_left c h (inr k) e = k

  pub by_address_is : (cs log : List (Call Item)) → IsAscending log → ((c : Call Item) → Has cs c → Has log c) → ((c : Call Item) → Has log c → Has cs c) → by_address cs ≡ log
  by_address_is cs log a f g =
      same_ascending (by_address cs) log (by_address_ascends cs) a
      (λ c h. f c (from_by_address cs c h))
      (λ c h. by_address_keeps cs (λ d e k l. ascending_one log a d e (f d k) (f e l)) c (g c h))
