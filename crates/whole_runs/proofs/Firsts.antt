-- The first call of lists that ascend.
use Rattle.std.proofs.Common.{◌≡◌, ◌⊎◌, inl, inr, ℕ, true, false, cond, List, [], ◌∷◌, ◌++◌, refl, sym, subst, ap, ◌∙◌}
use Rattle.std.proofs.lemmas.Bool.{cases_Bool, cond-true, cond-false}
use Rattle.graph_core.specs.Traces.{Call, is_before, insert_call, by_address}
use Rattle.graph_core.specs.Runs.{IsAscending}
use Rattle.whole_runs.specs.Inner.TakesFirst.{ComesFirst}
use Rattle.graph_core.proofs.Addresses.{before_irrefl, before_trans, before_total}
use Rattle.graph_core.proofs.Members.{Has-append_cases}
use Rattle.graph_core.proofs.Sorting.{from_by_address, by_address_ascends}

pub not_behind : (a b : List ℕ) → is_before a b ≡ true → is_before b a ≡ false
not_behind a b t = elim (cases_Bool (is_before b a)) [ inl s ↦ absurd (before_irrefl a (before_trans a b a t s)) | inr f ↦ f ]

not_itself : (a b : List ℕ) → a ≡ b → is_before a b ≡ false
not_itself a b e =
    elim (cases_Bool (is_before a b)) [ inl t ↦ absurd (before_irrefl b (subst (λ (z : List ℕ). is_before z b ≡ true) e t)) | inr f ↦ f ]

order_cases : (a b : List ℕ) → (is_before a b ≡ true) ⊎ ((is_before b a ≡ true) ⊎ (a ≡ b))
order_cases a b =
    elim (cases_Bool (is_before a b)) [
      | inl t ↦ inl t
      | inr f ↦ elim (cases_Bool (is_before b a)) [ inl t ↦ inr (inl t) | inr g ↦ inr (inr (before_total a b f g)) ]
    ]

module _ {Item : Type 0} where
  insert_before : (c d : Call Item) (ds : List (Call Item)) → is_before c.at d.at ≡ true → insert_call c (d ∷ ds) ≡ c ∷ d ∷ ds
  insert_before c d ds t = cond-true (is_before c.at d.at) (c ∷ d ∷ ds) (cond (is_before d.at c.at) (d ∷ insert_call c ds) (d ∷ ds)) t

  insert_behind : (c d : Call Item) (ds : List (Call Item)) → is_before d.at c.at ≡ true → insert_call c (d ∷ ds) ≡ d ∷ insert_call c ds
  insert_behind c d ds t =
      cond-false (is_before c.at d.at) (c ∷ d ∷ ds) (cond (is_before d.at c.at) (d ∷ insert_call c ds) (d ∷ ds)) (not_behind d.at c.at t)
      ∙ cond-true (is_before d.at c.at) (d ∷ insert_call c ds) (d ∷ ds) t

  insert_same : (c d : Call Item) (ds : List (Call Item)) → c.at ≡ d.at → insert_call c (d ∷ ds) ≡ d ∷ ds
  insert_same c d ds e =
      cond-false (is_before c.at d.at) (c ∷ d ∷ ds) (cond (is_before d.at c.at) (d ∷ insert_call c ds) (d ∷ ds)) (not_itself c.at d.at e)
      ∙ cond-false (is_before d.at c.at) (d ∷ insert_call c ds) (d ∷ ds) (not_itself d.at c.at (sym e))

  insert_first : (c : Call Item) (ds : List (Call Item)) → ComesFirst c ds → insert_call c ds ≡ c ∷ ds
  insert_first c [] first = refl
  insert_first c (d ∷ ds) first = insert_before c d ds (first d (inl refl))

  pub ascending_stays : (cs : List (Call Item)) → IsAscending cs → by_address cs ≡ cs
  ascending_stays [] a = refl
  ascending_stays (c ∷ cs) a = ap (insert_call c) (ascending_stays cs a.1) ∙ insert_first c cs a.0

  first_of_both : (c : Call Item) (cs ds : List (Call Item)) → ComesFirst c cs → ComesFirst c ds → ComesFirst c (by_address (cs ++ ds))
  first_of_both c cs ds f g x h = elim (Has-append_cases cs ds x (from_by_address (cs ++ ds) x h)) [ inl k ↦ f x k | inr k ↦ g x k ]

  -- the first call of the front, of the back, and of both where these have one address
  pub first_in_front : (c : Call Item) (cs ds : List (Call Item)) → ComesFirst c cs → ComesFirst c ds → by_address ((c ∷ cs) ++ ds) ≡ c ∷ by_address (cs ++ ds)
  first_in_front c cs ds f g = insert_first c (by_address (cs ++ ds)) (first_of_both c cs ds f g)

  pub first_in_back : (cs : List (Call Item)) (d : Call Item) (ds : List (Call Item)) → ComesFirst d cs → ComesFirst d ds
      → by_address (cs ++ d ∷ ds) ≡ d ∷ by_address (cs ++ ds)
  first_in_back [] d ds f g = insert_first d (by_address ds) (λ x h. g x (from_by_address ds x h))
  first_in_back (c ∷ cs) d ds f g =
      ap (insert_call c) (first_in_back cs d ds (λ x h. f x (inr h)) g) ∙ insert_behind c d (by_address (cs ++ ds)) (f c (inl refl))

  pub first_in_each : (c : Call Item) (cs : List (Call Item)) (d : Call Item) (ds : List (Call Item)) → c.at ≡ d.at → ComesFirst d cs → ComesFirst d ds
      → by_address ((c ∷ cs) ++ d ∷ ds) ≡ d ∷ by_address (cs ++ ds)
  first_in_each c cs d ds e f g = ap (insert_call c) (first_in_back cs d ds f g) ∙ insert_same c d (by_address (cs ++ ds)) e

  -- two calls with other addresses may go in in either order
  swapped : (c d : Call Item) (ds : List (Call Item)) → is_before c.at d.at ≡ true → insert_call c (insert_call d ds) ≡ insert_call d (insert_call c ds)
  swapped c d [] t = insert_before c d [] t ∙ sym (insert_behind d c [] t)
  swapped c d (x ∷ ds) t =
      elim (cases_Bool (is_before c.at x.at)) [
        | inl cx ↦ c_first cx
        | inr cx ↦ elim (cases_Bool (is_before x.at c.at)) [
          | inl xc ↦ x_first xc (swapped c d ds t)
          | inr xc ↦ at_c (before_total c.at x.at cx xc)
        ]
      ]
    where
      at_d : is_before c.at x.at ≡ true → d.at ≡ x.at → insert_call c (insert_call d (x ∷ ds)) ≡ insert_call d (insert_call c (x ∷ ds))
      at_d cx e =
          ap (insert_call c) (insert_same d x ds e) ∙ (insert_before c x ds cx
          ∙ sym (ap (insert_call d) (insert_before c x ds cx) ∙ (insert_behind d c (x ∷ ds) t ∙ ap (λ (l : List (Call Item)). c ∷ l) (insert_same d x ds e))))

      c_first : is_before c.at x.at ≡ true → insert_call c (insert_call d (x ∷ ds)) ≡ insert_call d (insert_call c (x ∷ ds))
      c_first cx =
          elim (cases_Bool (is_before d.at x.at)) [
            | inl dx ↦ ap (insert_call c) (insert_before d x ds dx) ∙ (insert_before c d (x ∷ ds) t
                ∙ sym (ap (insert_call d) (insert_before c x ds cx) ∙ (insert_behind d c (x ∷ ds) t ∙ ap (λ (l : List (Call Item)). c ∷ l) (insert_before d x ds dx))))
            | inr dx ↦ elim (cases_Bool (is_before x.at d.at)) [
              | inl xd ↦ ap (insert_call c) (insert_behind d x ds xd) ∙ (insert_before c x (insert_call d ds) cx
                  ∙ sym (ap (insert_call d) (insert_before c x ds cx) ∙ (insert_behind d c (x ∷ ds) t ∙ ap (λ (l : List (Call Item)). c ∷ l) (insert_behind d x ds xd))))
              | inr xd ↦ at_d cx (before_total d.at x.at dx xd)
            ]
          ]

      x_first : is_before x.at c.at ≡ true → insert_call c (insert_call d ds) ≡ insert_call d (insert_call c ds)
          → insert_call c (insert_call d (x ∷ ds)) ≡ insert_call d (insert_call c (x ∷ ds))
      x_first xc rec =
          let xd = before_trans x.at c.at d.at xc t in
          ap (insert_call c) (insert_behind d x ds xd) ∙ (insert_behind c x (insert_call d ds) xc ∙ (ap (λ (l : List (Call Item)). x ∷ l) rec
          ∙ sym (ap (insert_call d) (insert_behind c x ds xc) ∙ insert_behind d x (insert_call c ds) xd)))

      at_c : c.at ≡ x.at → insert_call c (insert_call d (x ∷ ds)) ≡ insert_call d (insert_call c (x ∷ ds))
      at_c e =
          let xd : is_before x.at d.at ≡ true = subst (λ (z : List ℕ). is_before z d.at ≡ true) e t in
          ap (insert_call c) (insert_behind d x ds xd) ∙ (insert_same c x (insert_call d ds) e
          ∙ sym (ap (insert_call d) (insert_same c x ds e) ∙ insert_behind d x ds xd))

  same_again : (c d : Call Item) (ds : List (Call Item)) → c.at ≡ d.at → insert_call c (insert_call d ds) ≡ insert_call d ds
  same_again c d [] e = insert_same c d [] e
  same_again c d (x ∷ ds) e =
      elim (order_cases d.at x.at) [
        | inl dx ↦ ap (insert_call c) (insert_before d x ds dx) ∙ (insert_same c d (x ∷ ds) e ∙ sym (insert_before d x ds dx))
        | inr o ↦ behind o (same_again c d ds e)
      ]
    where
      behind : (is_before x.at d.at ≡ true) ⊎ (d.at ≡ x.at) → insert_call c (insert_call d ds) ≡ insert_call d ds
          → insert_call c (insert_call d (x ∷ ds)) ≡ insert_call d (x ∷ ds)
      behind (inl xd) rec =
          let xc : is_before x.at c.at ≡ true = subst (λ (z : List ℕ). is_before x.at z ≡ true) (sym e) xd in
          ap (insert_call c) (insert_behind d x ds xd) ∙ (insert_behind c x (insert_call d ds) xc ∙ (ap (λ (l : List (Call Item)). x ∷ l) rec ∙ sym (insert_behind d x ds xd)))
      behind (inr f) rec = ap (insert_call c) (insert_same d x ds f) ∙ (insert_same c x ds (e ∙ f) ∙ sym (insert_same d x ds f))

  -- a call that goes in among others, and all of them in front of the rest
  among : (c : Call Item) (ds rest : List (Call Item)) → by_address (insert_call c ds ++ rest) ≡ insert_call c (by_address (ds ++ rest))
  among c [] rest = refl
  among c (d ∷ ds) rest =
      elim (order_cases c.at d.at) [
        | inl cd ↦ ap (λ (l : List (Call Item)). by_address (l ++ rest)) (insert_before c d ds cd)
        | inr o ↦ behind o (among c ds rest)
      ]
    where
      behind : (is_before d.at c.at ≡ true) ⊎ (c.at ≡ d.at) → by_address (insert_call c ds ++ rest) ≡ insert_call c (by_address (ds ++ rest))
          → by_address (insert_call c (d ∷ ds) ++ rest) ≡ insert_call c (insert_call d (by_address (ds ++ rest)))
      behind (inl dc) rec =
          ap (λ (l : List (Call Item)). by_address (l ++ rest)) (insert_behind c d ds dc) ∙ (ap (insert_call d) rec ∙ swapped d c (by_address (ds ++ rest)) dc)
      behind (inr e) rec = ap (λ (l : List (Call Item)). by_address (l ++ rest)) (insert_same c d ds e) ∙ sym (same_again c d (by_address (ds ++ rest)) e)

  front_in_order : (cs rest : List (Call Item)) → by_address (by_address cs ++ rest) ≡ by_address (cs ++ rest)
  front_in_order [] rest = refl
  front_in_order (c ∷ cs) rest = among c (by_address cs) rest ∙ ap (insert_call c) (front_in_order cs rest)

  back_in_order : (cs ds : List (Call Item)) → by_address (cs ++ by_address ds) ≡ by_address (cs ++ ds)
  back_in_order [] ds = ascending_stays (by_address ds) (by_address_ascends ds)
  back_in_order (c ∷ cs) ds = ap (insert_call c) (back_in_order cs ds)

  -- both parts in order, and then the whole
  pub parts_in_order : (cs ds : List (Call Item)) → by_address (by_address cs ++ by_address ds) ≡ by_address (cs ++ ds)
  parts_in_order cs ds = front_in_order cs (by_address ds) ∙ back_in_order cs ds
