-- What the search from a node finds is what it reaches.
use Rattle.std.proofs.Common.{◌≡◌, ◌⊎◌, inl, inr, ℕ, zero, suc, ◌+◌, ◌<◌, ◌≤◌, true, false, List, [], ◌∷◌, ◌++◌, refl, sym, subst, ap, ◌∙◌, arith, length, append_assoc}
use Rattle.std.specs.Prelude.{◌==◌, Option, Some, None, slice_get}
use Rattle.std.specs.Option.{option_map_or}
use Rattle.std.proofs.lemmas.Bool.{cases_eq, cases_lt, cases_Bool, cond-true, cond-false, eq-eqb, eqb-true, or_cases, or_left, or_right, both_ways}
use Rattle.graph_core.specs.declared.Target.{Target}
use Rattle.graph_core.specs.declared.Target.TheVariants.{Node, Out}
use Rattle.graph_core.specs.Wiring.{Edges, Has, targets_of}
use Rattle.graph_core.specs.Closing.{is_listed}
use Rattle.graph_core.specs.Inner.Reach.{add_target, add_targets, spread, reached}
use Rattle.graph_core.specs.Faults.{Reaches, calls, onward, LeadsNowherePast}
use Rattle.graph_core.proofs.Members.{Has-append_left, Has-append_right, Has-append_cases}
use Rattle.graph_core.proofs.Pigeons.{Distinct, pigeons, Distinct-push}

pub listed_has : (xs : List ℕ) (w : ℕ) → is_listed xs w ≡ true → Has xs w
listed_has [] w h = absurd (both_ways false refl h)
listed_has (x ∷ xs) w h = elim (or_cases (x == w) (is_listed xs w) h) [ inl e ↦ inl (sym (eqb-true x w e)) | inr k ↦ inr (listed_has xs w k) ]

pub has_listed : (xs : List ℕ) (w : ℕ) → Has xs w → is_listed xs w ≡ true
has_listed [] w h = absurd h
has_listed (x ∷ xs) w (inl e) = or_left (x == w) (is_listed xs w) (eq-eqb x w (sym e))
has_listed (x ∷ xs) w (inr h) = or_right (x == w) (is_listed xs w) (has_listed xs w h)

add_target_listed : (xs : List ℕ) (w : ℕ) → is_listed xs w ≡ true → add_target xs (Node w) ≡ xs
add_target_listed xs w t = cond-true (is_listed xs w) xs (xs ++ w ∷ []) t

add_target_new : (xs : List ℕ) (w : ℕ) → is_listed xs w ≡ false → add_target xs (Node w) ≡ xs ++ w ∷ []
add_target_new xs w f = cond-false (is_listed xs w) xs (xs ++ w ∷ []) f

-- more nodes may follow, and those that were there keep their places
pub record Extends (xs ys : List ℕ) : Type 0 where
  pub more : List ℕ
  pub is : ys ≡ xs ++ more

append_nil : (a : List ℕ) → a ++ [] ≡ a
append_nil [] = refl
append_nil (y ∷ a) = ap (λ (z : List ℕ). y ∷ z) (append_nil a)

add_target_extends : (xs : List ℕ) (to : Target) → Extends xs (add_target xs to)
add_target_extends xs Out = record { more = []; is = sym (append_nil xs) }
add_target_extends xs (Node w) =
    elim (cases_Bool (is_listed xs w)) [
      | inl t ↦ record { more = []; is = add_target_listed xs w t ∙ sym (append_nil xs) }
      | inr f ↦ record { more = w ∷ []; is = add_target_new xs w f }
    ]

add_targets_extends : (xs : List ℕ) (targets : List Target) → Extends xs (add_targets xs targets)
add_targets_extends xs [] = record { more = []; is = sym (append_nil xs) }
add_targets_extends xs (to ∷ targets) =
    let a = add_target_extends xs to in
    let b = add_targets_extends (add_target xs to) targets in
    record { more = a.more ++ b.more; is = b.is ∙ (ap (λ (z : List ℕ). z ++ b.more) a.is ∙ append_assoc xs a.more b.more) }

Extends-has : (xs ys : List ℕ) → Extends xs ys → (x : ℕ) → Has xs x → Has ys x
Extends-has xs ys e x h = rw e.is (Has-append_left xs e.more x h)

add_targets_has : (xs : List ℕ) (targets : List Target) (w : ℕ) → Has targets (Node w) → Has (add_targets xs targets) w
add_targets_has xs [] w h = absurd h
add_targets_has xs (to ∷ targets) w (inl e) =
    Extends-has (add_target xs to) (add_targets (add_target xs to) targets) (add_targets_extends (add_target xs to) targets) w
    (subst (λ (t : Target). Has (add_target xs t) w) e
    (elim (cases_Bool (is_listed xs w)) [
      | inl t ↦ rw (add_target_listed xs w t) (listed_has xs w t)
      | inr f ↦ rw (add_target_new xs w f) (Has-append_right xs (w ∷ []) w (inl refl))
    ]))
add_targets_has xs (to ∷ targets) w (inr h) = add_targets_has (add_target xs to) targets w h

from_add_target : (xs : List ℕ) (to : Target) (w : ℕ) → Has (add_target xs to) w → Has xs w ⊎ (Node w ≡ to)
from_add_target xs Out w h = inl h
from_add_target xs (Node v) w h =
    elim (cases_Bool (is_listed xs v)) [
      | inl t ↦ inl (rw (add_target_listed xs v t) at h)
      | inr f ↦ elim (Has-append_cases xs (v ∷ []) w (rw (add_target_new xs v f) at h))
          [ inl k ↦ inl k | inr k ↦ (elim k [ inl e ↦ inr (ap Node e) | inr m ↦ absurd m ]) ]
    ]

from_add_targets : (xs : List ℕ) (targets : List Target) (w : ℕ) → Has (add_targets xs targets) w → Has xs w ⊎ Has targets (Node w)
from_add_targets xs [] w h = inl h
from_add_targets xs (to ∷ targets) w h =
    elim (from_add_targets (add_target xs to) targets w h)
    [ inl k ↦ (elim (from_add_target xs to w k) [ inl m ↦ inl m | inr e ↦ inr (inl e) ]) | inr k ↦ inr (inr k) ]

add_target_distinct : (xs : List ℕ) (to : Target) → Distinct xs → Distinct (add_target xs to)
add_target_distinct xs Out d = d
add_target_distinct xs (Node w) d =
    elim (cases_Bool (is_listed xs w)) [
      | inl t ↦ rw (add_target_listed xs w t) d
      | inr f ↦ rw (add_target_new xs w f) (Distinct-push xs w d (λ h. both_ways (is_listed xs w) f (has_listed xs w h)))
    ]

add_targets_distinct : (xs : List ℕ) (targets : List Target) → Distinct xs → Distinct (add_targets xs targets)
add_targets_distinct xs [] d = d
add_targets_distinct xs (to ∷ targets) d = add_targets_distinct (add_target xs to) targets (add_target_distinct xs to d)

get_has : (xs : List ℕ) (i x : ℕ) → slice_get xs i ≡ Some x → Has xs x
get_has [] i x e = cc
get_has (y ∷ xs) zero x e = inl (cc)
get_has (y ∷ xs) (suc i) x e = inr (get_has xs i x e)

has_get : (xs : List ℕ) (x : ℕ) → Has xs x → (i : ℕ) × ((i < length xs) × (slice_get xs i ≡ Some x))
has_get [] x h = absurd h
has_get (y ∷ xs) x (inl e) = (0, (omega arith, ap Some (sym e)))
has_get (y ∷ xs) x (inr h) = let p = has_get xs x h in (suc p.0, ((let l = p.1.0 in omega arith), p.1.1))

get_append : (xs more : List ℕ) (i x : ℕ) → slice_get xs i ≡ Some x → slice_get (xs ++ more) i ≡ Some x
get_append [] more i x e = cc
get_append (y ∷ xs) more zero x e = e
get_append (y ∷ xs) more (suc i) x e = get_append xs more i x e

get_below : (xs : List ℕ) (i k x : ℕ) → slice_get xs i ≡ Some x → k < i → (y : ℕ) × (slice_get xs k ≡ Some y)
get_below [] i k x e l = cc
get_below (z ∷ xs) zero k x e l = absurd (omega arith)
get_below (z ∷ xs) (suc i) zero x e l = (z, refl)
get_below (z ∷ xs) (suc i) (suc k) x e l = get_below xs i k x e (omega arith)

get_none : (xs : List ℕ) (i : ℕ) → slice_get xs i ≡ None → length xs ≤ i
get_none [] i e = omega arith
get_none (x ∷ xs) zero e = cc
get_none (x ∷ xs) (suc i) e = let l = get_none xs i e in omega arith

module _ (edges : Edges) where
  reaches_more : {v u w : ℕ} → Reaches edges v u → Has (targets_of edges u) (Node w) → Reaches edges v w
  reaches_more (calls h) k = onward h (calls k)
  reaches_more (onward h r) k = onward h (reaches_more r k)

  sound : (v steps i : ℕ) (seen : List ℕ) → ((x : ℕ) → Has seen x → Reaches edges v x) → (x : ℕ) → Has (spread edges steps i seen) x → Reaches edges v x
  sound v zero i seen known x h = known x h
  sound v (suc steps) i seen known x h =
      of_option (slice_get seen i) refl
      (λ u e. sound v steps (suc i) (add_targets seen (targets_of edges u))
      (λ y m. elim (from_add_targets seen (targets_of edges u) y m) [ inl a ↦ known y a | inr a ↦ reaches_more (known u (get_has seen i u e)) a ]) x)
      h
    where
      of_option : (o : Option ℕ) → slice_get seen i ≡ o
          → ((u : ℕ) → slice_get seen i ≡ Some u → Has (spread edges steps (suc i) (add_targets seen (targets_of edges u))) x → Reaches edges v x)
          → Has (option_map_or (λ u. spread edges steps (suc i) (add_targets seen (targets_of edges u))) o seen) x → Reaches edges v x
      of_option None e rec k = known x k
      of_option (Some u) e rec k = rec u e k

  -- the targets of the first i nodes seen are seen
  abbrev IsDone : ℕ → List ℕ → Type 0
  IsDone i seen = (k x : ℕ) → k < i → slice_get seen k ≡ Some x → (w : ℕ) → Has (targets_of edges x) (Node w) → Has seen w

  done_more : (i : ℕ) (seen : List ℕ) (u : ℕ) → slice_get seen i ≡ Some u → IsDone i seen → IsDone (suc i) (add_targets seen (targets_of edges u))
  done_more i seen u e before k x l at w h =
      let ext = add_targets_extends seen (targets_of edges u) in
      elim (cases_eq k i) [
        | inl same ↦ (let f : slice_get (add_targets seen (targets_of edges u)) i ≡ Some u = rw ext.is (get_append seen ext.more i u e) in
            let at_i : slice_get (add_targets seen (targets_of edges u)) i ≡ Some x = subst (λ (n : ℕ). slice_get (add_targets seen (targets_of edges u)) n ≡ Some x) same at in
            let is : x ≡ u = cc in
            add_targets_has seen (targets_of edges u) w (subst (λ (n : ℕ). Has (targets_of edges n) (Node w)) is h))
        | inr other ↦ (let less : k < i = below_last k i l other in
            let y = get_below seen i k u e less in
            let f : slice_get (add_targets seen (targets_of edges u)) k ≡ Some y.0 = rw ext.is (get_append seen ext.more k y.0 y.1) in
            let is : x ≡ y.0 = cc in
            Extends-has seen (add_targets seen (targets_of edges u)) ext w
            (before k y.0 less y.1 w (subst (λ (n : ℕ). Has (targets_of edges n) (Node w)) is h)))
      ]
    where
      below_last : (k i : ℕ) → k < suc i → (k ≡ i → ⊥) → k < i
      below_last k i b ne = elim (cases_lt k i) [ inl m ↦ m | inr m ↦ absurd (ne (omega arith)) ]

  module _ (within : LeadsNowherePast edges) where
    pub target_within : (v w : ℕ) → Has (targets_of edges v) (Node w) → w < length edges
    target_within v w h = elim (cases_lt w (length edges)) [ inl l ↦ l | inr l ↦ absurd (within v (w, (h, l))) ]

    closed : (steps i : ℕ) (seen : List ℕ) → i + steps ≡ length edges → Distinct seen → ((x : ℕ) → Has seen x → x < length edges) → IsDone i seen
        → (x w : ℕ) → Has (spread edges steps i seen) x → Has (targets_of edges x) (Node w) → Has (spread edges steps i seen) w
    closed zero i seen count distinct below before x w h k =
        let p = has_get seen x h in
        let l = pigeons (length edges) seen distinct below in
        before p.0 x (let a = p.1.0 in omega arith) p.1.1 w k
    closed (suc steps) i seen count distinct below before x w h k =
        of_option (slice_get seen i) refl
        (λ u e. closed steps (suc i) (add_targets seen (targets_of edges u)) (omega arith)
        (add_targets_distinct seen (targets_of edges u) distinct)
        (λ y m. elim (from_add_targets seen (targets_of edges u) y m) [ inl a ↦ below y a | inr a ↦ target_within u y a ])
        (done_more i seen u e before) x w) h k
      where
        of_option : (o : Option ℕ) → slice_get seen i ≡ o
            → ((u : ℕ) → slice_get seen i ≡ Some u → Has (spread edges steps (suc i) (add_targets seen (targets_of edges u))) x → Has (targets_of edges x) (Node w)
            → Has (spread edges steps (suc i) (add_targets seen (targets_of edges u))) w)
            → Has (option_map_or (λ u. spread edges steps (suc i) (add_targets seen (targets_of edges u))) o seen) x → Has (targets_of edges x) (Node w)
            → Has (option_map_or (λ u. spread edges steps (suc i) (add_targets seen (targets_of edges u))) o seen) w
        of_option None e rec h k =
            let p = has_get seen x h in
            let l = get_none seen i e in
            before p.0 x (let a = p.1.0 in omega arith) p.1.1 w k
        of_option (Some u) e rec h k = rec u e h k

    spread_keeps : (steps i : ℕ) (seen : List ℕ) (x : ℕ) → Has seen x → Has (spread edges steps i seen) x
    spread_keeps zero i seen x h = h
    spread_keeps (suc steps) i seen x h =
        of_option (slice_get seen i)
        (λ u. spread_keeps steps (suc i) (add_targets seen (targets_of edges u)) x
        (Extends-has seen (add_targets seen (targets_of edges u)) (add_targets_extends seen (targets_of edges u)) x h))
      where
        of_option : (o : Option ℕ) → ((u : ℕ) → Has (spread edges steps (suc i) (add_targets seen (targets_of edges u))) x)
            → Has (option_map_or (λ u. spread edges steps (suc i) (add_targets seen (targets_of edges u))) o seen) x
        of_option None rec = h
        of_option (Some u) rec = rec u

    closed_reaches : (found : List ℕ) → ((x w : ℕ) → Has found x → Has (targets_of edges x) (Node w) → Has found w)
        → {v w : ℕ} → Reaches edges v w → ((u : ℕ) → Has (targets_of edges v) (Node u) → Has found u) → Has found w
    closed_reaches found shut (calls {v} {w} h) first = first w h
    closed_reaches found shut (onward {v} {u} {w} h r) first = closed_reaches found shut r (λ y k. shut u y (first u h) k)

    pub complete : (v w : ℕ) → Reaches edges v w → Has (reached edges v) w
    complete v w r =
        closed_reaches (reached edges v)
        (closed (length edges) 0 (add_targets [] (targets_of edges v)) (omega arith)
        (add_targets_distinct [] (targets_of edges v) tt)
        (λ y m. elim (from_add_targets [] (targets_of edges v) y m) [ inl a ↦ absurd a | inr a ↦ target_within v y a ])
        (λ k x l. absurd (omega arith)))
        r
        (λ u h. spread_keeps (length edges) 0 (add_targets [] (targets_of edges v)) u (add_targets_has [] (targets_of edges v) u h))

  pub reached_sound : (v w : ℕ) → Has (reached edges v) w → Reaches edges v w
  reached_sound v w h =
      sound v (length edges) 0 (add_targets [] (targets_of edges v))
      (λ y m. elim (from_add_targets [] (targets_of edges v) y m) [ inl a ↦ absurd a | inr a ↦ calls a ]) w h
