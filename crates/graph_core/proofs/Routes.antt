-- Counting up to 1,025 tells whether there are more than 1,024 routes.
use Rattle.std.proofs.Common.{inl, inr, ◌≡◌, ℕ, zero, suc, ◌+◌, ◌<◌, ◌≤◌, List, [], ◌∷◌, refl, sym, ap, ◌∙◌, arith, length, map, get_or, min, replicate, zero-add}
use Rattle.std.specs.List.{sum_by}
use Rattle.std.proofs.lemmas.List.{get_or_past}
use Rattle.std.proofs.lemmas.List.Sums.{sum_by-cons}
use Rattle.graph_core.specs.declared.Target.{Target}
use Rattle.graph_core.specs.declared.Target.TheVariants.{Node, Out}
use Rattle.graph_core.specs.Wiring.{Edges, Has, targets_of}
use Rattle.std.specs.Prelude.{◌==◌}
use Rattle.std.proofs.lemmas.Bool.{cases_lt, cond_both, cond-true, eq-eqb}
use Rattle.graph_core.specs.Closing.{CallersFirst}
use Rattle.graph_core.specs.Inner.Walk.{height}
use Rattle.graph_core.specs.Inner.Reach.{routes_to, capped_sum, capped_counts}
use Rattle.graph_core.specs.Faults.{route_count}
use Rattle.graph_core.proofs.Delivering.{height_falls, height_le}
use Rattle.graph_core.proofs.Closings.{listed_or_left, left_not_listed}
use Rattle.graph_core.proofs.Pigeons.{Distinct, pigeons}

get_or_map : {X Y : Type 0} (f : X → Y) (xs : List X) (i : ℕ) (d : X) (e : Y) → f d ≡ e → get_or (map f xs) i e ≡ f (get_or xs i d)
get_or_map f [] i d e h = sym h
get_or_map f (x ∷ xs) zero d e h = refl
get_or_map f (x ∷ xs) (suc i) d e h = get_or_map f xs i d e h

get_or_zeros : (n i : ℕ) → get_or {A = ℕ} (replicate n 0) i 0 ≡ 0
get_or_zeros zero i = refl
get_or_zeros (suc n) zero = refl
get_or_zeros (suc n) (suc i) = get_or_zeros n i

capped_more : (a b c d : ℕ) → a ≡ min b 1025 → c ≡ min d 1025 → min (a + c) 1025 ≡ min (b + d) 1025
capped_more a b c d e f = omega arith

capped : (counts : List ℕ) (f : Target → ℕ) → ((to : Target) → routes_to counts to ≡ min (f to) 1025)
    → (targets : List Target) (a b : ℕ) → a ≡ min b 1025 → capped_sum counts a targets ≡ min (b + sum_by f targets) 1025
capped counts f same [] a b e = omega arith
capped counts f same (to ∷ targets) a b e =
    capped counts f same targets (min (a + routes_to counts to) 1025) (b + f to) (capped_more a b (routes_to counts to) (f to) e (same to))
    ∙ ap (λ (n : ℕ). min n 1025) (rw (sum_by-cons f to targets) (omega arith))

pub routes_to_is : (edges : Edges) (steps : ℕ) (to : Target) → routes_to (capped_counts edges steps) to ≡ min (route_count edges steps to) 1025
routes_to_is edges zero Out = refl
routes_to_is edges (suc steps) Out = refl
routes_to_is edges zero (Node v) = get_or_zeros (length edges) v
routes_to_is edges (suc steps) (Node v) =
    get_or_map (λ (targets : List Target). capped_sum (capped_counts edges steps) 0 targets) edges v [] 0 refl
    ∙ capped (capped_counts edges steps) (λ to. route_count edges steps to) (λ to. routes_to_is edges steps to) (targets_of edges v) 0 0 (omega arith)
    ∙ ap (λ (n : ℕ). min n 1025) (zero-add (sum_by (λ to. route_count edges steps to) (targets_of edges v)))

height_positive : (order : List ℕ) (v : ℕ) → Has order v → 0 < height order v
height_positive [] v h = absurd h
height_positive (w ∷ rest) v (inl e) = rw (cond-true (v == w) (suc (length rest)) (height rest v) (eq-eqb v w e)) (omega arith)
height_positive (w ∷ rest) v (inr h) =
    cond_both (v == w) (suc (length rest)) (height rest v) (λ n. 0 < n) (λ _. omega arith) (λ _. height_positive rest v h)

-- the nodes of an order are distinct, so there are no more than the graph has
order_distinct : (edges : Edges) (listed rest : List ℕ) → CallersFirst edges listed rest → Distinct rest
order_distinct edges listed [] first = tt
order_distinct edges listed (v ∷ rest) first =
    ((λ h. left_not_listed edges (v ∷ listed) rest first.2 v h (inl refl)), order_distinct edges (v ∷ listed) rest first.2)

out_same : (edges : Edges) (a b : ℕ) → route_count edges a Out ≡ route_count edges b Out
out_same edges zero zero = refl
out_same edges zero (suc b) = refl
out_same edges (suc a) zero = refl
out_same edges (suc a) (suc b) = refl

past : (edges : Edges) (v : ℕ) → length edges ≤ v → (steps : ℕ) → route_count edges steps (Node v) ≡ 0
past edges v l zero = refl
past edges v l (suc steps) = rw (get_or_past edges v [] l) refl

-- no route has more nodes than the graph
module _ (edges : Edges) (order : List ℕ) (first : CallersFirst edges [] order) (within : (v w : ℕ) → Has (targets_of edges v) (Node w) → w < length edges) where
  sum_same : (f g : Target → ℕ) (targets : List Target) → ((t : Target) → Has targets t → f t ≡ g t) → sum_by f targets ≡ sum_by g targets
  sum_same f g [] same = refl
  sum_same f g (t ∷ targets) same =
      rw (sum_by-cons f t targets, sum_by-cons g t targets)
      (let e = same t (inl refl) in let r = sum_same f g targets (λ u h. same u (inr h)) in omega arith)

  settled : (k m v : ℕ) → height order v ≤ k → k ≤ m → v < length edges → route_count edges m (Node v) ≡ route_count edges k (Node v)
  settled zero m v low more l = absurd (absent v l low)
    where
      absent : (v : ℕ) → v < length edges → height order v ≤ 0 → ⊥
      absent v l low = elim (listed_or_left edges [] order first v l) [ inl h ↦ h | inr h ↦ (let p = height_positive order v h in omega arith) ]
  settled (suc k) zero v low more l = absurd (omega arith)
  settled (suc k) (suc m) v low more l =
      sum_same (λ t. route_count edges m t) (λ t. route_count edges k t) (targets_of edges v)
      (λ t h. of_target t h (λ w e. settled k m w (let f = height_falls edges order first v w e (within v w e) in omega arith) (omega arith) (within v w e)))
    where
      of_target : (t : Target) → Has (targets_of edges v) t
          → ((w : ℕ) → Has (targets_of edges v) (Node w) → route_count edges m (Node w) ≡ route_count edges k (Node w)) → route_count edges m t ≡ route_count edges k t
      of_target Out h rec = out_same edges m k
      of_target (Node w) h rec = rec w h

  pub whole_routes : ((v : ℕ) → Has order v → v < length edges) → (steps : ℕ) → length edges ≤ steps → (to : Target)
      → route_count edges steps to ≡ route_count edges (length edges) to
  whole_routes below steps more Out = out_same edges steps (length edges)
  whole_routes below steps more (Node v) =
      elim (cases_lt v (length edges)) [
        | inl l ↦ settled (length edges) steps v (let a = height_le edges order v in let b = pigeons (length edges) order (order_distinct edges [] order first) below in omega arith) more l
        | inr l ↦ past edges v l steps ∙ sym (past edges v l (length edges))
      ]
