-- The steps of the loops of `build`.
use Rattle.std.proofs.Common.{◌≡◌, inl, inr, ℕ, zero, suc, ◌+◌, ◌-◌, ◌<◌, ◌≤◌, Bool, true, false, cond, not, ◌&&◌, ◌||◌, List, [], ◌∷◌, ◌++◌, refl, sym, subst, ap, ◌∙◌, arith, length, get_or, Vec, Global}
use Rattle.std.specs.Prelude.{Option, Some, None, find, slice_get, nat_le, nat_lt, min, MatchBool}
use Rattle.std.specs.Option.{option_map_or}
use Rattle.std.specs.List.{list_any, list_all}
use Rattle.std.proofs.lemmas.Bool.{cases_Bool, cases_eq, cases_lt, or_cases, or_left, or_right, leb-true, le-leb, ltb-true, ltb-false, both_ways}
use Rattle.std.proofs.lemmas.List.{get_or-map, length-map}
use Rattle.graph_core.specs.declared.Target.{Target}
use Rattle.graph_core.specs.declared.Target.TheVariants.{Node, Out}
use Rattle.graph_core.specs.Wiring.{Edges, Has, targets_of, calls_node}
use Rattle.graph_core.specs.Closing.{numbers_from, is_listed, ready_from, is_ready, next_ready_from, next_ready, listed_on, closing_order}
use Rattle.graph_core.specs.Inner.Reach.{lists_of, is_past, add_targets, spread, routes_to, capped_sum, capped_counts}
use Rattle.graph_core.specs.Faults.{LeadsPast, route_count, routes_from_first, IsAccepted}
use Rattle.graph_core.specs.Inner.Walk.{IsBuilt}
use Rattle.graph_core.proofs.Traces.{targets_within}
use Rattle.graph_core.proofs.Reaching.{target_within}
use Rattle.graph_core.proofs.Ordering.{closing_first, closing_below}
use Rattle.graph_core.proofs.Routes.{routes_to_is}

pub length_lists : (vectors : List (Vec Target Global)) → length (lists_of vectors) ≡ length vectors
length_lists vectors = length-map vectors (λ (v : Vec Target Global). v.items)

pub target_lists : (vectors : List (Vec Target Global)) (k : ℕ) (v : Vec Target Global) → k < length vectors → v ≡ get_or vectors k v
    → targets_of (lists_of vectors) k ≡ v.items
target_lists vectors k v l e =
    get_or-map (λ (w : Vec Target Global). w.items) vectors k v [] l ∙ ap (λ (w : Vec Target Global). w.items) (sym e)

numbers_step : (k n : ℕ) → k < n → numbers_from k (n - k) ≡ k ∷ numbers_from (k + 1) (n - (k + 1))
numbers_step k n l =
    let e : n - k ≡ suc (n - (k + 1)) = omega arith in
    let f : suc k ≡ k + 1 = omega arith in
    ap (λ (m : ℕ). numbers_from k m) e ∙ ap (λ (m : ℕ). k ∷ numbers_from m (n - (k + 1))) f

pub ready_more : (edges : Edges) (listed : List ℕ) (v k n : ℕ) (r : Bool) → k < n
    → (not (calls_node edges k v) || is_listed listed k) ≡ true → ready_from edges listed v k (n - k) ≡ r → ready_from edges listed v (k + 1) (n - (k + 1)) ≡ r
ready_more edges listed v k n r l t e =
    let test : ℕ → Bool = λ caller. not (calls_node edges caller v) || is_listed listed caller in
    let step : list_all test (numbers_from k (n - k)) ≡ list_all test (numbers_from (k + 1) (n - (k + 1))) =
    ap (λ (xs : List ℕ). list_all test xs) (numbers_step k n l) ∙ ap (λ (b : Bool). b && list_all test (numbers_from (k + 1) (n - (k + 1)))) t in
    sym step ∙ e

pub ready_no : (edges : Edges) (listed : List ℕ) (v k n : ℕ) (r : Bool) → k < n
    → (not (calls_node edges k v) || is_listed listed k) ≡ false → ready_from edges listed v k (n - k) ≡ r → false ≡ r
ready_no edges listed v k n r l t e =
    let test : ℕ → Bool = λ caller. not (calls_node edges caller v) || is_listed listed caller in
    let step : list_all test (numbers_from k (n - k)) ≡ false =
    ap (λ (xs : List ℕ). list_all test xs) (numbers_step k n l) ∙ ap (λ (b : Bool). b && list_all test (numbers_from (k + 1) (n - (k + 1)))) t in
    sym step ∙ e

pub next_more : (edges : Edges) (listed : List ℕ) (k n : ℕ) (r : Option ℕ) → k < n
    → (not (is_listed listed k) && is_ready edges listed k) ≡ false → next_ready_from edges listed k (n - k) ≡ r → next_ready_from edges listed (k + 1) (n - (k + 1)) ≡ r
next_more edges listed k n r l t e =
    let test : ℕ → Bool = λ v. not (is_listed listed v) && is_ready edges listed v in
    let step : find test (numbers_from k (n - k)) ≡ find test (numbers_from (k + 1) (n - (k + 1))) =
    ap (λ (xs : List ℕ). find test xs) (numbers_step k n l) ∙ ap (λ (b : Bool). cond b (Some k) (find test (numbers_from (k + 1) (n - (k + 1))))) t in
    sym step ∙ e

pub next_found : (edges : Edges) (listed : List ℕ) (k n : ℕ) (r : Option ℕ) → k < n
    → (not (is_listed listed k) && is_ready edges listed k) ≡ true → next_ready_from edges listed k (n - k) ≡ r → Some k ≡ r
next_found edges listed k n r l t e =
    let test : ℕ → Bool = λ v. not (is_listed listed v) && is_ready edges listed v in
    let step : find test (numbers_from k (n - k)) ≡ Some k =
    ap (λ (xs : List ℕ). find test xs) (numbers_step k n l) ∙ ap (λ (b : Bool). cond b (Some k) (find test (numbers_from (k + 1) (n - (k + 1))))) t in
    sym step ∙ e

pub order_more : (edges : Edges) (listed : List ℕ) (k n v : ℕ) (r : List ℕ) → k < n → next_ready edges listed ≡ Some v
    → listed_on edges (n - k) listed ≡ r → listed_on edges (n - (k + 1)) (listed ++ v ∷ []) ≡ r
order_more edges listed k n v r l next e =
    let f : n - k ≡ suc (n - (k + 1)) = omega arith in
    let step : listed_on edges (n - k) listed ≡ listed_on edges (n - (k + 1)) (listed ++ v ∷ []) =
    ap (λ (m : ℕ). listed_on edges m listed) f ∙ ap (λ (o : Option ℕ). option_map_or (λ w. listed_on edges (n - (k + 1)) (listed ++ w ∷ [])) o listed) next in
    sym step ∙ e

pub order_none : (edges : Edges) (listed : List ℕ) (steps : ℕ) (r : List ℕ) → next_ready edges listed ≡ None
    → listed_on edges steps listed ≡ r → listed ≡ r
order_none edges listed zero r next e = e
order_none edges listed (suc steps) r next e =
    let step : listed_on edges (suc steps) listed ≡ listed =
    ap (λ (o : Option ℕ). option_map_or (λ w. listed_on edges steps (listed ++ w ∷ [])) o listed) next in
    sym step ∙ e

pub order_end : (edges : Edges) (listed : List ℕ) (k n : ℕ) (r : List ℕ) → n ≤ k → listed_on edges (n - k) listed ≡ r → listed ≡ r
order_end edges listed k n r l e = let f : 0 ≡ n - k = omega arith in ap (λ (m : ℕ). listed_on edges m listed) f ∙ e

pub spread_more : (edges : Edges) (seen : List ℕ) (k n v : ℕ) (r : List ℕ) → k < n → slice_get seen k ≡ Some v
    → spread edges (n - k) k seen ≡ r → spread edges (n - (k + 1)) (k + 1) (add_targets seen (targets_of edges v)) ≡ r
spread_more edges seen k n v r l next e =
    let f : n - k ≡ suc (n - (k + 1)) = omega arith in
    let g : suc k ≡ k + 1 = omega arith in
    let step : spread edges (n - k) k seen ≡ spread edges (n - (k + 1)) (k + 1) (add_targets seen (targets_of edges v)) =
    ap (λ (m : ℕ). spread edges m k seen) f
    ∙ (ap (λ (o : Option ℕ). option_map_or (λ w. spread edges (n - (k + 1)) (suc k) (add_targets seen (targets_of edges w))) o seen) next
    ∙ ap (λ (i : ℕ). spread edges (n - (k + 1)) i (add_targets seen (targets_of edges v))) g) in
    sym step ∙ e

pub spread_none : (edges : Edges) (seen : List ℕ) (steps k : ℕ) (r : List ℕ) → slice_get seen k ≡ None → spread edges steps k seen ≡ r → seen ≡ r
spread_none edges seen zero k r next e = e
spread_none edges seen (suc steps) k r next e =
    let step : spread edges (suc steps) k seen ≡ seen =
    ap (λ (o : Option ℕ). option_map_or (λ w. spread edges steps (suc k) (add_targets seen (targets_of edges w))) o seen) next in
    sym step ∙ e

pub spread_end : (edges : Edges) (seen : List ℕ) (k n : ℕ) (r : List ℕ) → n ≤ k → spread edges (n - k) k seen ≡ r → seen ≡ r
spread_end edges seen k n r l e = let f : 0 ≡ n - k = omega arith in ap (λ (m : ℕ). spread edges m k seen) f ∙ e

-- what none of the first k has, and k has not
pub below_more : (Fact : ℕ → Type 0) (k : ℕ) → ((v : ℕ) → v < k → Fact v → ⊥) → (Fact k → ⊥) → (v : ℕ) → v < k + 1 → Fact v → ⊥
below_more Fact k before here v l f =
    elim (cases_eq v k) [ inl e ↦ here (subst Fact e f) | inr ne ↦ before v (last v k l ne) f ]
  where
    last : (v k : ℕ) → v < k + 1 → (v ≡ k → ⊥) → v < k
    last v k m ne = elim (cases_lt v k) [ inl a ↦ a | inr a ↦ absurd (ne (omega arith)) ]

past_has : (n : ℕ) (targets : List Target) → list_any (is_past n) targets ≡ true → (w : ℕ) × (Has targets (Node w) × (n ≤ w))
past_has n [] t = absurd (both_ways false refl t)
past_has n (Out ∷ targets) t = let r = past_has n targets t in (r.0, (inr r.1.0, r.1.1))
past_has n (Node w ∷ targets) t =
    elim (or_cases (nat_le n w) (list_any (is_past n) targets) t)
    [ inl e ↦ (w, (inl refl, leb-true n w e)) | inr k ↦ (let r = past_has n targets k in (r.0, (inr r.1.0, r.1.1))) ]

has_past : (n : ℕ) (targets : List Target) (w : ℕ) → Has targets (Node w) → n ≤ w → list_any (is_past n) targets ≡ true
has_past n [] w h l = absurd h
has_past n (to ∷ targets) w (inl e) l = or_left (is_past n to) (list_any (is_past n) targets) (subst (λ (t : Target). is_past n t ≡ true) e (le-leb n w l))
has_past n (to ∷ targets) w (inr h) l = or_right (is_past n to) (list_any (is_past n) targets) (has_past n targets w h l)

pub leads_past : (edges : Edges) (v : ℕ) → list_any (is_past (length edges)) (targets_of edges v) ≡ true → LeadsPast edges v
leads_past edges v t = past_has (length edges) (targets_of edges v) t

pub leads_not : (edges : Edges) (v : ℕ) → list_any (is_past (length edges)) (targets_of edges v) ≡ false → LeadsPast edges v → ⊥
leads_not edges v f p = both_ways (list_any (is_past (length edges)) (targets_of edges v)) f (has_past (length edges) (targets_of edges v) p.0 p.1.0 p.1.1)

pub leads_within : (edges : Edges) (v : ℕ) → LeadsPast edges v → v < length edges
leads_within edges v p = targets_within edges v (Node p.0) p.1.0

pub accepted_built : (edges : Edges) (order : List ℕ) → IsAccepted edges → order ≡ closing_order edges → IsBuilt edges order
accepted_built edges order accepted e =
    record {
      is_closing_order = e;
      callers_first = rw e (closing_first edges accepted.no_cycle);
      within = target_within edges accepted.within;
      listed = λ v h. closing_below edges accepted.no_cycle v (rw e at h);
    }

-- counting from the first node up to 1,025
pub counted : (edges : Edges) (counts : List ℕ) → counts ≡ capped_counts edges (length edges)
    → capped_sum counts 0 (Node 0 ∷ []) ≡ min (routes_from_first edges) 1025
counted edges counts e =
    let f : routes_to counts (Node 0) ≡ min (route_count edges (length edges) (Node 0)) 1025 = rw e (routes_to_is edges (length edges) (Node 0)) in
    let g : capped_sum counts 0 (Node 0 ∷ []) ≡ min (0 + routes_to counts (Node 0)) 1025 = refl in
    g ∙ (let h : min (0 + routes_to counts (Node 0)) 1025 ≡ min (routes_from_first edges) 1025 = rw f (omega arith) in h)

pub many_routes : (r n : ℕ) → n ≡ min r 1025 → MatchBool (nat_lt 1024 n) (1024 < r) (r ≤ 1024)
many_routes r n e =
    elim (cases_Bool (nat_lt 1024 n))
    [ inl t ↦ rw t (let l = ltb-true 1024 n t in omega arith) | inr f ↦ rw f (let l = ltb-false 1024 n f in omega arith) ]
