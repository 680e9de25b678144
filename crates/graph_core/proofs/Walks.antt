-- Every list of requests has a walk, and walks join: the laws of the traces follow.
use Rattle.std.proofs.Common.{◌≡◌, inl, inr, ℕ, zero, suc, ◌≤◌, List, [], ◌∷◌, ◌++◌, refl, sym, subst, ap, ◌∙◌, arith, map, append_assoc, length, get_or}
use Rattle.std.specs.Prelude.{Option, Some, None, slice_get, slice_set}
use Rattle.std.specs.Option.{option_map_or, option_to_list}
use Rattle.std.specs.List.{flat_map}
use Rattle.std.proofs.lemmas.Bool.{cases_eq, cases_lt}
use Rattle.std.proofs.lemmas.List.{length-map, length-set}
use Rattle.graph_core.specs.declared.Target.{Target}
use Rattle.graph_core.specs.declared.Target.TheVariants.{Node, Out}
use Rattle.graph_core.specs.Wiring.{Edges, Has, ports_of, edges_of, targets_of}
use Rattle.graph_core.specs.Closing.{closing_order, CallersFirst}
use Rattle.graph_core.specs.Traces.{Network, said, next_state, calls_of_emissions, outputs, states_after}
use Rattle.graph_core.specs.Inner.Walk.{deliveries, owed, stepped, sent, Walk, done, put_out, called}
use Rattle.graph_core.proofs.Members.{Has-same, Has-from_map}
use Rattle.graph_core.proofs.Emissions.{ports_targets, of_emissions}
use Rattle.graph_core.proofs.Traces.{request_of, requests_of_emissions, walk_gives}

-- with a listed node all its callers are listed
abbrev pub CallersListed : Edges → List ℕ → Type 0
CallersListed edges listed = (a b : ℕ) → Has (targets_of edges a) (Node b) → Has listed b → Has listed a

-- the target is none of the listed nodes
abbrev pub NotListed : List ℕ → Target → Type 0
NotListed listed (Node v) = Has listed v → ⊥
NotListed listed Out = Unit {0}

pub CallersListed-more : (edges : Edges) (listed : List ℕ) (v : ℕ)
    → ((caller : ℕ) → Has (targets_of edges caller) (Node v) → Has listed caller) → CallersListed edges listed → CallersListed edges (v ∷ listed)
CallersListed-more edges listed v callers closed a b edge (inl e) = inr (callers a (Has-same (targets_of edges a) (Node b) (Node v) (ap Node e) edge))
CallersListed-more edges listed v callers closed a b edge (inr h) = inr (closed a b edge h)

-- what a node that isn't listed calls isn't listed
pub NotListed-called : (edges : Edges) (listed : List ℕ) → CallersListed edges listed → (v : ℕ) → (Has listed v → ⊥)
    → (to : Target) → Has (targets_of edges v) to → NotListed listed to
NotListed-called edges listed closed v free (Node w) edge = λ h. free (closed v w edge h)
NotListed-called edges listed closed v free Out edge = tt

-- nor is it the node itself, where the node's callers are listed
pub NotListed-after : (edges : Edges) (listed : List ℕ) (v : ℕ) → ((caller : ℕ) → Has (targets_of edges caller) (Node v) → Has listed caller)
    → (Has listed v → ⊥) → CallersListed edges listed → (to : Target) → Has (targets_of edges v) to → NotListed (v ∷ listed) to
NotListed-after edges listed v callers free closed (Node w) edge =
    λ h. elim h [ inl e ↦ free (callers v (Has-same (targets_of edges v) (Node w) (Node v) (ap Node e) edge)) | inr k ↦ free (closed v w edge k) ]
NotListed-after edges listed v callers free closed Out edge = tt

get_or_past_all : {X : Type 0} (xs : List (List X)) (n : ℕ) → length xs ≤ n → get_or xs n [] ≡ []
get_or_past_all [] n l = refl
get_or_past_all (x ∷ xs) zero l = absurd (omega arith)
get_or_past_all (x ∷ xs) (suc n) l = get_or_past_all xs n (omega arith)

module _ {State Item : Type 0} (net : Network State Item) where
  deliveries_nil : (es : List (ℕ × Item)) → deliveries [] es ≡ []
  deliveries_nil [] = refl
  deliveries_nil (e ∷ es) = deliveries_nil es

  sent_past : (s : List State) (v : ℕ) (x : Option Item) → length net.wiring ≤ v → sent net s v x ≡ []
  sent_past s v x l = of_option (slice_get s v)
    where
      of_option : (o : Option State) → option_map_or (λ q. owed (deliveries (ports_of net.wiring v) (said (slice_get net.behaviors v) q x))) o [] ≡ []
      of_option None = refl
      of_option (Some q) = rw (get_or_past_all net.wiring v l, deliveries_nil (said (slice_get net.behaviors v) q x)) refl

  pub sent_targets : (s : List State) (v : ℕ) (x : Option Item) (d : Target × Option Item) → Has (sent net s v x) d → Has (targets_of (edges_of net.wiring) v) d.0
  sent_targets s v x d h = of_option (slice_get s v) h
    where
      of_option : (o : Option State) → Has (option_map_or (λ q. owed (deliveries (ports_of net.wiring v) (said (slice_get net.behaviors v) q x))) o []) d → Has (targets_of (edges_of net.wiring) v) d.0
      of_option None k = absurd k
      of_option (Some q) k =
          let es = said (slice_get net.behaviors v) q x in
          let m : Has (map request_of (calls_of_emissions (ports_of net.wiring v) [] 0 es)) d = rw (requests_of_emissions (ports_of net.wiring v) [] 0 es) k in
          let r = Has-from_map request_of (calls_of_emissions (ports_of net.wiring v) [] 0 es) d m in
          rw (← ports_targets net.wiring v, r.is) ((of_emissions (ports_of net.wiring v) [] 0 es r.source r.member).to)

  pub walk_append : {s m t : List State} {o q p : List Item} {a b : List (Target × Option Item)}
      → Walk net s o a m q → Walk net m q b t p → Walk net s o (a ++ b) t p
  walk_append (done {s} {o}) w = w
  walk_append (put_out {s} {t} {o} {p} {x} {rest} u) w = put_out (walk_append u w)
  walk_append {b = b} (called {s} {t} {o} {p} {v} {x} {rest} u) w = called (rw (← append_assoc (sent net s v x) rest b) (walk_append u w))

  pub record Walked (s : List State) (o : List Item) (ds : List (Target × Option Item)) : Type 0 where
    pub states : List State
    pub items : List Item
    pub walk : Walk net s o ds states items

  walk_each : (ds : List (Target × Option Item)) → ((d : Target × Option Item) → Has ds d → (s : List State) (o : List Item) → Walked s o (d ∷ []))
      → (s : List State) (o : List Item) → Walked s o ds
  walk_each [] one s o = record { states = s; items = o; walk = done }
  walk_each (d ∷ ds) one s o =
      let first = one d (inl refl) s o in
      let rest = walk_each ds (λ e h. one e (inr h)) first.states first.items in
      record { states = rest.states; items = rest.items; walk = walk_append first.walk rest.walk }

  walk_one : (rest listed : List ℕ) → CallersFirst (edges_of net.wiring) listed rest → CallersListed (edges_of net.wiring) listed
      → (to : Target) (x : Option Item) → NotListed listed to → (s : List State) (o : List Item) → Walked s o ((to, x) ∷ [])
  walk_one rest listed first closed Out x free s o = record { states = s; items = o ++ option_to_list x; walk = put_out done }
  walk_one [] listed first closed (Node v) x free s o =
      elim (cases_lt v (length (edges_of net.wiring))) [
        | inl l ↦ absurd (free (first v l))
        | inr l ↦ (let past : length net.wiring ≤ v = rw (length-map net.wiring (λ (ports : List (List Target)). flat_map (λ port. port) ports)) at l in
            let u : Walk net (stepped net s v x) o (sent net s v x ++ []) (stepped net s v x) o = rw (sent_past s v x past) done in
            record { states = stepped net s v x; items = o; walk = called u })
      ]
  walk_one (w ∷ rest) listed first closed (Node v) x free s o =
      elim (cases_eq v w) [
        | inl e ↦ (let inner = walk_each (sent net s v x) (λ d h. walk_one rest (w ∷ listed) first.2 (CallersListed-more (edges_of net.wiring) listed w first.0 closed) d.0 d.1
            (NotListed-after (edges_of net.wiring) listed w first.0 first.1 closed d.0 (subst (λ (n : ℕ). Has (targets_of (edges_of net.wiring) n) d.0) e (sent_targets s v x d h))))
            (stepped net s v x) o in
            record { states = inner.states; items = inner.items; walk = called (walk_append inner.walk done) })
        | inr ne ↦ walk_one rest (w ∷ listed) first.2 (CallersListed-more (edges_of net.wiring) listed w first.0 closed) (Node v) x (λ h. elim h [ inl e ↦ ne e | inr k ↦ free k ]) s o
      ]

  not_listed_nil : (to : Target) → NotListed [] to
  not_listed_nil (Node v) = λ h. h
  not_listed_nil Out = tt

  module _ (first : CallersFirst (edges_of net.wiring) [] (closing_order (edges_of net.wiring))) where
    pub walk_of : (ds : List (Target × Option Item)) (s : List State) (o : List Item) → Walked s o ds
    walk_of ds = walk_each ds (λ d h. walk_one (closing_order (edges_of net.wiring)) [] first (λ a b e h. h) d.0 d.1 (not_listed_nil d.0))

    -- requests after requests go on from the states that those leave
    pub record Continues (s : List State) (a b : List (Target × Option Item)) : Type 0 where
      pub states : states_after net s (a ++ b) ≡ states_after net (states_after net s a) b
      pub items : outputs net s (a ++ b) ≡ outputs net s a ++ outputs net (states_after net s a) b

    pub continues : (s : List State) (a b : List (Target × Option Item)) → Continues s a b
    continues s a b =
        let u = walk_of a s [] in
        let v = walk_of b u.states u.items in
        let f = walk_gives net first u.walk in
        let g = walk_gives net first v.walk in
        let h = walk_gives net first (walk_append u.walk v.walk) in
        let m : u.states ≡ states_after net s a = f.states in
        record {
          states = sym h.states ∙ (g.states ∙ ap (λ (l : List State). states_after net l b) m);
          items = sym h.items ∙ (g.items ∙ rw (f.items, m) refl);
        }

  pub length_stepped : (s : List State) (v : ℕ) (x : Option Item) → length (stepped net s v x) ≡ length s
  length_stepped s v x = of_option (slice_get s v)
    where
      of_option : (q : Option State) → length (option_map_or (λ y. slice_set s v (next_state (slice_get net.behaviors v) y x)) q s) ≡ length s
      of_option None = refl
      of_option (Some y) = length-set s v (next_state (slice_get net.behaviors v) y x)

  pub length_walk : {s t : List State} {o p : List Item} {ds : List (Target × Option Item)} → Walk net s o ds t p → length t ≡ length s
  length_walk done = refl
  length_walk (put_out u) = length_walk u
  length_walk (called {s} {t} {o} {p} {v} {x} {rest} u) = length_walk u ∙ length_stepped s v x
