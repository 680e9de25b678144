-- Nodes that take their calls in an order with callers first leave what the traces say.
use Rattle.std.proofs.Common.{◌≡◌, ◌≢◌, inl, inr, ℕ, zero, suc, ◌+◌, Bool, true, false, not, List, [], ◌∷◌, ◌++◌, refl, sym, subst, ap, ◌∙◌, arith, length, zero-add}
use Rattle.std.specs.Prelude.{Option, Some, None, slice_get, slice_set, filter, filter_map}
use Rattle.std.specs.Option.{option_map_or, option_map}
use Rattle.std.proofs.lemmas.Bool.{cases_Bool, cases_lt, cond-true, cond-false}
use Rattle.std.proofs.lemmas.List.{append-nil}
use Rattle.std.proofs.lemmas.List.Elements.{filter-append}
use Rattle.std.proofs.lemmas.Option.{slice_get_past}
use Rattle.graph_core.specs.declared.Target.{Target}
use Rattle.graph_core.specs.declared.Target.TheVariants.{Node, Out}
use Rattle.graph_core.specs.Wiring.{Edges, Has, ports_of, edges_of, targets_of, same_target}
use Rattle.graph_core.specs.Closing.{closing_order, CallersFirst}
use Rattle.graph_core.specs.Traces.{Network, Call, state_after, trace, by_address, calls_to, calls_of_trace, calls_from, calls_through, calls_for, numbered, states_along, states_after, Served}
use Rattle.graph_core.proofs.Closings.{left_not_listed, listed_or_left}
use Rattle.graph_core.proofs.Logs.{made_target, same_target-is, get_set_same, get_set_other}
use Rattle.graph_core.proofs.Traces.{ext_slice_get}
use Rattle.graph_core.proofs.Walks.{CallersListed, CallersListed-more}
use Rattle.whole_runs.proofs.Below.{order_below}
use Rattle.whole_runs.specs.Inner.Serving.{calls_not_to, states_behind, calls_behind, states_in_order, calls_in_order}

same_targets : (t u to : Target) → same_target t to ≡ true → same_target u to ≡ true → t ≡ u
same_targets t u to h k = sym (same_target-is t to h) ∙ same_target-is u to k

module _ {X : Type 0} (p : X → Bool) where
  filter_in : (x : X) (xs : List X) → p x ≡ true → filter p (x ∷ xs) ≡ x ∷ filter p xs
  filter_in x xs e = cond-true (p x) (x ∷ filter p xs) (filter p xs) e

  filter_out : (x : X) (xs : List X) → p x ≡ false → filter p (x ∷ xs) ≡ filter p xs
  filter_out x xs e = cond-false (p x) (x ∷ filter p xs) (filter p xs) e

module _ {Item : Type 0} where
  abbrev is_to : Target → Call Item → Bool
  is_to t c = same_target t c.to

  abbrev is_other : Target → Call Item → Bool
  is_other u c = not (same_target u c.to)

  -- the calls of a target aren't among those of another
  others_keep : (t u : Target) → (t ≡ u → ⊥) → (calls : List (Call Item)) → calls_to t (calls_not_to u calls) ≡ calls_to t calls
  others_keep t u ne [] = refl
  others_keep t u ne (c ∷ calls) = of_tests (same_target u c.to) refl (same_target t c.to) refl (others_keep t u ne calls)
    where
      of_tests : (a : Bool) → same_target u c.to ≡ a → (b : Bool) → same_target t c.to ≡ b → calls_to t (calls_not_to u calls) ≡ calls_to t calls
          → calls_to t (calls_not_to u (c ∷ calls)) ≡ calls_to t (c ∷ calls)
      of_tests true e true f rec = absurd (ne (same_targets t u c.to f e))
      of_tests true e false f rec =
          ap (filter (is_to t)) (filter_out (is_other u) c calls (ap not e)) ∙ (rec ∙ sym (filter_out (is_to t) c calls f))
      of_tests false e true f rec =
          ap (filter (is_to t)) (filter_in (is_other u) c calls (ap not e)) ∙ (filter_in (is_to t) c (calls_not_to u calls) f
          ∙ (ap (λ (l : List (Call Item)). c ∷ l) rec ∙ sym (filter_in (is_to t) c calls f)))
      of_tests false e false f rec =
          ap (filter (is_to t)) (filter_in (is_other u) c calls (ap not e)) ∙ (filter_out (is_to t) c (calls_not_to u calls) f ∙ (rec ∙ sym (filter_out (is_to t) c calls f)))

  -- calls that lead elsewhere are none of a target's
  none_to : (t : Target) (calls : List (Call Item)) → ((c : Call Item) → Has calls c → c.to ≡ t → ⊥) → calls_to t calls ≡ []
  none_to t [] free = refl
  none_to t (c ∷ calls) free =
      elim (cases_Bool (same_target t c.to)) [
        | inl h ↦ absurd (free c (inl refl) (same_target-is t c.to h))
        | inr f ↦ filter_out (is_to t) c calls f ∙ none_to t calls (λ d k. free d (inr k))
      ]

  to_append : (t : Target) (xs ys : List (Call Item)) → calls_to t (xs ++ ys) ≡ calls_to t xs ++ calls_to t ys
  to_append t xs ys = filter-append (λ c. same_target t c.to) xs ys

module _ {State Item : Type 0} (net : Network State Item) (first_states : List State) where
  abbrev edges : Edges
  edges = edges_of net.wiring

  -- what a node's calls leave of its state
  abbrev taken : ℕ → List (Call Item) → Option State
  taken v calls = option_map (λ s. state_after (slice_get net.behaviors v) s (trace (Node v) calls)) (slice_get first_states v)

  made_same : (s : List State) (v : ℕ) (calls : List (Call Item)) → slice_get s v ≡ slice_get first_states v → calls_from net s v calls ≡ calls_from net first_states v calls
  made_same s v calls e = ap (λ (o : Option State). option_map_or (λ q. calls_of_trace (slice_get net.behaviors v) (ports_of net.wiring v) q calls) o []) e

  behind_same : (s : List State) (v : ℕ) (calls : List (Call Item)) (o : Option State) → slice_get s v ≡ o
      → slice_get (states_behind net v s calls) v ≡ option_map (λ q. state_after (slice_get net.behaviors v) q (trace (Node v) calls)) o
  behind_same s v calls None e = rw e e
  behind_same s v calls (Some q) e = rw e (get_set_same s v q (state_after (slice_get net.behaviors v) q (trace (Node v) calls)) e)

  behind_other : (s : List State) (v w : ℕ) (calls : List (Call Item)) → w ≢ v → slice_get (states_behind net v s calls) w ≡ slice_get s w
  behind_other s v w calls ne = of_option (slice_get s v)
    where
      of_option : (o : Option State)
          → slice_get (option_map_or (λ q. slice_set s v (state_after (slice_get net.behaviors v) q (trace (Node v) calls))) o s) w ≡ slice_get s w
      of_option None = refl
      of_option (Some q) = get_set_other s v w (state_after (slice_get net.behaviors v) q (trace (Node v) calls)) ne

  -- what a node makes leads to none of the listed nodes, nor to itself
  leads_on : (listed : List ℕ) (v w : ℕ) (calls : List (Call Item)) → CallersListed edges listed
      → ((caller : ℕ) → Has (targets_of edges caller) (Node v) → Has listed caller) → (Has listed v → ⊥) → Has (v ∷ listed) w
      → calls_to (Node w) (calls_from net first_states v calls) ≡ []
  leads_on listed v w calls closed callers free h =
      none_to (Node w) (calls_from net first_states v calls) (λ c k e.
      let edge : Has (targets_of edges v) (Node w) = subst (λ (t : Target). Has (targets_of edges v) t) e (made_target net first_states v calls c k) in
      elim h [
        | inl same ↦ free (callers v (subst (λ (n : ℕ). Has (targets_of edges v) (Node n)) same edge))
        | inr m ↦ free (closed v w edge m)
      ])

  -- The states and calls at hand, against all calls so far, where these nodes are still to take theirs.
  pub record Stands (order : List ℕ) (states : List State) (calls all : List (Call Item)) : Type 0 where
    pub to_nodes : (w : ℕ) → Has order w → calls_to (Node w) calls ≡ calls_to (Node w) all
    pub to_out : calls_to Out calls ≡ calls_to Out all
    pub untouched : (w : ℕ) → Has order w → slice_get states w ≡ slice_get first_states w

  -- ... and once they have taken them.
  pub record Ends (listed order : List ℕ) (states : List State) (calls all : List (Call Item)) : Type 0 where
    pub out : calls_to Out (calls_in_order net order states calls) ≡ calls_to Out (calls_through net first_states order all)
    pub left : (w : ℕ) → (Has order w → ⊥) → slice_get (states_in_order net order states calls) w ≡ slice_get states w
    pub moved : (w : ℕ) → Has order w → slice_get (states_in_order net order states calls) w ≡ taken w (calls_through net first_states order all)
    pub complete : (w : ℕ) → Has listed w → calls_to (Node w) (calls_through net first_states order all) ≡ calls_to (Node w) all

  -- one node takes its calls
  module _ (v : ℕ) (states : List State) (calls all : List (Call Item)) (same : calls_to (Node v) calls ≡ calls_to (Node v) all)
      (untouched : slice_get states v ≡ slice_get first_states v) where
    abbrev made : List (Call Item)
    made = calls_from net first_states v (trace (Node v) all)

    made_is : calls_from net states v (trace (Node v) calls) ≡ made
    made_is = made_same states v (trace (Node v) calls) untouched ∙ ap (λ (l : List (Call Item)). calls_from net first_states v (by_address l)) same

    passes : (t : Target) → (t ≡ Node v → ⊥) → calls_to t calls ≡ calls_to t all → calls_to t (calls_behind net v states calls) ≡ calls_to t (all ++ made)
    passes t ne e =
        to_append t (calls_not_to (Node v) calls) (calls_from net states v (trace (Node v) calls))
        ∙ (ap (λ (l : List (Call Item)). l ++ calls_to t (calls_from net states v (trace (Node v) calls))) (others_keep t (Node v) ne calls ∙ e)
        ∙ (ap (λ (l : List (Call Item)). calls_to t all ++ calls_to t l) made_is ∙ sym (to_append t all made)))

    -- the node's own calls are all there, and those of the nodes before it
    stay : (listed : List ℕ) (w : ℕ) → CallersListed edges listed → ((caller : ℕ) → Has (targets_of edges caller) (Node v) → Has listed caller)
        → (Has listed v → ⊥) → Has (v ∷ listed) w → calls_to (Node w) (all ++ made) ≡ calls_to (Node w) all
    stay listed w closed callers free h =
        to_append (Node w) all made
        ∙ (ap (λ (l : List (Call Item)). calls_to (Node w) all ++ l) (leads_on listed v w (trace (Node v) all) closed callers free h) ∙ append-nil (calls_to (Node w) all))

    -- the state of the node, where its calls are those at the end too
    node_moved : (final : List (Call Item)) → calls_to (Node v) final ≡ calls_to (Node v) all → slice_get (states_behind net v states calls) v ≡ taken v final
    node_moved final e =
        behind_same states v calls (slice_get first_states v) untouched
        ∙ ap (λ (l : List (Call Item)). option_map (λ s. state_after (slice_get net.behaviors v) s (by_address l)) (slice_get first_states v)) (same ∙ sym e)

  out_is_no_node : (v : ℕ) → Out ≡ Node v → ⊥
  out_is_no_node v e = cc

  same_node : (w v : ℕ) → Node w ≡ Node v → w ≡ v
  same_node w v e = cc

  pub ends : (order listed : List ℕ) (states : List State) (calls all : List (Call Item)) → CallersFirst edges listed order → CallersListed edges listed
      → Stands order states calls all → Ends listed order states calls all
  ends [] listed states calls all first closed stands =
      record { out = stands.to_out; left = λ w h. refl; moved = λ w h. absurd h; complete = λ w h. refl }
  ends (v ∷ order) listed states calls all first closed stands =
      let same = stands.to_nodes v (inl refl) in
      let untouched = stands.untouched v (inl refl) in
      let behind : (w : ℕ) → Has order w → w ≢ v = λ w h e. left_not_listed edges (v ∷ listed) order first.2 w h (inl e) in
      let more = CallersListed-more edges listed v first.0 closed in
      let rec = ends order (v ∷ listed) (states_behind net v states calls) (calls_behind net v states calls) (all ++ made v states calls all same untouched) first.2 more
      (record {
        to_nodes = λ w h. passes v states calls all same untouched (Node w) (λ e. behind w h (same_node w v e)) (stands.to_nodes w (inr h));
        to_out = passes v states calls all same untouched Out (out_is_no_node v) stands.to_out;
        untouched = λ w h. behind_other states v w calls (behind w h) ∙ stands.untouched w (inr h);
      }) in
      record {
        out = rec.out;
        left = λ w h. rec.left w (λ k. h (inr k)) ∙ behind_other states v w calls (λ e. h (inl e));
        moved = λ w h. elim h [
          | inl e ↦ subst (λ (n : ℕ). slice_get (states_in_order net (v ∷ order) states calls) n ≡ taken n (calls_through net first_states (v ∷ order) all)) (sym e)
              (rec.left v (λ k. behind v k refl)
              ∙ node_moved v states calls all same untouched (calls_through net first_states (v ∷ order) all)
              (rec.complete v (inl refl) ∙ stay v states calls all same untouched listed v closed first.0 first.1 (inl refl)))
          | inr k ↦ rec.moved w k
        ];
        complete = λ w h. rec.complete w (inr h) ∙ stay v states calls all same untouched listed w closed first.0 first.1 (inr h);
      }

  get_along : (calls : List (Call Item)) (k : ℕ) (s : List State) (v : ℕ)
      → slice_get (states_along net calls k s) v ≡ option_map (λ q. state_after (slice_get net.behaviors (k + v)) q (trace (Node (k + v)) calls)) (slice_get s v)
  get_along calls k [] v = refl
  get_along calls k (q ∷ s) zero = let e : k ≡ k + 0 = omega arith in
      subst (λ (n : ℕ). Some (state_after (slice_get net.behaviors k) q (trace (Node k) calls)) ≡ Some (state_after (slice_get net.behaviors n) q (trace (Node n) calls))) e refl
  get_along calls k (q ∷ s) (suc v) = let e : suc k + v ≡ k + suc v = omega arith in
      get_along calls (suc k) s v
      ∙ ap (λ (n : ℕ). option_map (λ q. state_after (slice_get net.behaviors n) q (trace (Node n) calls)) (slice_get s v)) e

  along_is : (calls : List (Call Item)) (v : ℕ) → slice_get (states_along net calls 0 first_states) v ≡ taken v calls
  along_is calls v =
      get_along calls 0 first_states v
      ∙ ap (λ (n : ℕ). option_map (λ q. state_after (slice_get net.behaviors n) q (trace (Node n) calls)) (slice_get first_states v)) (zero-add v)

  module _ (first : CallersFirst edges [] (closing_order edges)) (many : length first_states ≡ length edges) (requests : List (Target × Option Item)) where
    abbrev last_states : List State
    last_states = states_in_order net (closing_order edges) first_states (numbered 0 requests)

    all_ends : Ends [] (closing_order edges) first_states (numbered 0 requests) (numbered 0 requests)
    all_ends =
        ends (closing_order edges) [] first_states (numbered 0 requests) (numbered 0 requests) first (λ a b edge h. absurd h)
        (record { to_nodes = λ w h. refl; to_out = refl; untouched = λ w h. refl })

    state_is : (v : ℕ) → slice_get last_states v ≡ slice_get (states_after net first_states requests) v
    state_is v =
        elim (cases_lt v (length edges)) [
          | inl l ↦ (elim (listed_or_left edges [] (closing_order edges) first v l) [
            | inl h ↦ absurd h
            | inr h ↦ all_ends.moved v h ∙ sym (along_is (calls_for net first_states requests) v)
          ])
          | inr l ↦ (let none : slice_get first_states v ≡ None = slice_get_past first_states v (omega arith) in
              all_ends.left v (λ h. let b = order_below edges v h in absurd (omega arith))
              ∙ (none ∙ sym (along_is (calls_for net first_states requests) v ∙ ap (option_map (λ s. state_after (slice_get net.behaviors v) s (trace (Node v) (calls_for net first_states requests)))) none)))
        ]

    -- what is left once each node has taken its calls is what the requests give
    pub served : (states : List State) (left own ordered : List (Call Item)) (out : List Item) → states ≡ last_states
        → left ≡ calls_in_order net (closing_order edges) first_states (numbered 0 requests) → own ≡ calls_to Out left → ordered ≡ by_address own
        → out ≡ filter_map (λ c. c.item) ordered → Served net first_states [] requests states out
    served states left own ordered out s l w b o =
        record {
          states = s ∙ ext_slice_get last_states (states_after net first_states requests) state_is;
          items = o ∙ ap (λ (cs : List (Call Item)). filter_map (λ c. c.item) cs) (b ∙ ap by_address (w ∙ (ap (calls_to Out) l ∙ all_ends.out)));
        }
