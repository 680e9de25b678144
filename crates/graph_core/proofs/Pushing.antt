-- From what the code walks to what the public clauses say.
use Rattle.std.proofs.Common.{◌≡◌, inl, inr, ℕ, zero, suc, ◌+◌, ◌<◌, ◌≤◌, List, [], ◌∷◌, ◌++◌, refl, sym, subst, ap, ◌∙◌, arith, map, append_assoc, length, drop, get_or}
use Rattle.std.specs.Prelude.{Option, Some, None}
use Rattle.std.proofs.lemmas.List.{map-append, length-map, drop_more, drop_all}
use Rattle.graph_core.specs.declared.Target.{Target}
use Rattle.graph_core.specs.declared.Target.TheVariants.{Node}
use Rattle.graph_core.specs.declared.NodeSpec.{NodeSpec}
use Rattle.graph_core.specs.Behavior.{Behavior}
use Rattle.graph_core.specs.Wiring.{Edges, Has, wiring_of, edges_of, entry_of}
use Rattle.graph_core.specs.Closing.{closing_order, CallersFirst}
use Rattle.graph_core.specs.Runs.{IsRun}
use Rattle.graph_core.specs.Traces.{Network, Call, numbered, trace, calls_to, calls_for, network_of, inputs, closings, start_states, outputs, states_after, Served}
use Rattle.graph_core.specs.Inner.Walk.{Walk, done, put_out, IsBuilt}
use Rattle.graph_core.proofs.Traces.{walk_gives, walk_log, requests_of_numbered, numbered_apart, run_traces}
use Rattle.graph_core.proofs.Logs.{log_is_run}
use Rattle.graph_core.specs.Faults.{route_count}
use Rattle.graph_core.proofs.Delivering.{length_edges}
use Rattle.graph_core.proofs.Routes.{whole_routes}
use Rattle.graph_core.proofs.Walks.{walk_append, walk_of, continues}
use Rattle.graph_core.proofs.Closings.{closings_start}

pub built_first : (edges : Edges) (order : List ℕ) → IsBuilt edges order → CallersFirst edges [] (closing_order edges)
built_first edges order built = subst (λ (l : List ℕ). CallersFirst edges [] l) built.is_closing_order built.callers_first

pub entry_of_some : {Op : Type 0} (nodes : List (NodeSpec Op)) → 0 < length nodes → entry_of (wiring_of nodes) ≡ Node 0
entry_of_some [] l = absurd (omega arith)
entry_of_some (n ∷ nodes) l = refl

module _ {State Item : Type 0} (net : Network State Item) (first : CallersFirst (edges_of net.wiring) [] (closing_order (edges_of net.wiring))) where
  pub served : (s t : List State) (o p : List Item) (ds : List (Target × Option Item)) → Walk net s o ds t p → Served net s o ds t p
  served s t o p ds w = walk_gives net first w

  pub served_more : (s t : List State) (o p : List Item) (ds : List (Target × Option Item)) → Walk net s o ds t p
      → (from : List State) (before : List Item) (earlier : List (Target × Option Item)) → Served net from before earlier s o
      → Served net from before (earlier ++ ds) t p
  served_more s t o p ds w from before earlier was =
      let now = walk_gives net first w in
      let both = continues net first from earlier ds in
      record {
        states = now.states ∙ (ap (λ (l : List State). states_after net l ds) was.states ∙ sym both.states);
        items = now.items ∙ rw (was.items, was.states, both.items) (append_assoc before (outputs net from earlier) (outputs net (states_after net from earlier) ds));
      }

  pub one_more : (s t : List State) (o p : List Item) (x : Item) → Walk net s o (inputs net (x ∷ [])) t p
      → (from : List State) (before earlier : List Item) → Served net from before (inputs net earlier) s o
      → Served net from before (inputs net (earlier ++ x ∷ [])) t p
  one_more s t o p x w from before earlier was =
      rw (map-append {B = Target × Option Item} (λ (y : Item). (entry_of net.wiring, Some y)) earlier (x ∷ [])) (served_more s t o p (inputs net (x ∷ [])) w from before (inputs net earlier) was)

-- the closing calls from place i of the order on
abbrev pub closings_from : {Item : Type 0} → List ℕ → ℕ → List (Target × Option Item)
closings_from order i = map (λ v. (Node v, None)) (drop i order)

pub same_length : {Op State Item : Type 0} (behavior : Op → Behavior State Item) (nodes : List (NodeSpec Op))
    → length (edges_of (wiring_of nodes)) ≡ length (network_of behavior nodes).behaviors
same_length behavior [] = refl
same_length behavior (n ∷ nodes) = ap suc (same_length behavior nodes)

pub fresh_after : {Op State Item : Type 0} (behavior : Op → Behavior State Item) (nodes : List (NodeSpec Op))
    → CallersFirst (edges_of (wiring_of nodes)) [] (closing_order (edges_of (wiring_of nodes)))
    → (s t : List State) (o p : List Item) → length s ≡ length nodes → Walk (network_of behavior nodes) s o (closings (network_of behavior nodes)) t p
    → t ≡ start_states (network_of behavior nodes)
fresh_after {Op} behavior nodes first s t o p same w =
    closings_start (network_of behavior nodes) (same_length behavior nodes) first (same ∙ sym (length-map nodes (λ (n : NodeSpec Op). behavior n.op))) w

-- what a built graph's order means for the nodes that its clauses see
pub seen_first : {Op : Type 0} (inside seen : List (NodeSpec Op)) (order : List ℕ) → inside ≡ seen → IsBuilt (edges_of (wiring_of inside)) order
    → CallersFirst (edges_of (wiring_of seen)) [] (closing_order (edges_of (wiring_of seen)))
seen_first {Op} inside seen order e built =
    subst (λ (nodes : List (NodeSpec Op)). CallersFirst (edges_of (wiring_of nodes)) [] (closing_order (edges_of (wiring_of nodes)))) e (built_first (edges_of (wiring_of inside)) order built)

Has-get_or : (xs : List ℕ) (i : ℕ) → i < length xs → Has xs (get_or xs i 0)
Has-get_or [] i l = absurd (omega arith)
Has-get_or (x ∷ xs) zero l = inl refl
Has-get_or (x ∷ xs) (suc i) l = inr (Has-get_or xs i (omega arith))

pub order_within : {Op : Type 0} (inside seen : List (NodeSpec Op)) (order : List ℕ) → inside ≡ seen → IsBuilt (edges_of (wiring_of inside)) order
    → (i : ℕ) → i < length order → get_or order i 0 < length seen
order_within {Op} inside seen order e built i l =
    subst (λ (nodes : List (NodeSpec Op)). get_or order i 0 < length nodes) e
    (rw (← length_edges inside) (built.listed (get_or order i 0) (Has-get_or order i l)))

-- one node closed, and then the rest
pub close_more : {State Item : Type 0} (net : Network State Item) (s m t : List State) (o q p : List Item) (order : List ℕ) (i : ℕ) → i < length order
    → Walk net s o ((Node (get_or order i 0), None) ∷ []) m q → Walk net m q (closings_from order (i + 1)) t p → Walk net s o (closings_from order i) t p
close_more {State} {Item} net s m t o q p order i l one rest =
    rw (drop_more order i 0 l) (walk_append net one rest)

-- nothing is left to close
pub close_none : {State Item : Type 0} (net : Network State Item) (s : List State) (o : List Item) (order : List ℕ) (i : ℕ) → length order ≤ i
    → Walk net s o (closings_from order i) s o
close_none net s o order i l = rw (drop_all i order l) done

pub close_whole : {Op State Item : Type 0} (behavior : Op → Behavior State Item) (inside seen : List (NodeSpec Op)) (listed order : List ℕ)
    → inside ≡ seen → order ≡ listed → IsBuilt (edges_of (wiring_of inside)) listed → (s t : List State) (o p : List Item)
    → Walk (network_of behavior seen) s o (closings_from order 0) t p → Walk (network_of behavior seen) s o (closings (network_of behavior seen)) t p
close_whole {Op} {State} {Item} behavior inside seen listed order e f built s t o p w =
    let same : order ≡ closing_order (edges_of (wiring_of seen)) = f ∙ (built.is_closing_order ∙ ap (λ (nodes : List (NodeSpec Op)). closing_order (edges_of (wiring_of nodes))) e) in
    subst (λ (l : List ℕ). Walk (network_of behavior seen) s o (map (λ v. (Node v, None)) l) t p) same w

-- without nodes an input goes out
pub enter_empty : {Op State Item : Type 0} (behavior : Op → Behavior State Item) (nodes : List (NodeSpec Op)) → length nodes ≡ 0
    → (s : List State) (o p : List Item) (x : Item) → p ≡ o ++ x ∷ [] → Walk (network_of behavior nodes) s o (inputs (network_of behavior nodes) (x ∷ [])) s p
enter_empty {Op} {State} {Item} behavior [] l s o p x e =
    let u : Walk (network_of behavior []) s (o ++ x ∷ []) [] s p = rw e done in
    put_out {x = Some x} u
enter_empty behavior (n ∷ nodes) l s o p x e = cc

pub seen_routes : {Op : Type 0} (inside seen : List (NodeSpec Op)) (order : List ℕ) → inside ≡ seen → IsBuilt (edges_of (wiring_of inside)) order
    → (steps : ℕ) → length (edges_of (wiring_of seen)) ≤ steps → (to : Target)
    → route_count (edges_of (wiring_of seen)) steps to ≡ route_count (edges_of (wiring_of seen)) (length (edges_of (wiring_of seen))) to
seen_routes {Op} inside seen order e built =
    subst (λ (nodes : List (NodeSpec Op)). (steps : ℕ) → length (edges_of (wiring_of nodes)) ≤ steps → (to : Target)
    → route_count (edges_of (wiring_of nodes)) steps to ≡ route_count (edges_of (wiring_of nodes)) (length (edges_of (wiring_of nodes))) to)
    e (whole_routes (edges_of (wiring_of inside)) order built.callers_first built.within built.listed)

-- the laws
module _ {State Item : Type 0} (net : Network State Item) (first : CallersFirst (edges_of net.wiring) [] (closing_order (edges_of net.wiring))) where
  pub prefix : (from : List State) (earlier later : List (Target × Option Item))
      → (rest : List Item) × (outputs net from (earlier ++ later) ≡ outputs net from earlier ++ rest)
  prefix from earlier later = (outputs net (states_after net from earlier) later, (continues net first from earlier later).items)

  pub prefix_inputs : (from : List State) (items more : List Item)
      → (rest : List Item) × (outputs net from (inputs net (items ++ more)) ≡ outputs net from (inputs net items) ++ rest)
  prefix_inputs from items more =
      rw (map-append {B = Target × Option Item} (λ (y : Item). (entry_of net.wiring, Some y)) items more) (prefix from (inputs net items) (inputs net more))

  pub some_run : (from : List State) (requests : List (Target × Option Item)) → (calls : List (Call Item)) × IsRun net from (numbered 0 requests) calls
  some_run from requests =
      let l = walk_log net (walk_of net first requests from []).walk (numbered 0 requests) (requests_of_numbered 0 requests) in
      (l.log, log_is_run net l.logged (numbered_apart 0 requests))

  pub every_run : (from : List State) (requests : List (Target × Option Item)) (calls : List (Call Item)) → IsRun net from (numbered 0 requests) calls
      → (to : Target) → calls_to to calls ≡ trace to (calls_for net from requests)
  every_run from requests calls run to = sym (run_traces net from (numbered 0 requests) calls run first to)
