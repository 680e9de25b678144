-- Calls that are added one after another.
use Rattle.std.proofs.Common.{◌≡◌, ℕ, suc, ◌+◌, ◌<◌, ◌≤◌, Bool, true, false, List, [], ◌∷◌, ◌++◌, refl, sym, ap, ◌∙◌, arith, length, map, take, get_or, add-one, append_assoc}
use Rattle.std.specs.Prelude.{Option, Some, None, if◌then◌else◌, filter_map, not}
use Rattle.std.proofs.lemmas.List.{take_more, take_all, length-take-le, map-append}
use Rattle.std.proofs.lemmas.Bool.{cond-true, cond-false}
use Rattle.std.proofs.lemmas.List.Elements.{filter-append, filter_map-append}
use Rattle.std.specs.Option.{option_to_list}
use Rattle.std.specs.List.{cons_option}
use Rattle.graph_core.specs.declared.Target.{Target}
use Rattle.graph_core.specs.declared.Target.TheVariants.{Node, Out}
use Rattle.graph_core.specs.Closing.{closing_order}
use Rattle.graph_core.specs.Traces.{Network, Call, calls_to, calls_of_targets, calls_of_emissions, numbered, inputs}
use Rattle.graph_core.specs.Wiring.{wiring_of, edges_of, entry_of, same_target}
use Rattle.graph_core.specs.declared.NodeSpec.{NodeSpec}
use Rattle.whole_runs.specs.Requests.{Request, requests, closings_of}
use Rattle.whole_runs.specs.Inner.Serving.{calls_not_to}

-- where the inputs of a graph go
pub entry_none : {Op : Type 0} (nodes : List (NodeSpec Op)) → length nodes ≡ 0 → entry_of (wiring_of nodes) ≡ Out
entry_none [] e = refl
entry_none (node ∷ nodes) e = absurd (omega arith)

pub entry_some : {Op : Type 0} (nodes : List (NodeSpec Op)) → 0 < length nodes → entry_of (wiring_of nodes) ≡ Node 0
entry_some [] l = absurd (omega arith)
entry_some (node ∷ nodes) l = refl

module _ {Item : Type 0} where
  abbrev pub call_at : Target → List ℕ → ℕ → Item → Call Item
  call_at to at j x = record { to = to; at = at ++ j ∷ []; item = Some x }

  targets_push : (targets : List Target) (to : Target) (at : List ℕ) (j k : ℕ) (x : Item) → k ≡ j + length targets
      → calls_of_targets (targets ++ to ∷ []) at j x ≡ calls_of_targets targets at j x ++ call_at to at k x ∷ []
  targets_push [] to at j k x e = let same : j ≡ k = omega arith in ap (λ (n : ℕ). call_at to at n x ∷ []) same
  targets_push (t ∷ targets) to at j k x e =
      ap (λ (l : List (Call Item)). call_at t at j x ∷ l) (targets_push targets to at (suc j) k x (omega arith))

  -- the calls of the first targets, and one more
  pub targets_more : (targets : List Target) (i : ℕ) (to : Target) (at : List ℕ) (x : Item) → i < length targets → to ≡ get_or targets i to
      → calls_of_targets (take (i + 1) targets) at 0 x ≡ calls_of_targets (take i targets) at 0 x ++ call_at to at i x ∷ []
  targets_more targets i to at x within e =
      ap (λ (l : List Target). calls_of_targets l at 0 x) (take_more targets i to within ∙ ap (λ (t : Target). take i targets ++ t ∷ []) (sym e))
      ∙ targets_push (take i targets) to at 0 i x (let l = length-take-le i targets (omega arith) in omega arith)

  -- those of all
  pub targets_last : (targets : List Target) (to : Target) (at : List ℕ) (x : Item)
      → calls_of_targets (targets ++ to ∷ []) at 0 x ≡ calls_of_targets targets at 0 x ++ call_at to at (length targets) x ∷ []
  targets_last targets to at x = targets_push targets to at 0 (length targets) x (omega arith)

  pub emissions_next : (ports : List (List Target)) (at : List ℕ) (i : ℕ) (emission : ℕ × Item) (emissions : List (ℕ × Item))
      → calls_of_emissions ports at i (emission ∷ emissions)
      ≡ calls_of_targets (get_or ports emission.0 []) (at ++ i ∷ []) 0 emission.1 ++ calls_of_emissions ports at (i + 1) emissions
  emissions_next ports at i emission emissions =
      ap (λ (n : ℕ). calls_of_targets (get_or ports emission.0 []) (at ++ i ∷ []) 0 emission.1 ++ calls_of_emissions ports at n emissions) (sym (add-one i))

  abbrev pub root_at : Target → ℕ → Option Item → Call Item
  root_at to place item = record { to = to; at = place ∷ []; item = item }

  -- requests as calls, and one more
  numbered_from : (k n : ℕ) (requests : List (Target × Option Item)) (to : Target) (item : Option Item) → n ≡ k + length requests
      → numbered k (requests ++ (to, item) ∷ []) ≡ numbered k requests ++ root_at to n item ∷ []
  numbered_from k n [] to item e = let same : k ≡ n = omega arith in ap (λ (m : ℕ). root_at to m item ∷ []) same
  numbered_from k n (r ∷ requests) to item e =
      ap (λ (l : List (Call Item)). root_at r.0 k r.1 ∷ l) (numbered_from (suc k) n requests to item (omega arith))

  length_numbered : (k : ℕ) (requests : List (Target × Option Item)) → length (numbered k requests) ≡ length requests
  length_numbered k [] = refl
  length_numbered k (r ∷ requests) = ap suc (length_numbered (suc k) requests)

  pub numbered_more : (requests : List (Target × Option Item)) (to : Target) (item : Option Item)
      → numbered 0 (requests ++ (to, item) ∷ []) ≡ numbered 0 requests ++ root_at to (length (numbered 0 requests)) item ∷ []
  numbered_more requests to item = numbered_from 0 (length (numbered 0 requests)) requests to item (let l = length_numbered 0 requests in omega arith)

  -- the same for a list of calls that are numbered requests
  pub numbered_push : (requests : List (Target × Option Item)) (to : Target) (item : Option Item) (calls more : List (Call Item))
      → calls ≡ numbered 0 requests → more ≡ calls ++ root_at to (length calls) item ∷ [] → more ≡ numbered 0 (requests ++ (to, item) ∷ [])
  numbered_push requests to item calls more e f =
      f ∙ (ap (λ (l : List (Call Item)). l ++ root_at to (length l) item ∷ []) e ∙ sym (numbered_more requests to item))

  -- an input more
  pub inputs_step : {State : Type 0} (net : Network State Item) (items : List Item) (item : Item)
      → numbered 0 (inputs net items) ++ root_at (entry_of net.wiring) (length (numbered 0 (inputs net items))) (Some item) ∷ [] ≡ numbered 0 (inputs net (items ++ item ∷ []))
  inputs_step net items item =
      sym (numbered_more (inputs net items) (entry_of net.wiring) (Some item))
      ∙ ap (numbered 0) (sym (map-append (λ (x : Item). (entry_of net.wiring, Some x)) items (item ∷ [])))

  pub inputs_more : {State : Type 0} (net : Network State Item) (items : List Item) (item : Item) (entry : Target) (calls more : List (Call Item)) → entry ≡ entry_of net.wiring
      → calls ≡ numbered 0 (inputs net items) → more ≡ calls ++ root_at entry (length calls) (Some item) ∷ [] → more ≡ numbered 0 (inputs net (items ++ item ∷ []))
  inputs_more net items item entry calls more is e f =
      f ∙ (ap (λ (l : List (Call Item)). l ++ root_at entry (length l) (Some item) ∷ []) e
      ∙ (ap (λ (to : Target). numbered 0 (inputs net items) ++ root_at to (length (numbered 0 (inputs net items))) (Some item) ∷ []) is ∙ inputs_step net items item))

  abbrev closing_request : ℕ → Request Item
  closing_request v = (Node v, None)

  -- the closing call of a node more
  pub closings_more : (earlier : List (Request Item)) (order : List ℕ) (i : ℕ) (calls more : List (Call Item)) → i < length order
      → calls ≡ numbered 0 (earlier ++ closings_of (take i order)) → more ≡ calls ++ root_at (Node (get_or order i 0)) (length calls) None ∷ []
      → more ≡ numbered 0 (earlier ++ closings_of (take (i + 1) order))
  closings_more earlier order i calls more within e f =
      numbered_push (earlier ++ closings_of (take i order)) (Node (get_or order i 0)) None calls more e f
      ∙ ap (numbered 0) (append_assoc earlier (closings_of (take i order)) ((Node (get_or order i 0), None) ∷ [])
      ∙ ap (λ (l : List (Request Item)). earlier ++ l) (sym (ap (λ (l : List ℕ). map closing_request l) (take_more order i 0 within)
      ∙ map-append closing_request (take i order) (get_or order i 0 ∷ []))))

  pub closings_end : (earlier : List (Request Item)) (order : List ℕ) (i : ℕ) (calls : List (Call Item)) → length order ≤ i
      → calls ≡ numbered 0 (earlier ++ closings_of (take i order)) → calls ≡ numbered 0 (earlier ++ closings_of order)
  closings_end earlier order i calls past e = e ∙ ap (λ (l : List ℕ). numbered 0 (earlier ++ map closing_request l)) (take_all i order past)

  -- the inputs, and the closing calls where the run is closed
  pub roots_are : {State : Type 0} (net : Network State Item) (items : List Item) (order nodes : List ℕ) (closed : Bool) (calls more : List (Call Item))
      → order ≡ closing_order (edges_of net.wiring) → nodes ≡ (if closed then order else []) → calls ≡ numbered 0 (inputs net items)
      → ((earlier : List (Request Item)) → calls ≡ numbered 0 earlier → more ≡ numbered 0 (earlier ++ closings_of nodes)) → more ≡ numbered 0 (requests net items closed)
  roots_are net items order nodes true calls more o n e f =
      f (inputs net items) e ∙ ap (λ (l : List ℕ). numbered 0 (inputs net items ++ map closing_request l)) (n ∙ o)
  roots_are net items order nodes false calls more o n e f =
      f (inputs net items) e ∙ ap (λ (l : List ℕ). numbered 0 (inputs net items ++ map closing_request l)) n

  -- what the first targets' calls are, one step on and at the end
  pub targets_step : (before : List (Call Item)) (targets : List Target) (i : ℕ) (to : Target) (at : List ℕ) (x : Item) → i < length targets → to ≡ get_or targets i to
      → (before ++ calls_of_targets (take i targets) at 0 x) ++ call_at to at i x ∷ [] ≡ before ++ calls_of_targets (take (i + 1) targets) at 0 x
  targets_step before targets i to at x within e =
      append_assoc before (calls_of_targets (take i targets) at 0 x) (call_at to at i x ∷ [])
      ∙ ap (λ (l : List (Call Item)). before ++ l) (sym (targets_more targets i to at x within e))

  pub targets_loop : (before calls more : List (Call Item)) (targets : List Target) (i : ℕ) (to : Target) (at : List ℕ) (x copy : Item) → copy ≡ x
      → calls ≡ before ++ calls_of_targets (take i targets) at 0 x → more ≡ calls ++ call_at to at i copy ∷ [] → i < length targets → to ≡ get_or targets i to
      → more ≡ before ++ calls_of_targets (take (i + 1) targets) at 0 x
  targets_loop before calls more targets i to at x copy same e f within is =
      f ∙ (ap (λ (l : List (Call Item)). l ++ call_at to at i copy ∷ []) e
      ∙ (ap (λ (y : Item). (before ++ calls_of_targets (take i targets) at 0 x) ++ call_at to at i y ∷ []) same ∙ targets_step before targets i to at x within is))

  pub targets_end : (before : List (Call Item)) (others : List Target) (i : ℕ) (last : Target) (at : List ℕ) (x : Item) → length others ≤ i
      → (before ++ calls_of_targets (take i others) at 0 x) ++ call_at last at (length others) x ∷ [] ≡ before ++ calls_of_targets (others ++ last ∷ []) at 0 x
  targets_end before others i last at x past =
      ap (λ (l : List Target). (before ++ calls_of_targets l at 0 x) ++ call_at last at (length others) x ∷ []) (take_all i others past)
      ∙ (append_assoc before (calls_of_targets others at 0 x) (call_at last at (length others) x ∷ [])
      ∙ ap (λ (l : List (Call Item)). before ++ l) (sym (targets_last others last at x)))

  -- a call more that is looked through
  pub own_more : (to : Target) (calls : List (Call Item)) (call : Call Item) → calls_to to calls ++ calls_to to (call ∷ []) ≡ calls_to to (calls ++ call ∷ [])
  own_more to calls call = sym (filter-append (λ (c : Call Item). same_target to c.to) calls (call ∷ []))

  pub others_more : (to : Target) (calls : List (Call Item)) (call : Call Item) → calls_not_to to calls ++ calls_not_to to (call ∷ []) ≡ calls_not_to to (calls ++ call ∷ [])
  others_more to calls call = sym (filter-append (λ (c : Call Item). not (same_target to c.to)) calls (call ∷ []))

  pub own_in : (to : Target) (call : Call Item) → same_target to call.to ≡ true → calls_to to (call ∷ []) ≡ call ∷ []
  own_in to call t = cond-true (same_target to call.to) (call ∷ []) [] t

  pub own_out : (to : Target) (call : Call Item) → same_target to call.to ≡ false → calls_to to (call ∷ []) ≡ []
  own_out to call f = cond-false (same_target to call.to) (call ∷ []) [] f

  pub other_in : (to : Target) (call : Call Item) → same_target to call.to ≡ false → calls_not_to to (call ∷ []) ≡ call ∷ []
  other_in to call f = cond-true (not (same_target to call.to)) (call ∷ []) [] (ap not f)

  pub other_out : (to : Target) (call : Call Item) → same_target to call.to ≡ true → calls_not_to to (call ∷ []) ≡ []
  other_out to call t = cond-false (not (same_target to call.to)) (call ∷ []) [] (ap not t)

  pub handed_more : (calls : List (Call Item)) (call : Call Item)
      → filter_map (λ (c : Call Item). c.item) calls ++ option_to_list call.item ≡ filter_map (λ (c : Call Item). c.item) (calls ++ call ∷ [])
  handed_more calls call = ap (λ (l : List Item). filter_map (λ (c : Call Item). c.item) calls ++ l) (one call.item) ∙ sym (filter_map-append (λ (c : Call Item). c.item) calls (call ∷ []))
    where
      one : (item : Option Item) → option_to_list item ≡ cons_option item []
      one None = refl
      one (Some y) = refl
