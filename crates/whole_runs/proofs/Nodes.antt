-- What a node of a graph does to the states and calls, and nodes one after another.
use Rattle.std.proofs.Common.{◌≡◌, ℕ, ◌+◌, ◌<◌, ◌≤◌, List, [], ◌++◌, sym, ap, ◌∙◌, length, drop, get_or}
use Rattle.std.specs.Prelude.{Some, slice_get}
use Rattle.std.proofs.lemmas.List.{at_drop_more, at_drop_all}
use Rattle.std.proofs.lemmas.Option.{slice_get_read}
use Rattle.graph_core.specs.Behavior.{Behavior}
use Rattle.graph_core.specs.declared.NodeSpec.{NodeSpec}
use Rattle.graph_core.specs.declared.Target.TheVariants.{Node}
use Rattle.graph_core.specs.Traces.{Network, network_of, Call, by_address, calls_to, calls_from}
use Rattle.whole_runs.specs.Inner.Serving.{calls_not_to, taken_by, states_behind, calls_behind, states_in_order, calls_in_order}

module _ {Op State Item : Type 0} (behavior : Op → Behavior State Item) (nodes : List (NodeSpec Op)) (v : ℕ) (node : NodeSpec Op) (states : List State) (state : State)
    (within : v < length nodes) (is_node : node ≡ get_or nodes v node) (many : length states ≡ length nodes) (is_state : state ≡ get_or states v state) where
  abbrev net : Network State Item
  net = network_of behavior nodes

  has_state : slice_get states v ≡ Some state
  has_state = slice_get_read states (length nodes) v state (sym many) within is_state

-- a node has taken its calls, brought in order
module _ {State Item : Type 0} (net : Network State Item) (v : ℕ) (states : List State) (calls own served : List (Call Item)) (own_are : own ≡ calls_to (Node v) calls) (served_are : served ≡ by_address own) where
  pub states_left : (after : List State) → after ≡ taken_by net v states served → after ≡ states_behind net v states calls
  states_left after e = e ∙ ap (taken_by net v states) (served_are ∙ ap by_address own_are)

  pub calls_left : (rest left : List (Call Item)) → rest ≡ calls_not_to (Node v) calls → left ≡ rest ++ calls_from net states v served → left ≡ calls_behind net v states calls
  calls_left rest left r e =
      e ∙ (ap (λ (l : List (Call Item)). l ++ calls_from net states v served) r
      ∙ ap (λ (l : List (Call Item)). calls_not_to (Node v) calls ++ calls_from net states v l) (served_are ∙ ap by_address own_are))

module _ {State Item : Type 0} (net : Network State Item) (order : List ℕ) (i : ℕ) (s s_next : List State) (c c_next : List (Call Item)) where
  -- the next node of the order
  module _ (within : i < length order) (states_are : s_next ≡ states_behind net (get_or order i 0) s c) (calls_are : c_next ≡ calls_behind net (get_or order i 0) s c) where
    pub states_more : states_in_order net (drop (i + 1) order) s_next c_next ≡ states_in_order net (drop i order) s c
    states_more =
        ap (λ (z : List State). states_in_order net (drop (i + 1) order) z c_next) states_are
        ∙ (ap (states_in_order net (drop (i + 1) order) (states_behind net (get_or order i 0) s c)) calls_are
        ∙ sym (at_drop_more (λ (l : List ℕ). states_in_order net l s c) order i 0 within))

    pub calls_more : calls_in_order net (drop (i + 1) order) s_next c_next ≡ calls_in_order net (drop i order) s c
    calls_more =
        ap (λ (z : List State). calls_in_order net (drop (i + 1) order) z c_next) states_are
        ∙ (ap (calls_in_order net (drop (i + 1) order) (states_behind net (get_or order i 0) s c)) calls_are
        ∙ sym (at_drop_more (λ (l : List ℕ). calls_in_order net l s c) order i 0 within))

-- at the end of the order nothing is left
pub states_done : {State Item : Type 0} (net : Network State Item) (order : List ℕ) (i : ℕ) (s : List State) (c : List (Call Item)) → length order ≤ i
    → s ≡ states_in_order net (drop i order) s c
states_done net order i s c past = sym (at_drop_all (λ (l : List ℕ). states_in_order net l s c) order i past)

pub calls_done : {State Item : Type 0} (net : Network State Item) (order : List ℕ) (i : ℕ) (s : List State) (c : List (Call Item)) → length order ≤ i
    → c ≡ calls_in_order net (drop i order) s c
calls_done net order i s c past = sym (at_drop_all (λ (l : List ℕ). calls_in_order net l s c) order i past)
