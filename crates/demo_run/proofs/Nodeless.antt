-- A graph without nodes gives what is put in.
use Rattle.std.proofs.Common.{◌≡◌, ℕ, suc, List, [], ◌∷◌, map, Option, Some, refl, ap, ◌∙◌, arith}
use Rattle.std.specs.List.{filter_map}
use Rattle.std.proofs.lemmas.Bool.{lt-ltb}
use Rattle.graph_core.specs.Behavior.{Behavior}
use Rattle.graph_core.specs.Traces.{Network, Call, by_address, calls_to, inputs, insert_call, network_of, numbered, outputs}
use Rattle.graph_core.specs.declared.Target.{Target}
use Rattle.graph_core.specs.declared.Target.TheVariants.{Out}

module _ {Item : Type 0} where
  abbrev put_out : List Item → List (Target × Option Item)
  put_out items = map (λ (x : Item). (Out, Some x)) items

  all_go_out : (k : ℕ) (items : List Item) → calls_to Out (numbered k (put_out items)) ≡ numbered k (put_out items)
  all_go_out k [] = refl
  all_go_out k (x ∷ items) = ap (λ (calls : List (Call Item)). record { to = Out; at = k ∷ []; item = Some x } ∷ calls) (all_go_out (suc k) items)

  first_call : (k : ℕ) (x : Item) (items : List Item)
      → insert_call (record { to = Out; at = k ∷ []; item = Some x }) (numbered (suc k) (put_out items)) ≡ numbered k (put_out (x ∷ items))
  first_call k x [] = refl
  first_call k x (y ∷ items) = rw (lt-ltb k (suc k) (omega arith)) refl

  in_order : (k : ℕ) (items : List Item) → by_address (numbered k (put_out items)) ≡ numbered k (put_out items)
  in_order k [] = refl
  in_order k (x ∷ items) =
      ap (insert_call (record { to = Out; at = k ∷ []; item = Some x })) (in_order (suc k) items) ∙ first_call k x items

  items_of_calls : (k : ℕ) (items : List Item) → filter_map (λ (call : Call Item). call.item) (numbered k (put_out items)) ≡ items
  items_of_calls k [] = refl
  items_of_calls k (x ∷ items) = ap (λ (xs : List Item). x ∷ xs) (items_of_calls (suc k) items)

  module _ {State Op : Type 0} (behavior : Op → Behavior State Item) where
    abbrev without_nodes : Network State Item
    without_nodes = network_of behavior []

    pub out_as_in : (states : List State) (items : List Item) → outputs without_nodes states (inputs without_nodes items) ≡ items
    out_as_in states items =
        ap (λ (calls : List (Call Item)). filter_map (λ (call : Call Item). call.item) (by_address calls)) (all_go_out 0 items)
        ∙ ap (λ (calls : List (Call Item)). filter_map (λ (call : Call Item). call.item) calls) (in_order 0 items)
        ∙ items_of_calls 0 items
