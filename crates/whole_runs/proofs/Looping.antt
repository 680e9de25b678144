-- One round of each loop.
use Rattle.std.proofs.Common.{◌≡◌, ℕ, ◌+◌, List, [], ◌∷◌, ◌++◌, sym, ap, ◌∙◌, get_or, append_assoc}
use Rattle.std.specs.Prelude.{Option}
use Rattle.std.proofs.lemmas.List.{append-nil}
use Rattle.graph_core.specs.Behavior.{Behavior}
use Rattle.graph_core.specs.declared.Target.{Target}
use Rattle.graph_core.specs.Traces.{Call, by_address, said, next_state, state_after, calls_of_targets, calls_of_emissions, calls_of_trace}
use Rattle.whole_runs.proofs.Adding.{emissions_next}

module _ {Item : Type 0} where
  -- the first call of two lists is taken
  pub whole_more : (all more front back front_left back_left total : List (Call Item)) (call : Call Item) → more ≡ all ++ call ∷ []
      → by_address (front ++ back) ≡ call ∷ by_address (front_left ++ back_left) → all ++ by_address (front ++ back) ≡ total
      → more ++ by_address (front_left ++ back_left) ≡ total
  whole_more all more front back front_left back_left total call e first whole =
      ap (λ (l : List (Call Item)). l ++ by_address (front_left ++ back_left)) e
      ∙ (append_assoc all (call ∷ []) (by_address (front_left ++ back_left)) ∙ (ap (λ (l : List (Call Item)). all ++ l) (sym first) ∙ whole))

  pub whole_done : (all left total : List (Call Item)) → all ++ by_address left ≡ total → left ≡ [] → all ≡ total
  whole_done all left total whole e =
      sym (append-nil all) ∙ (ap (λ (l : List (Call Item)). all ++ by_address l) (sym e) ∙ whole)

  -- an emission is handed on
  pub emissions_more : (ports : List (List Target)) (at address : List ℕ) (i : ℕ) (emission : ℕ × Item) (left rest : List (ℕ × Item)) (calls more total : List (Call Item))
      → left ≡ emission ∷ rest → address ≡ at ++ i ∷ [] → more ≡ calls ++ calls_of_targets (get_or ports emission.0 []) address 0 emission.1
      → calls ++ calls_of_emissions ports at i left ≡ total → more ++ calls_of_emissions ports at (i + 1) rest ≡ total
  emissions_more ports at address i emission left rest calls more total e a m whole =
      ap (λ (l : List (Call Item)). l ++ calls_of_emissions ports at (i + 1) rest)
      (m ∙ ap (λ (l : List ℕ). calls ++ calls_of_targets (get_or ports emission.0 []) l 0 emission.1) a)
      ∙ (append_assoc calls (calls_of_targets (get_or ports emission.0 []) (at ++ i ∷ []) 0 emission.1) (calls_of_emissions ports at (i + 1) rest)
      ∙ (ap (λ (l : List (Call Item)). calls ++ l) (sym (emissions_next ports at i emission rest))
      ∙ (ap (λ (l : List (ℕ × Item)). calls ++ calls_of_emissions ports at i l) (sym e) ∙ whole)))

  pub emissions_done : (ports : List (List Target)) (at : List ℕ) (i : ℕ) (left : List (ℕ × Item)) (calls total : List (Call Item))
      → left ≡ [] → calls ++ calls_of_emissions ports at i left ≡ total → calls ≡ total
  emissions_done ports at i left calls total e whole =
      sym (append-nil calls) ∙ (ap (λ (l : List (ℕ × Item)). calls ++ calls_of_emissions ports at i l) (sym e) ∙ whole)

module _ {State Item : Type 0} (behavior : Option (Behavior State Item)) (ports : List (List Target)) where
  -- a node takes a call
  pub state_more : (state next total : State) (item : Option Item) (call : Call Item) (served rest : List (Call Item)) → served ≡ call ∷ rest → item ≡ call.item
      → next ≡ next_state behavior state item → state_after behavior state served ≡ total → state_after behavior next rest ≡ total
  state_more state next total item call served rest e i n whole =
      ap (λ (s : State). state_after behavior s rest) (n ∙ ap (next_state behavior state) i) ∙ (ap (state_after behavior state) (sym e) ∙ whole)

  pub calls_more : (state next : State) (item : Option Item) (call : Call Item) (at : List ℕ) (emitted : List (ℕ × Item)) (served rest calls more total : List (Call Item))
      → served ≡ call ∷ rest → at ≡ call.at → item ≡ call.item → next ≡ next_state behavior state item → emitted ≡ said behavior state item
      → more ≡ calls ++ calls_of_emissions ports at 0 emitted → calls ++ calls_of_trace behavior ports state served ≡ total
      → more ++ calls_of_trace behavior ports next rest ≡ total
  calls_more state next item call at emitted served rest calls more total e a i n s m whole =
      ap (λ (l : List (Call Item)). l ++ calls_of_trace behavior ports next rest)
      (m ∙ (ap (λ (l : List ℕ). calls ++ calls_of_emissions ports l 0 emitted) a
      ∙ ap (λ (l : List (ℕ × Item)). calls ++ calls_of_emissions ports call.at 0 l) (s ∙ ap (said behavior state) i)))
      ∙ (append_assoc calls (calls_of_emissions ports call.at 0 (said behavior state call.item)) (calls_of_trace behavior ports next rest)
      ∙ (ap (λ (q : State). calls ++ (calls_of_emissions ports call.at 0 (said behavior state call.item) ++ calls_of_trace behavior ports q rest)) (n ∙ ap (next_state behavior state) i)
      ∙ (ap (λ (l : List (Call Item)). calls ++ calls_of_trace behavior ports state l) (sym e) ∙ whole)))

  pub state_done : (state total : State) (served : List (Call Item)) → served ≡ [] → state_after behavior state served ≡ total → state ≡ total
  state_done state total served e whole = ap (state_after behavior state) (sym e) ∙ whole

  pub calls_done : (state : State) (served calls total : List (Call Item)) → served ≡ [] → calls ++ calls_of_trace behavior ports state served ≡ total → calls ≡ total
  calls_done state served calls total e whole =
      sym (append-nil calls) ∙ (ap (λ (l : List (Call Item)). calls ++ calls_of_trace behavior ports state l) (sym e) ∙ whole)
