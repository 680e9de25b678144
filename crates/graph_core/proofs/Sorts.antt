-- What steps keep of their states.
use Rattle.std.proofs.Common.{◌≡◌, ℕ, suc, ◌+◌, List, [], ◌∷◌, Bool, Option, None, Some, map, refl, ap, ◌∙◌, arith}
use Rattle.std.specs.Prelude.{slice_get}
use Rattle.graph_core.specs.Behavior.{Behavior, KeepsSort}
use Rattle.graph_core.specs.Traces.{Network, Call, trace, next_state, state_after, states_along}
use Rattle.graph_core.specs.declared.Target.TheVariants.{Node}

module _ {State Item : Type 0} (sort : State → Bool) where
  one_call : (behavior : Option (Behavior State Item)) (wanted : Bool) → ((b : Behavior State Item) → behavior ≡ Some b → KeepsSort sort wanted b)
      → (state : State) (item : Option Item) → sort state ≡ wanted → sort (next_state behavior state item) ≡ wanted
  one_call None wanted keeps state item is = is
  one_call (Some b) wanted keeps state None is = (keeps b refl).first
  one_call (Some b) wanted keeps state (Some item) is = (keeps b refl).after state item is

  all_calls : (behavior : Option (Behavior State Item)) (wanted : Bool) → ((b : Behavior State Item) → behavior ≡ Some b → KeepsSort sort wanted b)
      → (state : State) (calls : List (Call Item)) → sort state ≡ wanted → sort (state_after behavior state calls) ≡ wanted
  all_calls behavior wanted keeps state [] is = is
  all_calls behavior wanted keeps state (call ∷ calls) is =
      all_calls behavior wanted keeps (next_state behavior state call.item) calls (one_call behavior wanted keeps state call.item is)

  pub along : (network : Network State Item) (calls : List (Call Item)) (v : ℕ) (states : List State) (sorts : List Bool)
      → ((k : ℕ) (wanted : Bool) (b : Behavior State Item) → slice_get sorts k ≡ Some wanted → slice_get network.behaviors (v + k) ≡ Some b → KeepsSort sort wanted b)
      → map sort states ≡ sorts → map sort (states_along network calls v states) ≡ sorts
  along network calls v [] sorts keeps is = is
  along network calls v (state ∷ states) [] keeps is = cc is
  along network calls v (state ∷ states) (wanted ∷ sorts) keeps is =
      let first : sort state ≡ wanted = cc is in
      let rest : map sort states ≡ sorts = cc is in
      let here : v + 0 ≡ v = omega arith in
      let head : sort (state_after (slice_get network.behaviors v) state (trace (Node v) calls)) ≡ wanted =
      all_calls (slice_get network.behaviors v) wanted (λ b at. keeps 0 wanted b refl (ap (slice_get network.behaviors) here ∙ at)) state (trace (Node v) calls) first in
      let tail : map sort (states_along network calls (suc v) states) ≡ sorts =
      along network calls (suc v) states sorts (λ k w b sort_at at. let next : v + suc k ≡ suc v + k = omega arith in keeps (suc k) w b sort_at (ap (slice_get network.behaviors) next ∙ at)) rest in
      cc (head, tail)
