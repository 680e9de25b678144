-- The closing order has nodes of the graph alone.
use Rattle.std.proofs.Common.{◌≡◌, inl, inr, ℕ, zero, suc, ◌+◌, ◌<◌, Bool, not, ◌&&◌, List, [], ◌∷◌, ◌++◌, refl, sym, subst, ◌∙◌, arith, length, get_or}
use Rattle.std.specs.Prelude.{Option, Some, None, find}
use Rattle.std.proofs.lemmas.Bool.{cases_Bool, cond-true, cond-false}
use Rattle.std.specs.Option.{option_map_or}
use Rattle.graph_core.specs.declared.NodeSpec.{NodeSpec}
use Rattle.graph_core.specs.Wiring.{Edges, Has, wiring_of, edges_of}
use Rattle.graph_core.specs.Closing.{numbers_from, is_listed, is_ready, next_ready, listed_on, closing_order}
use Rattle.graph_core.proofs.Members.{Has-append_cases}
use Rattle.graph_core.proofs.Delivering.{length_edges}

found_below : (p : ℕ → Bool) (k n v : ℕ) → find p (numbers_from k n) ≡ Some v → v < k + n
found_below p k zero v e = cc
found_below p k (suc n) v e =
    elim (cases_Bool (p k)) [
      | inl t ↦ (let f : Some k ≡ Some v = sym (cond-true (p k) (Some k) (find p (numbers_from (suc k) n)) t) ∙ e in let same : k ≡ v = cc in omega arith)
      | inr f ↦ (let g = found_below p (suc k) n v (sym (cond-false (p k) (Some k) (find p (numbers_from (suc k) n)) f) ∙ e) in omega arith)
    ]

module _ (edges : Edges) where
  listed_below : (steps : ℕ) (listed : List ℕ) → ((x : ℕ) → Has listed x → x < length edges) → (x : ℕ) → Has (listed_on edges steps listed) x → x < length edges
  listed_below zero listed below x h = below x h
  listed_below (suc steps) listed below x h = of_option (next_ready edges listed) refl (λ v. listed_below steps (listed ++ v ∷ [])) h
    where
      of_option : (o : Option ℕ) → next_ready edges listed ≡ o
          → ((v : ℕ) → ((y : ℕ) → Has (listed ++ v ∷ []) y → y < length edges) → (y : ℕ) → Has (listed_on edges steps (listed ++ v ∷ [])) y → y < length edges)
          → Has (option_map_or (λ v. listed_on edges steps (listed ++ v ∷ [])) o listed) x → x < length edges
      of_option None e rec k = below x k
      of_option (Some v) e rec k =
          rec v (λ y m. elim (Has-append_cases listed (v ∷ []) y m) [
            | inl a ↦ below y a
            | inr a ↦ elim a [
              | inl same ↦ (let l = found_below (λ node. not (is_listed listed node) && is_ready edges listed node) 0 (length edges) v e in omega arith)
              | inr n ↦ absurd n
            ]
          ]) x k

  pub order_below : (x : ℕ) → Has (closing_order edges) x → x < length edges
  order_below x h = listed_below (length edges) [] (λ y k. absurd k) x h

Has-get_or : (xs : List ℕ) (i : ℕ) → i < length xs → Has xs (get_or xs i 0)
Has-get_or [] i l = absurd (omega arith)
Has-get_or (x ∷ xs) zero l = inl refl
Has-get_or (x ∷ xs) (suc i) l = inr (Has-get_or xs i (omega arith))

pub node_below : {Op : Type 0} (nodes : List (NodeSpec Op)) (order : List ℕ) (i : ℕ) → order ≡ closing_order (edges_of (wiring_of nodes)) → i < length order
    → get_or order i 0 < length nodes
node_below nodes order i e l =
    rw (← length_edges nodes) (order_below (edges_of (wiring_of nodes)) (get_or order i 0) (subst (λ (o : List ℕ). Has o (get_or order i 0)) e (Has-get_or order i l)))
