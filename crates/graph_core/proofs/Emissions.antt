-- The addresses and targets of the calls that emissions make.
use Rattle.std.proofs.Common.{◌≡◌, inl, inr, ℕ, zero, suc, ◌≤◌, List, [], ◌∷◌, ◌++◌, refl, ap, arith, get_or}
use Rattle.std.specs.List.{flat_map}
use Rattle.graph_core.specs.declared.Target.{Target}
use Rattle.graph_core.specs.Wiring.{Wiring, Has, ports_of, edges_of, targets_of}
use Rattle.graph_core.specs.Traces.{Call, calls_of_targets, calls_of_emissions}
use Rattle.graph_core.proofs.Members.{Has-append_left, Has-append_right, Has-append_cases}
use Rattle.graph_core.proofs.Addresses.{Apart, Apart-extend, Apart-under}

pub ports_targets : (wiring : Wiring) (v : ℕ) → flat_map (λ port. port) (ports_of wiring v) ≡ targets_of (edges_of wiring) v
ports_targets [] v = refl
ports_targets (ports ∷ rest) zero = refl
ports_targets (ports ∷ rest) (suc v) = ports_targets rest v

pub Has-flat : (ports : List (List Target)) (p : ℕ) (t : Target) → Has (get_or ports p []) t → Has (flat_map (λ port. port) ports) t
Has-flat [] p t h = absurd h
Has-flat (port ∷ ports) zero t h = Has-append_left port (flat_map (λ q. q) ports) t h
Has-flat (port ∷ ports) (suc p) t h = Has-append_right port (flat_map (λ q. q) ports) t (Has-flat ports p t h)

module _ {Item : Type 0} where
  abbrev pub IsApartList : List (Call Item) → Type 0
  IsApartList [] = Unit {0}
  IsApartList (c ∷ cs) = ((d : Call Item) → Has cs d → Apart c.at d.at) × IsApartList cs

  pub IsApartList-append : (xs ys : List (Call Item)) → IsApartList xs → IsApartList ys
      → ((c d : Call Item) → Has xs c → Has ys d → Apart c.at d.at) → IsApartList (xs ++ ys)
  IsApartList-append [] ys a b f = b
  IsApartList-append (x ∷ xs) ys a b f = (
    (λ d h. elim (Has-append_cases xs ys d h) [ inl k ↦ a.0 d k | inr k ↦ f x d (inl refl) k ]),
    IsApartList-append xs ys a.1 b (λ c d h k. f c d (inr h) k),
  )

  pub record TargetCall (targets : List Target) (at : List ℕ) (j : ℕ) (d : Call Item) : Type 0 where
    pub place : ℕ
    pub from : j ≤ place
    pub is_at : d.at ≡ at ++ place ∷ []
    pub to : Has targets d.to

  pub of_targets : (targets : List Target) (at : List ℕ) (j : ℕ) (x : Item) (d : Call Item) → Has (calls_of_targets targets at j x) d → TargetCall targets at j d
  of_targets [] at j x d h = absurd h
  of_targets (t ∷ ts) at j x d (inl e) =
      record { place = j; from = omega arith; is_at = ap (λ (c : Call Item). c.at) e; to = inl (ap (λ (c : Call Item). c.to) e) }
  of_targets (t ∷ ts) at j x d (inr h) =
      let r = of_targets ts at (suc j) x d h in
      record { place = r.place; from = (let l = r.from in omega arith); is_at = r.is_at; to = inr r.to }

  pub targets_apart : (targets : List Target) (at : List ℕ) (j : ℕ) (x : Item) → IsApartList (calls_of_targets targets at j x)
  targets_apart [] at j x = tt
  targets_apart (t ∷ ts) at j x = (
    (λ d h. let r = of_targets ts at (suc j) x d h in rw r.is_at (Apart-under at (j ∷ []) (r.place ∷ []) (inl (let l = r.from in omega arith)))),
    targets_apart ts at (suc j) x,
  )

  pub record EmissionCall (ports : List (List Target)) (at : List ℕ) (i : ℕ) (d : Call Item) : Type 0 where
    pub place : ℕ
    pub inner : ℕ
    pub from : i ≤ place
    pub is_at : d.at ≡ (at ++ place ∷ []) ++ inner ∷ []
    pub to : Has (flat_map (λ port. port) ports) d.to

  pub of_emissions : (ports : List (List Target)) (at : List ℕ) (i : ℕ) (es : List (ℕ × Item)) (d : Call Item) → Has (calls_of_emissions ports at i es) d → EmissionCall ports at i d
  of_emissions ports at i [] d h = absurd h
  of_emissions ports at i (e ∷ es) d h =
      elim (Has-append_cases (calls_of_targets (get_or ports e.0 []) (at ++ i ∷ []) 0 e.1) (calls_of_emissions ports at (suc i) es) d h) [
        | inl k ↦ (let r = of_targets (get_or ports e.0 []) (at ++ i ∷ []) 0 e.1 d k in
            record { place = i; inner = r.place; from = omega arith; is_at = r.is_at; to = Has-flat ports e.0 d.to r.to })
        | inr k ↦ (let r = of_emissions ports at (suc i) es d k in
            record { place = r.place; inner = r.inner; from = (let l = r.from in omega arith); is_at = r.is_at; to = r.to })
      ]

  pub emissions_apart : (ports : List (List Target)) (at : List ℕ) (i : ℕ) (es : List (ℕ × Item)) → IsApartList (calls_of_emissions ports at i es)
  emissions_apart ports at i [] = tt
  emissions_apart ports at i (e ∷ es) =
      IsApartList-append (calls_of_targets (get_or ports e.0 []) (at ++ i ∷ []) 0 e.1) (calls_of_emissions ports at (suc i) es)
      (targets_apart (get_or ports e.0 []) (at ++ i ∷ []) 0 e.1)
      (emissions_apart ports at (suc i) es)
      (λ c d h k.
      let r = of_targets (get_or ports e.0 []) (at ++ i ∷ []) 0 e.1 c h in
      let q = of_emissions ports at (suc i) es d k in
      rw (r.is_at, q.is_at) (Apart-extend (at ++ i ∷ []) (at ++ q.place ∷ []) (r.place ∷ []) (q.inner ∷ []) (Apart-under at (i ∷ []) (q.place ∷ []) (inl (let l = q.from in omega arith)))))
