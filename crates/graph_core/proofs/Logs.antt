-- All calls in the order in which they are made, and what holds of that log.
use Rattle.std.proofs.Common.{◌≡◌, ◌≢◌, ◌⊎◌, inl, inr, ℕ, zero, suc, Bool, true, false, cond, List, [], ◌∷◌, ◌++◌, refl, sym, ap, ◌∙◌, append_assoc}
use Rattle.std.specs.Prelude.{Option, Some, None, slice_get, slice_set, filter_map}
use Rattle.std.specs.Option.{option_map_or, option_map}
use Rattle.std.proofs.lemmas.Bool.{cases_Bool, eqb-true, eqb-false, eq-eqb}
use Rattle.graph_core.specs.declared.Target.{Target}
use Rattle.graph_core.specs.declared.Target.TheVariants.{Node, Out}
use Rattle.graph_core.specs.Wiring.{Has, ports_of, edges_of, targets_of, same_target}
use Rattle.graph_core.specs.Traces.{Network, Call, is_before, said, next_state, state_after, calls_to, calls_of_emissions, calls_of_trace, calls_from}
use Rattle.graph_core.specs.Inner.Walk.{stepped}
use Rattle.graph_core.proofs.Members.{Has-append_left, Has-append_right, Has-append_cases}
use Rattle.graph_core.proofs.Addresses.{Apart-before, Apart-extend_left, Apart-extend_right, before_under}
use Rattle.graph_core.specs.Runs.{IsAscending, IsRun}
use Rattle.graph_core.proofs.Emissions.{ports_targets, IsApartList, IsApartList-append, of_emissions, emissions_apart}

pub get_set_same : {X : Type 0} (xs : List X) (i : ℕ) (x y : X) → slice_get xs i ≡ Some x → slice_get (slice_set xs i y) i ≡ Some y
get_set_same [] i x y h = cc
get_set_same (z ∷ zs) zero x y h = refl
get_set_same (z ∷ zs) (suc i) x y h = get_set_same zs i x y h

pub get_set_other : {X : Type 0} (xs : List X) (i j : ℕ) (y : X) → j ≢ i → slice_get (slice_set xs i y) j ≡ slice_get xs j
get_set_other [] i j y ne = refl
get_set_other (z ∷ zs) zero zero y ne = absurd (ne refl)
get_set_other (z ∷ zs) zero (suc j) y ne = refl
get_set_other (z ∷ zs) (suc i) zero y ne = refl
get_set_other (z ∷ zs) (suc i) (suc j) y ne = get_set_other zs i j y (λ e. ne (ap suc e))

pub same_target-true : (v : ℕ) (to : Target) → same_target (Node v) to ≡ true → to ≡ Node v
same_target-true v (Node w) h = ap Node (sym (eqb-true v w h))
same_target-true v Out h = cc

pub same_target-Node : (v : ℕ) → same_target (Node v) (Node v) ≡ true
same_target-Node v = eq-eqb v v refl

pub same_target-itself : (t : Target) → same_target t t ≡ true
same_target-itself (Node v) = eq-eqb v v refl
same_target-itself Out = refl

pub same_target-is : (t to : Target) → same_target t to ≡ true → to ≡ t
same_target-is (Node v) to h = same_target-true v to h
same_target-is Out (Node w) h = cc
same_target-is Out Out h = refl

module _ {State Item : Type 0} (net : Network State Item) where
  abbrev pub after_request : List State → Target → Option Item → List State
  after_request s (Node v) x = stepped net s v x
  after_request s Out x = s

  abbrev pub made_by : List State → Target → List ℕ → Option Item → List (Call Item)
  made_by s (Node v) at x = option_map_or (λ q. calls_of_emissions (ports_of net.wiring v) at 0 (said (slice_get net.behaviors v) q x)) (slice_get s v) []
  made_by s Out at x = []

-- The work, call by call, the calls that a call makes in front of the rest: this is the log of all calls.
pub data Logged {State Item : Type 0} (net : Network State Item) : List State → List (Call Item) → List (Call Item) → Type 0 where
  ended : {s : List State} → Logged net s [] []
  next : {s : List State} {rest log : List (Call Item)} {c : Call Item}
      → Logged net (after_request net s c.to c.item) (made_by net s c.to c.at c.item ++ rest) log → Logged net s (c ∷ rest) (c ∷ log)

module _ {State Item : Type 0} (net : Network State Item) where
  abbrev pub log_states : List State → List (Call Item) → List State
  log_states s [] = s
  log_states s (c ∷ log) = log_states (after_request net s c.to c.item) log

  abbrev pub log_items : List (Call Item) → List Item
  log_items log = filter_map (λ c. c.item) (calls_to Out log)

  pub get_after_same : (s : List State) (v : ℕ) (x : Option Item) (q : State) → slice_get s v ≡ Some q
      → slice_get (stepped net s v x) v ≡ Some (next_state (slice_get net.behaviors v) q x)
  get_after_same s v x q e = rw e (get_set_same s v q (next_state (slice_get net.behaviors v) q x) e)

  stepped_other : (s : List State) (v w : ℕ) (x : Option Item) → v ≢ w → (o : Option State)
      → slice_get (option_map_or (λ q. slice_set s w (next_state (slice_get net.behaviors w) q x)) o s) v ≡ slice_get s v
  stepped_other s v w x ne None = refl
  stepped_other s v w x ne (Some q) = get_set_other s w v (next_state (slice_get net.behaviors w) q x) ne

  pub get_after_other : (s : List State) (v : ℕ) (to : Target) (x : Option Item) → same_target (Node v) to ≡ false
      → slice_get (after_request net s to x) v ≡ slice_get s v
  get_after_other s v (Node w) x f = stepped_other s v w x (eqb-false v w f) (slice_get s w)
  get_after_other s v Out x f = refl

  calls_from_same : (s t : List State) (v : ℕ) (calls : List (Call Item)) → slice_get s v ≡ slice_get t v → calls_from net s v calls ≡ calls_from net t v calls
  calls_from_same s t v calls e =
      ap (λ (o : Option State). option_map_or (λ q. calls_of_trace (slice_get net.behaviors v) (ports_of net.wiring v) q calls) o []) e

  pub calls_from_nil : (s : List State) (v : ℕ) → calls_from net s v [] ≡ []
  calls_from_nil s v = of_option (slice_get s v)
    where
      of_option : (o : Option State) → option_map_or (λ q. calls_of_trace (slice_get net.behaviors v) (ports_of net.wiring v) q []) o [] ≡ []
      of_option None = refl
      of_option (Some q) = refl

  calls_from_node : (s : List State) (v : ℕ) (c : Call Item) (calls : List (Call Item)) (o : Option State) → slice_get s v ≡ o
      → calls_from net s v (c ∷ calls) ≡ made_by net s (Node v) c.at c.item ++ calls_from net (stepped net s v c.item) v calls
  calls_from_node s v c calls None e = rw e (rw e refl)
  calls_from_node s v c calls (Some q) e = rw (get_after_same s v c.item q e) (rw e refl)

  -- the calls of one node over a log: those of the first call, where it is to the node, and then the rest's
  pub calls_from_log : (s : List State) (v : ℕ) (c : Call Item) (log : List (Call Item))
      → calls_from net s v (calls_to (Node v) (c ∷ log))
      ≡ cond (same_target (Node v) c.to) (made_by net s c.to c.at c.item) [] ++ calls_from net (after_request net s c.to c.item) v (calls_to (Node v) log)
  calls_from_log s v c log =
      elim (cases_Bool (same_target (Node v) c.to)) [
        | inl t ↦ rw (t, same_target-true v c.to t) (calls_from_node s v c (calls_to (Node v) log) (slice_get s v) refl)
        | inr f ↦ rw f (calls_from_same s (after_request net s c.to c.item) v (calls_to (Node v) log) (sym (get_after_other s v c.to c.item f)))
      ]

  pub begun : {s : List State} {w log : List (Call Item)} → Logged net s w log → (x : Call Item) → Has w x → Has log x
  begun ended x h = absurd h
  begun (next {s} {rest} {log} {c} r) x (inl e) = inl e
  begun (next {s} {rest} {log} {c} r) x (inr h) = inr (begun r x (Has-append_right (made_by net s c.to c.at c.item) rest x h))

  pub closed_under : {s : List State} {w log : List (Call Item)} → Logged net s w log → (v : ℕ) (x : Call Item)
      → Has (calls_from net s v (calls_to (Node v) log)) x → Has log x
  closed_under (ended {s}) v x h = (let k : Has {X = Call Item} [] x = rw (calls_from_nil s v) at h in absurd k)
  closed_under (next {s} {rest} {log} {c} r) v x h =
      elim (Has-append_cases (cond (same_target (Node v) c.to) (made_by net s c.to c.at c.item) []) (calls_from net (after_request net s c.to c.item) v (calls_to (Node v) log)) x (rw (calls_from_log s v c log) at h)) [
        | inl k ↦ inr (begun r x (Has-append_left (made_by net s c.to c.at c.item) rest x (of_cond (same_target (Node v) c.to) (made_by net s c.to c.at c.item) x k)))
        | inr k ↦ inr (closed_under r v x k)
      ]
    where
      of_cond : (b : Bool) (cs : List (Call Item)) (y : Call Item) → Has (cond b cs []) y → Has cs y
      of_cond true cs y k = k
      of_cond false cs y k = absurd k

  pub caused : {s : List State} {w log : List (Call Item)} → Logged net s w log → (x : Call Item) → Has log x
      → Has w x ⊎ ((v : ℕ) × Has (calls_from net s v (calls_to (Node v) log)) x)
  caused ended x h = absurd h
  caused (next {s} {rest} {log} {c} r) x (inl e) = inl (inl e)
  caused (next {s} {rest} {log} {c} r) x (inr h) =
      elim (caused r x h) [
        | inl k ↦ elim (Has-append_cases (made_by net s c.to c.at c.item) rest x k)
            [ inl m ↦ inr (from_made c.to refl m) | inr m ↦ inl (inr m) ]
        | inr p ↦ inr (p.0, rw (calls_from_log s p.0 c log) (Has-append_right (cond (same_target (Node p.0) c.to) (made_by net s c.to c.at c.item) []) (calls_from net (after_request net s c.to c.item) p.0 (calls_to (Node p.0) log)) x p.1))
      ]
    where
      from_made : (to : Target) → c.to ≡ to → Has (made_by net s c.to c.at c.item) x → (v : ℕ) × Has (calls_from net s v (calls_to (Node v) (c ∷ log))) x
      from_made (Node v) e m = (
        v,
        rw (calls_from_log s v c log)
            (Has-append_left (cond (same_target (Node v) c.to) (made_by net s c.to c.at c.item) []) (calls_from net (after_request net s c.to c.item) v (calls_to (Node v) log)) x
            (let t : same_target (Node v) c.to ≡ true = rw e (same_target-Node v) in rw t m)),
      )
      from_made Out e m = (let k : Has {X = Call Item} [] x = rw e at m in absurd k)

  made_call : (s : List State) (to : Target) (at : List ℕ) (x : Option Item) (d : Call Item) → Has (made_by net s to at x) d
      → (i : ℕ) × ((j : ℕ) × (d.at ≡ (at ++ i ∷ []) ++ j ∷ []))
  made_call s (Node v) at x d h = of_option (slice_get s v) h
    where
      of_option : (o : Option State) → Has (option_map_or (λ q. calls_of_emissions (ports_of net.wiring v) at 0 (said (slice_get net.behaviors v) q x)) o []) d
          → (i : ℕ) × ((j : ℕ) × (d.at ≡ (at ++ i ∷ []) ++ j ∷ []))
      of_option None k = absurd k
      of_option (Some q) k = let r = of_emissions (ports_of net.wiring v) at 0 (said (slice_get net.behaviors v) q x) d k in (r.place, (r.inner, r.is_at))
  made_call s Out at x d h = absurd h

  made_apart : (s : List State) (to : Target) (at : List ℕ) (x : Option Item) → IsApartList (made_by net s to at x)
  made_apart s (Node v) at x = of_option (slice_get s v)
    where
      of_option : (o : Option State) → IsApartList (option_map_or (λ q. calls_of_emissions (ports_of net.wiring v) at 0 (said (slice_get net.behaviors v) q x)) o [])
      of_option None = tt
      of_option (Some q) = emissions_apart (ports_of net.wiring v) at 0 (said (slice_get net.behaviors v) q x)
  made_apart s Out at x = tt

  nested : (a : List ℕ) (i j : ℕ) (r : List ℕ) → ((a ++ i ∷ []) ++ j ∷ []) ++ r ≡ a ++ (i ∷ (j ∷ r))
  nested a i j r = simp append_assoc

  -- each call of the log stands under a call of the work
  under : {s : List State} {w log : List (Call Item)} → Logged net s w log → (x : Call Item) → Has log x
      → (d : Call Item) × (Has w d × ((r : List ℕ) × (x.at ≡ d.at ++ r)))
  under ended x h = absurd h
  under (next {s} {rest} {log} {c} r) x (inl e) = (c, (inl refl, ([], ap (λ (d : Call Item). d.at) e ∙ sym (append_nil c.at))))
    where
      append_nil : (a : List ℕ) → a ++ [] ≡ a
      append_nil [] = refl
      append_nil (y ∷ a) = ap (λ (z : List ℕ). y ∷ z) (append_nil a)
  under (next {s} {rest} {log} {c} r) x (inr h) =
      let p = under r x h in
      elim (Has-append_cases (made_by net s c.to c.at c.item) rest p.0 p.1.0) [
        | inl k ↦ (let m = made_call s c.to c.at c.item p.0 k in (c, (inl refl, (m.0 ∷ (m.1.0 ∷ p.1.1.0), p.1.1.1 ∙ (ap (λ (a : List ℕ). a ++ p.1.1.0) m.1.1 ∙ nested c.at m.0 m.1.0 p.1.1.0)))))
        | inr k ↦ (p.0, (inr k, p.1.1))
      ]

  pub ascending : {s : List State} {w log : List (Call Item)} → Logged net s w log → IsApartList w → IsAscending log
  ascending ended a = tt
  ascending (next {s} {rest} {log} {c} r) a = (
    (λ x h. head_before x (under r x h)),
    ascending r (IsApartList-append (made_by net s c.to c.at c.item) rest (made_apart s c.to c.at c.item) a.1
        (λ d e h k. let m = made_call s c.to c.at c.item d h in
        rw (m.1.1, append_assoc c.at (m.0 ∷ []) (m.1.0 ∷ [])) (Apart-extend_left c.at e.at (m.0 ∷ (m.1.0 ∷ [])) (a.0 e k)))),
  )
    where
      head_before : (x : Call Item) → (d : Call Item) × (Has (made_by net s c.to c.at c.item ++ rest) d × ((q : List ℕ) × (x.at ≡ d.at ++ q))) → is_before c.at x.at ≡ true
      head_before x p =
          elim (Has-append_cases (made_by net s c.to c.at c.item) rest p.0 p.1.0) [
            | inl k ↦ (let m = made_call s c.to c.at c.item p.0 k in
                rw (p.1.1.1 ∙ (ap (λ (b : List ℕ). b ++ p.1.1.0) m.1.1 ∙ nested c.at m.0 m.1.0 p.1.1.0)) (before_under c.at (m.1.0 ∷ p.1.1.0) m.0))
            | inr k ↦ rw p.1.1.1 (Apart-before c.at (p.0.at ++ p.1.1.0) (Apart-extend_right c.at p.0.at p.1.1.0 (a.0 p.0 k)))
          ]

  -- a node's state after the log is the fold over its calls
  pub get_log_states : (s : List State) (log : List (Call Item)) (v : ℕ)
      → slice_get (log_states s log) v ≡ option_map (λ q. state_after (slice_get net.behaviors v) q (calls_to (Node v) log)) (slice_get s v)
  get_log_states s [] v = of_option (slice_get s v)
    where
      of_option : (o : Option State) → o ≡ option_map (λ q. state_after (slice_get net.behaviors v) q []) o
      of_option None = refl
      of_option (Some q) = refl
  get_log_states s (c ∷ log) v =
      get_log_states (after_request net s c.to c.item) log v
      ∙ elim (cases_Bool (same_target (Node v) c.to)) [
        | inl t ↦ rw (t, same_target-true v c.to t) (of_node (slice_get s v) refl)
        | inr f ↦ rw (f, get_after_other s v c.to c.item f) refl
      ]
    where
      of_node : (o : Option State) → slice_get s v ≡ o
          → option_map (λ q. state_after (slice_get net.behaviors v) q (calls_to (Node v) log)) (slice_get (stepped net s v c.item) v)
          ≡ option_map (λ q. state_after (slice_get net.behaviors v) q (c ∷ calls_to (Node v) log)) (slice_get s v)
      of_node None e = rw e (rw e refl)
      of_node (Some q) e = rw (get_after_same s v c.item q e) (rw e refl)

  -- a call that node v makes goes to one of its targets
  pub made_target : (s : List State) (v : ℕ) (calls : List (Call Item)) (x : Call Item) → Has (calls_from net s v calls) x → Has (targets_of (edges_of net.wiring) v) x.to
  made_target s v calls x h = of_option (slice_get s v) h
    where
      of_trace : (q : State) (cs : List (Call Item)) → Has (calls_of_trace (slice_get net.behaviors v) (ports_of net.wiring v) q cs) x → Has (targets_of (edges_of net.wiring) v) x.to
      of_trace q [] k = absurd k
      of_trace q (c ∷ cs) k =
          elim (Has-append_cases (calls_of_emissions (ports_of net.wiring v) c.at 0 (said (slice_get net.behaviors v) q c.item)) (calls_of_trace (slice_get net.behaviors v) (ports_of net.wiring v) (next_state (slice_get net.behaviors v) q c.item) cs) x k) [
            | inl m ↦ rw (← ports_targets net.wiring v) ((of_emissions (ports_of net.wiring v) c.at 0 (said (slice_get net.behaviors v) q c.item) x m).to)
            | inr m ↦ of_trace (next_state (slice_get net.behaviors v) q c.item) cs m
          ]

      of_option : (o : Option State) → Has (option_map_or (λ q. calls_of_trace (slice_get net.behaviors v) (ports_of net.wiring v) q calls) o []) x → Has (targets_of (edges_of net.wiring) v) x.to
      of_option None k = absurd k
      of_option (Some q) k = of_trace q calls k

  pub log_is_run : {s : List State} {w log : List (Call Item)} → Logged net s w log → IsApartList w → IsRun net s w log
  log_is_run {s} {w} {log} r a = record { ordered = ascending r a; rooted = begun r; emitted = closed_under r; caused = caused r }
