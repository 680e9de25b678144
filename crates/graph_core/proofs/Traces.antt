-- The trace theorem: what serving requests depth first leaves and puts out is what the traces say.
use Rattle.std.proofs.Common.{◌≡◌, ◌⊎◌, inl, inr, ℕ, zero, suc, ◌+◌, ◌<◌, ◌≤◌, Bool, List, [], ◌∷◌, ◌++◌, refl, sym, subst, ap, ◌∙◌, arith, map, append_assoc, length, get_or, zero-add}
use Rattle.std.specs.Prelude.{Option, Some, None, slice_get, filter, filter_map}
use Rattle.std.specs.Option.{option_map_or, option_map, option_to_list}
use Rattle.std.proofs.lemmas.Bool.{cond_both, cases_eq}
use Rattle.std.proofs.lemmas.List.{map-append}
use Rattle.graph_core.specs.declared.Target.{Target}
use Rattle.graph_core.specs.declared.Target.TheVariants.{Node, Out}
use Rattle.graph_core.specs.Wiring.{Edges, Has, ports_of, edges_of, targets_of, same_target}
use Rattle.graph_core.specs.Closing.{closing_order, CallersFirst}
use Rattle.graph_core.specs.Traces.{Network, Call, said, state_after, trace, calls_to, calls_of_targets, calls_of_emissions, calls_from, calls_through, calls_for, numbered, states_along, states_after, Served}
use Rattle.graph_core.specs.Inner.Walk.{deliveries, owed, stepped, sent, Walk, done, put_out, called}
use Rattle.graph_core.specs.Runs.{IsAscending, IsRun}
use Rattle.graph_core.proofs.Members.{Has-append_left, Has-append_right, Has-append_cases, Has-filter, Has-from_filter, Has-same}
use Rattle.graph_core.proofs.Emissions.{IsApartList}
use Rattle.graph_core.proofs.Sorting.{by_address_is}
use Rattle.graph_core.proofs.Logs.{Logged, ended, next, made_by, log_states, log_items, get_log_states, made_target, log_is_run, same_target-is}

pub ext_slice_get : {X : Type 0} (xs ys : List X) → ((i : ℕ) → slice_get xs i ≡ slice_get ys i) → xs ≡ ys
ext_slice_get [] [] f = refl
ext_slice_get [] (y ∷ ys) f = let e : None ≡ Some y = f 0 in cc
ext_slice_get (x ∷ xs) [] f = let e : Some x ≡ None = f 0 in cc
ext_slice_get (x ∷ xs) (y ∷ ys) f =
    let e : Some x ≡ Some y = f 0 in
    let t : xs ≡ ys = ext_slice_get xs ys (λ i. f (suc i)) in
    cc

pub targets_within : (edges : Edges) (v : ℕ) (t : Target) → Has (targets_of edges v) t → v < length edges
targets_within [] v t h = absurd h
targets_within (targets ∷ rest) zero t h = omega arith
targets_within (targets ∷ rest) (suc v) t h = let l = targets_within rest v t h in omega arith

module _ {Item : Type 0} where
  -- a call without its address
  abbrev pub request_of : Call Item → Target × Option Item
  request_of c = (c.to, c.item)

  requests_of_targets : (targets : List Target) (at : List ℕ) (j : ℕ) (x : Item)
      → map request_of (calls_of_targets targets at j x) ≡ owed (map (λ to. (to, x)) targets)
  requests_of_targets [] at j x = refl
  requests_of_targets (t ∷ ts) at j x = ap (λ (l : List (Target × Option Item)). (t, Some x) ∷ l) (requests_of_targets ts at (suc j) x)

  pub requests_of_emissions : (ports : List (List Target)) (at : List ℕ) (i : ℕ) (es : List (ℕ × Item))
      → map request_of (calls_of_emissions ports at i es) ≡ owed (deliveries ports es)
  requests_of_emissions ports at i [] = refl
  requests_of_emissions ports at i (e ∷ es) =
      map-append request_of (calls_of_targets (get_or ports e.0 []) (at ++ i ∷ []) 0 e.1) (calls_of_emissions ports at (suc i) es)
      ∙ (rw (requests_of_targets (get_or ports e.0 []) (at ++ i ∷ []) 0 e.1, requests_of_emissions ports at (suc i) es)
      (sym (map-append (λ (d : Target × Item). (d.0, Some d.1)) (map (λ to. (to, e.1)) (get_or ports e.0 [])) (deliveries ports es))))

  pub requests_of_numbered : (k : ℕ) (requests : List (Target × Option Item)) → map request_of (numbered k requests) ≡ requests
  requests_of_numbered k [] = refl
  requests_of_numbered k (r ∷ rs) = ap (λ (l : List (Target × Option Item)). r ∷ l) (requests_of_numbered (suc k) rs)

  of_numbered : (k : ℕ) (requests : List (Target × Option Item)) (d : Call Item) → Has (numbered k requests) d → (i : ℕ) × ((k ≤ i) × (d.at ≡ i ∷ []))
  of_numbered k [] d h = absurd h
  of_numbered k (r ∷ rs) d (inl e) = (k, (omega arith, ap (λ (c : Call Item). c.at) e))
  of_numbered k (r ∷ rs) d (inr h) = let p = of_numbered (suc k) rs d h in (p.0, ((let l = p.1.0 in omega arith), p.1.1))

  pub numbered_apart : (k : ℕ) (requests : List (Target × Option Item)) → IsApartList (numbered k requests)
  numbered_apart k [] = tt
  numbered_apart k (r ∷ rs) =
      ((λ d h. let p = of_numbered (suc k) rs d h in rw p.1.1 (inl (let l = p.1.0 in omega arith))), numbered_apart (suc k) rs)

  pub ascending_filter : (p : Call Item → Bool) (cs : List (Call Item)) → IsAscending cs → IsAscending (filter p cs)
  ascending_filter p [] a = tt
  ascending_filter p (c ∷ cs) a =
      cond_both (p c) (c ∷ filter p cs) (filter p cs) (λ l. IsAscending l)
      (λ _. ((λ d h. a.0 d (Has-from_filter p cs d h).0), ascending_filter p cs a.1))
      (λ _. ascending_filter p cs a.1)

module _ {State Item : Type 0} (net : Network State Item) where
  made_requests : (s : List State) (v : ℕ) (at : List ℕ) (x : Option Item) → map request_of (made_by net s (Node v) at x) ≡ sent net s v x
  made_requests s v at x = of_option (slice_get s v)
    where
      of_option : (o : Option State)
          → map request_of (option_map_or (λ q. calls_of_emissions (ports_of net.wiring v) at 0 (said (slice_get net.behaviors v) q x)) o [])
          ≡ option_map_or (λ q. owed (deliveries (ports_of net.wiring v) (said (slice_get net.behaviors v) q x))) o []
      of_option None = refl
      of_option (Some q) = requests_of_emissions (ports_of net.wiring v) at 0 (said (slice_get net.behaviors v) q x)

  pub record IsLogOf (s : List State) (o : List Item) (w : List (Call Item)) (t : List State) (p : List Item) : Type 0 where
    pub log : List (Call Item)
    pub logged : Logged net s w log
    pub states : t ≡ log_states net s log
    pub items : p ≡ o ++ log_items net log

  append_nil : {X : Type 0} (a : List X) → a ++ [] ≡ a
  append_nil [] = refl
  append_nil (y ∷ a) = ap (λ z. y ∷ z) (append_nil a)

  first_item : (c : Call Item) (x : Option Item) (log : List (Call Item)) → c.to ≡ Out → c.item ≡ x → option_to_list x ++ log_items net log ≡ log_items net (c ∷ log)
  first_item c None log to_is item_is = rw (to_is, item_is) refl
  first_item c (Some y) log to_is item_is = rw (to_is, item_is) refl

  log_out : (s t : List State) (o p : List Item) (c : Call Item) (x : Option Item) (w : List (Call Item)) → c.to ≡ Out → c.item ≡ x
      → IsLogOf s (o ++ option_to_list x) w t p → IsLogOf s o (c ∷ w) t p
  log_out s t o p c x w to_is item_is r =
      record {
        log = c ∷ r.log;
        logged = next (rw to_is r.logged);
        states = rw to_is r.states;
        items = r.items ∙ (append_assoc o (option_to_list x) (log_items net r.log) ∙ ap (λ (l : List Item). o ++ l) (first_item c x r.log to_is item_is));
      }

  log_call : (s t : List State) (o p : List Item) (c : Call Item) (v : ℕ) (x : Option Item) (w : List (Call Item)) → c.to ≡ Node v → c.item ≡ x
      → IsLogOf (stepped net s v x) o (made_by net s (Node v) c.at x ++ w) t p → IsLogOf s o (c ∷ w) t p
  log_call s t o p c v x w to_is item_is r =
      record {
        log = c ∷ r.log;
        logged = next (rw (to_is, item_is) r.logged);
        states = rw (to_is, item_is) r.states;
        items = rw to_is r.items;
      }

  -- requests at any addresses: the walk has a log
  pub walk_log : {s t : List State} {o p : List Item} {ds : List (Target × Option Item)} → Walk net s o ds t p
      → (w : List (Call Item)) → map request_of w ≡ ds → IsLogOf s o w t p
  walk_log (done {s} {o}) [] e = record { log = []; logged = ended; states = refl; items = sym (append_nil o) }
  walk_log (done {s} {o}) (c ∷ w) e = cc
  walk_log (put_out {s} {t} {o} {p} {x} {rest} walk) [] e = cc
  walk_log (put_out {s} {t} {o} {p} {x} {rest} walk) (c ∷ w) e =
      let both : ◌≡◌ {A = Target × Option Item} (c.to, c.item) (Out, x) = cc in
      let rest_is : map request_of w ≡ rest = cc in
      log_out s t o p c x w (ap (λ (z : Target × Option Item). z.0) both) (ap (λ (z : Target × Option Item). z.1) both) (walk_log walk w rest_is)
  walk_log (called {s} {t} {o} {p} {v} {x} {rest} walk) [] e = cc
  walk_log (called {s} {t} {o} {p} {v} {x} {rest} walk) (c ∷ w) e =
      let both : ◌≡◌ {A = Target × Option Item} (c.to, c.item) (Node v, x) = cc in
      let rest_is : map request_of w ≡ rest = cc in
      log_call s t o p c v x w (ap (λ (z : Target × Option Item). z.0) both) (ap (λ (z : Target × Option Item). z.1) both)
      (walk_log walk (made_by net s (Node v) c.at x ++ w)
      (map-append request_of (made_by net s (Node v) c.at x) w ∙ rw (made_requests s v c.at x, rest_is) refl))

  pub trace_is : (log : List (Call Item)) → IsAscending log → (calls : List (Call Item)) (t : Target)
      → ((c : Call Item) → Has calls c → Has log c) → ((c : Call Item) → Has log c → c.to ≡ t → Has calls c) → trace t calls ≡ calls_to t log
  trace_is log a calls t f g =
      by_address_is (calls_to t calls) (calls_to t log) (ascending_filter (λ c. same_target t c.to) log a)
      (λ c h. let p = Has-from_filter (λ d. same_target t d.to) calls c h in Has-filter (λ d. same_target t d.to) log c (f c p.0) p.1)
      (λ c h. let p = Has-from_filter (λ d. same_target t d.to) log c h in Has-filter (λ d. same_target t d.to) calls c (g c p.0 (same_target-is t c.to p.1)) p.1)

  pub record SameCalls (calls log : List (Call Item)) : Type 0 where
    pub only : (c : Call Item) → Has calls c → Has log c
    pub all : (c : Call Item) → Has log c → Has calls c

  module _ (s : List State) (roots log : List (Call Item)) (run : IsRun net s roots log) where
    -- a call that none of the listed nodes makes
    abbrev pub MadeLater : List ℕ → Call Item → Type 0
    MadeLater listed c = (u : ℕ) × ((Has listed u → ⊥) × Has (calls_from net s u (calls_to (Node u) log)) c)

    pub through : (rest listed : List ℕ) (calls : List (Call Item)) → CallersFirst (edges_of net.wiring) listed rest
        → ((c : Call Item) → Has calls c → Has log c) → ((c : Call Item) → Has log c → Has calls c ⊎ MadeLater listed c)
        → SameCalls (calls_through net s rest calls) log
    through [] listed calls first only all =
        record {
          only = only;
          all = λ c h. elim (all c h) [
            | inl k ↦ k
            | inr p ↦ absurd (p.1.0 (first p.0 (targets_within (edges_of net.wiring) p.0 c.to (made_target net s p.0 (calls_to (Node p.0) log) c p.1.1))))
          ];
        }
    through (v ∷ rest) listed calls first only all =
        let e : trace (Node v) calls ≡ calls_to (Node v) log =
        trace_is log run.ordered calls (Node v) only
        (λ c h to_is. elim (all c h) [
          | inl k ↦ k
          | inr p ↦ absurd (p.1.0 (first.0 p.0 (Has-same (targets_of (edges_of net.wiring) p.0) c.to (Node v) to_is (made_target net s p.0 (calls_to (Node p.0) log) c p.1.1))))
        ]) in
        rw e (through rest (v ∷ listed) (calls ++ calls_from net s v (calls_to (Node v) log)) first.2
        (λ c h. elim (Has-append_cases calls (calls_from net s v (calls_to (Node v) log)) c h) [ inl k ↦ only c k | inr k ↦ run.emitted v c k ])
        (λ c h. elim (all c h) [
          | inl k ↦ inl (Has-append_left calls (calls_from net s v (calls_to (Node v) log)) c k)
          | inr p ↦ (elim (cases_eq p.0 v) [
            | inl same ↦ inl (Has-append_right calls (calls_from net s v (calls_to (Node v) log)) c
                (subst (λ (u : ℕ). Has (calls_from net s u (calls_to (Node u) log)) c) same p.1.1))
            | inr other ↦ inr (p.0, ((λ m. elim m [ inl same ↦ other same | inr k ↦ p.1.0 k ]), p.1.1))
          ])
        ]))

    -- every run has the traces of the definition
    pub run_traces : CallersFirst (edges_of net.wiring) [] (closing_order (edges_of net.wiring)) → (t : Target)
        → trace t (calls_through net s (closing_order (edges_of net.wiring)) roots) ≡ calls_to t log
    run_traces first t =
        let same = through (closing_order (edges_of net.wiring)) [] roots first run.rooted
        (λ c h. elim (run.caused c h) [ inl k ↦ inl k | inr p ↦ inr (p.0, ((λ m. m), p.1)) ]) in
        trace_is log run.ordered (calls_through net s (closing_order (edges_of net.wiring)) roots) t same.only (λ c h _. same.all c h)

  get_states_along : (calls : List (Call Item)) (k : ℕ) (s : List State) (v : ℕ)
      → slice_get (states_along net calls k s) v ≡ option_map (λ q. state_after (slice_get net.behaviors (k + v)) q (trace (Node (k + v)) calls)) (slice_get s v)
  get_states_along calls k [] v = refl
  get_states_along calls k (q ∷ s) zero = let e : k ≡ k + 0 = omega arith in
      subst (λ (n : ℕ). Some (state_after (slice_get net.behaviors k) q (trace (Node k) calls)) ≡ Some (state_after (slice_get net.behaviors n) q (trace (Node n) calls))) e refl
  get_states_along calls k (q ∷ s) (suc v) = let e : suc k + v ≡ k + suc v = omega arith in
      get_states_along calls (suc k) s v
      ∙ ap (λ (n : ℕ). option_map (λ q. state_after (slice_get net.behaviors n) q (trace (Node n) calls)) (slice_get s v)) e

  pub walk_gives : CallersFirst (edges_of net.wiring) [] (closing_order (edges_of net.wiring)) → {s t : List State} {o p : List Item} {ds : List (Target × Option Item)}
      → Walk net s o ds t p → Served net s o ds t p
  walk_gives first {s} {t} {o} {p} {ds} walk =
      let l = walk_log walk (numbered 0 ds) (requests_of_numbered 0 ds) in
      let run = log_is_run net l.logged (numbered_apart 0 ds) in
      record {
        states = ext_slice_get t (states_after net s ds)
            (λ v. rw l.states (get_log_states net s l.log v
            ∙ (rw (← run_traces s (numbered 0 ds) l.log run first (Node v))
            (sym (get_states_along (calls_for net s ds) 0 s v
            ∙ ap (λ (n : ℕ). option_map (λ q. state_after (slice_get net.behaviors n) q (trace (Node n) (calls_for net s ds))) (slice_get s v)) (zero-add v))))));
        items = l.items ∙ ap (λ (cs : List (Call Item)). o ++ filter_map (λ c. c.item) cs) (sym (run_traces s (numbered 0 ds) l.log run first Out));
      }
