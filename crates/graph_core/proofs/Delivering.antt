-- What the walk of the code rests on.
use Rattle.std.proofs.Common.{◌≡◌, inl, inr, ℕ, suc, ◌<◌, ◌≤◌, List, [], ◌∷◌, ◌++◌, refl, sym, subst, ap, ◌∙◌, arith, map, length, drop, get_or}
use Rattle.std.specs.Prelude.{Option, Some, None, IfSome}
use Rattle.std.specs.List.{flat_map}
use Rattle.std.specs.Prelude.{◌==◌}
use Rattle.std.proofs.lemmas.Bool.{cases_eq, cond_both, cond-true, cond-false, ne_eqb, eq-eqb}
use Rattle.std.proofs.lemmas.List.{get_or-map, length-map, length-append, append-nil}
use Rattle.std.proofs.lemmas.List.Concat.{flat_map-append}
use Rattle.graph_core.specs.Closing.{CallersFirst}
use Rattle.graph_core.specs.declared.Target.{Target}
use Rattle.graph_core.specs.declared.Target.TheVariants.{Node, Out}
use Rattle.graph_core.specs.declared.NodeSpec.{NodeSpec}
use Rattle.graph_core.specs.Wiring.{Wiring, Edges, Has, wiring_of, ports_of, edges_of, targets_of}
use Rattle.graph_core.specs.Traces.{Network}
use Rattle.graph_core.specs.Inner.Walk.{deliveries, owed, stepped, sent, Walk, done, put_out, called, IsBuilt, height, LeadsOn, IsOnlyTarget}
use Rattle.graph_core.proofs.Members.{Has-append_cases, Has-from_map, Has-same}
use Rattle.graph_core.proofs.Emissions.{ports_targets, Has-flat}
use Rattle.graph_core.proofs.Walks.{walk_append}

last_alone : {X : Type 0} (rest : List X) (x y : X) → rest ++ x ∷ [] ≡ y ∷ [] → (rest ≡ []) × (x ≡ y)
last_alone [] x y e = (refl, cc)
last_alone (z ∷ rest) x y e = let l = ap length e in absurd (omega (arith, length-append rest (x ∷ []), l))

pub has_only : {X : Type 0} (xs : List X) (x : X) → xs ≡ x ∷ [] → Has xs x
has_only xs x e = rw e (inl refl)

pub some_weaker : {A : Type 0} (o : Option A) (P Q : A → Type 0) → ((a : A) → P a → Q a) → IfSome o P → IfSome o Q
some_weaker None P Q f h = tt
some_weaker (Some a) P Q f h = f a h

pub alone : {X : Type 0} (xs : List X) (x : X) → length xs ≡ 1 → x ≡ get_or xs 0 x → xs ≡ x ∷ []
alone [] x one e = absurd (omega arith)
alone (y ∷ []) x one e = ap (λ z. z ∷ []) (sym e)
alone (y ∷ z ∷ zs) x one e = absurd (omega arith)

pub deliveries_more : {Item : Type 0} (ports : List (List Target)) (es : List (ℕ × Item)) (p : ℕ) (x : Item)
    → deliveries ports (es ++ (p, x) ∷ []) ≡ deliveries ports es ++ map (λ to. (to, x)) (get_or ports p [])
deliveries_more {Item} ports es p x =
    flat_map-append (λ (e : ℕ × Item). map (λ to. (to, e.1)) (get_or ports e.0 [])) es ((p, x) ∷ [])
    ∙ ap (λ (l : List (Target × Item)). deliveries ports es ++ l) (append-nil (map (λ to. (to, x)) (get_or ports p [])))

pub deliveries_targets : {Item : Type 0} (ports : List (List Target)) (es : List (ℕ × Item)) (d : Target × Item)
    → Has (deliveries ports es) d → Has (flat_map (λ port. port) ports) d.0
deliveries_targets ports [] d h = absurd h
deliveries_targets {Item} ports (e ∷ es) d h =
    elim (Has-append_cases (map (λ to. (to, e.1)) (get_or ports e.0 [])) (deliveries ports es) d h) [
      | inl k ↦ (let r = Has-from_map (λ (to : Target). (to, e.1)) (get_or ports e.0 []) d k in rw r.is (Has-flat ports e.0 r.source r.member))
      | inr k ↦ deliveries_targets ports es d k
    ]

-- a callee stands further on in the order
module _ (edges : Edges) where
  pub height_le : (rest : List ℕ) (v : ℕ) → height rest v ≤ length rest
  height_le [] v = omega arith
  height_le (w ∷ rest) v = cond_both (v == w) (suc (length rest)) (height rest v) (λ n. n ≤ suc (length rest)) (λ _. omega arith) (λ _. let l = height_le rest v in omega arith)

  falls_in : (rest listed : List ℕ) → CallersFirst edges listed rest → (v w : ℕ) → Has (targets_of edges v) (Node w) → w < length edges
      → (Has listed w → ⊥) → (Has listed v → ⊥) → height rest w < height rest v
  falls_in [] listed first v w edge within free other = absurd (free (first w within))
  falls_in (u ∷ rest) listed first v w edge within free other =
      elim (cases_eq w u) [
        | inl e ↦ absurd (other (first.0 v (Has-same (targets_of edges v) (Node w) (Node u) (ap Node e) edge)))
        | inr ne ↦ (elim (cases_eq v u) [
          | inl e ↦ rw (cond-false (w == u) (suc (length rest)) (height rest w) (ne_eqb w u ne), cond-true (v == u) (suc (length rest)) (height rest v) (eq-eqb v u e))
              (let l = height_le rest w in omega arith)
          | inr nv ↦ rw (cond-false (w == u) (suc (length rest)) (height rest w) (ne_eqb w u ne), cond-false (v == u) (suc (length rest)) (height rest v) (ne_eqb v u nv))
              (falls_in rest (u ∷ listed) first.2 v w edge within
              (λ h. elim h [ inl e ↦ ne e | inr k ↦ free k ]) (λ h. elim h [ inl e ↦ nv e | inr k ↦ other k ]))
        ])
      ]

  pub height_falls : (order : List ℕ) → CallersFirst edges [] order → (v w : ℕ) → Has (targets_of edges v) (Node w) → w < length edges → height order w < height order v
  height_falls order first v w edge within = falls_in order [] first v w edge within (λ h. h) (λ h. h)

  leads_on : (order : List ℕ) → IsBuilt edges order → (v : ℕ) (t : Target) → Has (targets_of edges v) t → LeadsOn edges v t
  leads_on order built v Out h = tt
  leads_on order built v (Node w) h =
      let within = built.within v w h in
      (within, subst (λ (l : List ℕ). height l w < height l v) built.is_closing_order (height_falls order built.callers_first v w h within))

  pub first_leads : {Item : Type 0} (v w : ℕ) (to : Target) (x : Item) (queue rest : List (Target × Item)) → queue ≡ (to, x) ∷ rest → to ≡ Node w
      → ((d : Target × Item) → Has queue d → LeadsOn edges v d.0) → LeadsOn edges v (Node w)
  first_leads {Item} v w to x queue rest e is leads =
      subst (λ (t : Target). LeadsOn edges v t) is (leads (to, x) (rw e (inl refl)))

  pub rest_leads : {Item : Type 0} (v : ℕ) (d : Target × Item) (queue rest : List (Target × Item)) → queue ≡ d ∷ rest
      → ((d : Target × Item) → Has queue d → LeadsOn edges v d.0) → (d : Target × Item) → Has rest d → LeadsOn edges v d.0
  rest_leads v d queue rest e leads b h = leads b (rw e (inr h))

pub deliveries_lead : {Item : Type 0} (wiring : Wiring) (order : List ℕ) → IsBuilt (edges_of wiring) order → (v : ℕ) (es : List (ℕ × Item)) (d : Target × Item)
    → Has (deliveries (ports_of wiring v) es) d → LeadsOn (edges_of wiring) v d.0
deliveries_lead wiring order built v es d h =
    leads_on (edges_of wiring) order built v d.0 (rw (← ports_targets wiring v) (deliveries_targets (ports_of wiring v) es d h))

module _ {State Item : Type 0} (net : Network State Item) where
  pub serve_out : (s t : List State) (o q p : List Item) (to : Target) (x : Item) (queue rest : List (Target × Item)) → queue ≡ (to, x) ∷ rest → to ≡ Out → q ≡ o ++ x ∷ []
      → Walk net s q (owed rest) t p → Walk net s o (owed queue) t p
  serve_out s t o q p to x queue rest e is f w = let u : Walk net s (o ++ x ∷ []) (owed rest) t p = rw (← f) w in rw (e, is) (put_out u)

  pub serve_call : (s m t : List State) (o q p : List Item) (v : ℕ) (to : Target) (x : Item) (queue rest : List (Target × Item)) (said : List (Target × Option Item)) (s1 : List State)
      → queue ≡ (to, x) ∷ rest → to ≡ Node v → s1 ≡ stepped net s v (Some x) → said ≡ sent net s v (Some x)
      → Walk net s1 o said m q → Walk net m q (owed rest) t p → Walk net s o (owed queue) t p
  serve_call s m t o q p v to x queue rest said s1 e is f h inner w =
      let u : Walk net (stepped net s v (Some x)) o (sent net s v (Some x) ++ owed rest) t p = rw (← f, ← h) (walk_append net inner w) in
      rw (e, is) (called u)

  pub serve_one : (s m t : List State) (o q : List Item) (v : ℕ) (x : Option Item) (said : List (Target × Option Item)) (s1 : List State)
      → s1 ≡ stepped net s v x → said ≡ sent net s v x → Walk net s1 o said m q → Walk net s o ((Node v, x) ∷ []) m q
  serve_one s m t o q v x said s1 f h inner =
      let u : Walk net (stepped net s v x) o (sent net s v x ++ []) m q = rw (append-nil (sent net s v x), ← f, ← h) inner in
      called u

  -- a call that emits one item for one target, and what follows from that
  pub serve_single : (s t s1 : List State) (o p : List Item) (v w : ℕ) (x y : Item) (to : Target) (ds : List (Target × Item))
      → s1 ≡ stepped net s v (Some x) → owed ds ≡ sent net s v (Some x) → ds ≡ (to, y) ∷ [] → to ≡ Node w
      → Walk net s1 o ((Node w, Some y) ∷ []) t p → Walk net s o ((Node v, Some x) ∷ []) t p
  serve_single s t s1 o p v w x y to ds f h e is inner =
      let said : (Node w, Some y) ∷ [] ≡ sent net s v (Some x) = sym (ap owed (e ∙ ap (λ (k : Target). (k, y) ∷ []) is)) ∙ h in
      serve_one s t t o p v (Some x) ((Node w, Some y) ∷ []) s1 f said inner

  -- a call that emits one item, which goes out
  pub serve_last : (s s1 : List State) (o q : List Item) (v : ℕ) (x y : Item) (to : Target) (ds : List (Target × Item))
      → s1 ≡ stepped net s v (Some x) → owed ds ≡ sent net s v (Some x) → ds ≡ (to, y) ∷ [] → to ≡ Out → q ≡ o ++ y ∷ []
      → Walk net s o ((Node v, Some x) ∷ []) s1 q
  serve_last s s1 o q v x y to ds f h e is put =
      let said : (Out, Some y) ∷ [] ≡ sent net s v (Some x) = sym (ap owed (e ∙ ap (λ (k : Target). (k, y) ∷ []) is)) ∙ h in
      let inner : Walk net s1 o ((Out, Some y) ∷ []) s1 (o ++ y ∷ []) = put_out done in
      rw put (serve_one s s1 s1 o (o ++ y ∷ []) v (Some x) ((Out, Some y) ∷ []) s1 f said inner)

-- one emission for one target
pub only_delivery : {Item : Type 0} (ports : List (List Target)) (said : List (ℕ × Item)) (to : Target) → IsOnlyTarget ports said to
    → (rest : List (ℕ × Item)) (e : ℕ × Item) → said ≡ rest ++ e ∷ [] → deliveries ports said ≡ (to, e.1) ∷ []
only_delivery {Item} ports said to only rest e popped =
    let last = last_alone rest e (only.port, only.item) (sym popped ∙ only.is_said) in
    ap (deliveries ports) only.is_said
    ∙ ap (λ (l : List Target). map (λ t. (t, only.item)) l ++ []) only.is_target
    ∙ ap (λ (x : ℕ × Item). (to, x.1) ∷ []) (sym last.1)

pub only_taken : {Item : Type 0} (ports : List (List Target)) (said : List (ℕ × Item)) (to : Target) → IsOnlyTarget ports said to
    → (rest : List (ℕ × Item)) (e : ℕ × Item) → said ≡ rest ++ e ∷ [] → rest ≡ []
only_taken ports said to only rest e popped = (last_alone rest e (only.port, only.item) (sym popped ∙ only.is_said)).0

pub length_edges : {Op : Type 0} (nodes : List (NodeSpec Op)) → length (edges_of (wiring_of nodes)) ≡ length nodes
length_edges {Op} nodes =
    length-map (wiring_of nodes) (λ (ports : List (List Target)). flat_map (λ port. port) ports)
    ∙ length-map nodes (λ (node : NodeSpec Op). map (λ port. port.items) node.ports.items)

pub ports_of_index : {Op : Type 0} (nodes : List (NodeSpec Op)) (v : ℕ) (node : NodeSpec Op) → v < length nodes → node ≡ get_or nodes v node
    → ports_of (wiring_of nodes) v ≡ map (λ port. port.items) node.ports.items
ports_of_index {Op} nodes v node l e =
    let f : NodeSpec Op → List (List Target) = λ n. map (λ port. port.items) n.ports.items in
    get_or-map f nodes v node [] l ∙ ap f (sym e)

pub nil_from_drop : {X : Type 0} (xs ys : List X) → xs ≡ ys → ys ≡ drop 1 xs → xs ≡ []
nil_from_drop [] ys e f = refl
nil_from_drop (x ∷ xs) ys e f = let l : length (x ∷ xs) ≡ length xs = ap length (e ∙ f) in absurd (omega arith)
