-- After each node is closed, callers first, every state is the start state.
use Rattle.std.proofs.Common.{◌≡◌, ◌⊎◌, inl, inr, ℕ, zero, suc, ◌<◌, List, [], ◌∷◌, ◌++◌, refl, sym, subst, ◌∙◌, arith, map, append_assoc, length}
use Rattle.std.specs.Prelude.{Option, Some, None, slice_get}
use Rattle.std.specs.Option.{option_map}
use Rattle.std.proofs.lemmas.Bool.{cases_lt, ne_eqb}
use Rattle.std.proofs.lemmas.Option.{slice_get_past, slice_get-map}
use Rattle.std.proofs.lemmas.List.{length-map}
use Rattle.graph_core.specs.declared.Target.{Target}
use Rattle.graph_core.specs.declared.Target.TheVariants.{Node, Out}
use Rattle.graph_core.specs.Behavior.{Behavior}
use Rattle.graph_core.specs.Wiring.{Edges, Has, edges_of}
use Rattle.graph_core.specs.Closing.{closing_order, CallersFirst}
use Rattle.graph_core.specs.Traces.{Network, start_states, closings}
use Rattle.graph_core.specs.Inner.Walk.{stepped, sent, Walk, done, put_out, called}
use Rattle.graph_core.proofs.Members.{Has-append_cases, Has-from_map}
use Rattle.graph_core.proofs.Logs.{get_after_same, get_after_other}
use Rattle.graph_core.proofs.Traces.{ext_slice_get}
use Rattle.graph_core.proofs.Walks.{CallersListed, NotListed, CallersListed-more, NotListed-called, NotListed-after, sent_targets, length_stepped, length_walk}

pub listed_or_left : (edges : Edges) (listed rest : List ℕ) → CallersFirst edges listed rest → (v : ℕ) → v < length edges → Has listed v ⊎ Has rest v
listed_or_left edges listed [] first v l = inl (first v l)
listed_or_left edges listed (w ∷ rest) first v l =
    elim (listed_or_left edges (w ∷ listed) rest first.2 v l)
    [ inl h ↦ (elim h [ inl e ↦ inr (inl e) | inr k ↦ inl k ]) | inr k ↦ inr (inr k) ]

-- what is left isn't listed
pub left_not_listed : (edges : Edges) (listed rest : List ℕ) → CallersFirst edges listed rest → (v : ℕ) → Has rest v → Has listed v → ⊥
left_not_listed edges listed [] first v h k = h
left_not_listed edges listed (w ∷ rest) first v (inl e) k = first.1 (subst (λ (n : ℕ). Has listed n) e k)
left_not_listed edges listed (w ∷ rest) first v (inr h) k = left_not_listed edges (w ∷ listed) rest first.2 v h (inr k)

get_within : {X : Type 0} (xs : List X) (i : ℕ) → i < length xs → (x : X) × (slice_get xs i ≡ Some x)
get_within [] i l = absurd (omega arith)
get_within (x ∷ xs) zero l = (x, refl)
get_within (x ∷ xs) (suc i) l = get_within xs i (omega arith)

module _ {State Item : Type 0} (net : Network State Item) where
  -- nodes with all their callers keep their states where the requests go to none of them
  keeps_listed : (listed : List ℕ) → CallersListed (edges_of net.wiring) listed → {s t : List State} {o p : List Item} {ds : List (Target × Option Item)}
      → Walk net s o ds t p → ((d : Target × Option Item) → Has ds d → NotListed listed d.0) → (u : ℕ) → Has listed u → slice_get t u ≡ slice_get s u
  keeps_listed listed closed done free u h = refl
  keeps_listed listed closed (put_out w) free u h = keeps_listed listed closed w (λ d k. free d (inr k)) u h
  keeps_listed listed closed (called {s} {t} {o} {p} {v} {x} {rest} w) free u h =
      keeps_listed listed closed w
      (λ d k. elim (Has-append_cases (sent net s v x) rest d k) [
        | inl m ↦ NotListed-called (edges_of net.wiring) listed closed v (free (Node v, x) (inl refl)) d.0 (sent_targets net s v x d m)
        | inr m ↦ free d (inr m)
      ]) u h
      ∙ get_after_other net s u (Node v) x (ne_eqb u v (λ e. free (Node v, x) (inl refl) (subst (λ (n : ℕ). Has listed n) e h)))

  pub record Split (s : List State) (o : List Item) (a b : List (Target × Option Item)) (t : List State) (p : List Item) : Type 0 where
    pub states : List State
    pub items : List Item
    pub first : Walk net s o a states items
    pub second : Walk net states items b t p

  walk_split : {s t : List State} {o p : List Item} {ds : List (Target × Option Item)} → Walk net s o ds t p
      → (a b : List (Target × Option Item)) → ds ≡ a ++ b → Split s o a b t p
  walk_split (done {s} {o}) [] b e = record { states = s; items = o; first = done; second = subst (λ (l : List (Target × Option Item)). Walk net s o l s o) e done }
  walk_split (done {s} {o}) (d ∷ a) b e = cc
  walk_split (put_out {s} {t} {o} {p} {x} {rest} w) [] b e =
      record { states = s; items = o; first = done; second = subst (λ (l : List (Target × Option Item)). Walk net s o l t p) e (put_out w) }
  walk_split (put_out {s} {t} {o} {p} {x} {rest} w) (d ∷ a) b e =
      let head : ◌≡◌ {A = Target × Option Item} (Out, x) d = cc in
      let tail : rest ≡ a ++ b = cc in
      let r = walk_split w a b tail in
      record {
        states = r.states;
        items = r.items;
        second = r.second;
        first = subst (λ (y : Target × Option Item). Walk net s o (y ∷ a) r.states r.items) head (put_out r.first);
      }
  walk_split (called {s} {t} {o} {p} {v} {x} {rest} w) [] b e =
      record { states = s; items = o; first = done; second = subst (λ (l : List (Target × Option Item)). Walk net s o l t p) e (called w) }
  walk_split (called {s} {t} {o} {p} {v} {x} {rest} w) (d ∷ a) b e =
      let head : ◌≡◌ {A = Target × Option Item} (Node v, x) d = cc in
      let tail : rest ≡ a ++ b = cc in
      let r = walk_split w (sent net s v x ++ a) b (rw tail (sym (append_assoc (sent net s v x) a b))) in
      record {
        states = r.states;
        items = r.items;
        second = r.second;
        first = subst (λ (y : Target × Option Item). Walk net s o (y ∷ a) r.states r.items) head (called r.first);
      }

  split_call : {s t : List State} {o p : List Item} {v : ℕ} {x : Option Item} {rest : List (Target × Option Item)}
      → Walk net s o ((Node v, x) ∷ rest) t p → Split (stepped net s v x) o (sent net s v x) rest t p
  split_call {x = x} {rest = rest} (called {s} {t} {o} {p} {v} w) = walk_split w (sent net s v x) rest refl

  abbrev start_of : ℕ → Option State
  start_of v = option_map (λ b. b.first) (slice_get net.behaviors v)

  closed_state : (s : List State) (v : ℕ) → length s ≡ length net.behaviors → slice_get (stepped net s v None) v ≡ start_of v
  closed_state s v same =
      elim (cases_lt v (length s)) [
        | inl l ↦ (let q = get_within s v l in let b = get_within net.behaviors v (omega arith) in
            get_after_same net s v None q.0 q.1 ∙ rw b.1 refl)
        | inr l ↦ rw (slice_get_past s v l, slice_get_past net.behaviors v (omega arith)) (slice_get_past s v l)
      ]

  closes : (rest listed : List ℕ) → CallersFirst (edges_of net.wiring) listed rest → CallersListed (edges_of net.wiring) listed
      → {s t : List State} {o p : List Item} → length s ≡ length net.behaviors → Walk net s o (map (λ v. (Node v, None)) rest) t p
      → (u : ℕ) → Has rest u → slice_get t u ≡ start_of u
  closes [] listed first closed same w u h = absurd h
  closes (v ∷ rest) listed first closed {s} {t} {o} {p} same w u h =
      let r = split_call w in
      let more = CallersListed-more (edges_of net.wiring) listed v first.0 closed in
      let long : length r.states ≡ length net.behaviors = length_walk net r.first ∙ (length_stepped net s v None ∙ same) in
      elim h [
        | inl e ↦ rw e (keeps_listed (v ∷ listed) more r.second
            (λ d k. let m = Has-from_map (λ n. (Node n, None)) rest d k in rw m.is (left_not_listed (edges_of net.wiring) (v ∷ listed) rest first.2 m.source m.member)) v (inl refl)
            ∙ (keeps_listed (v ∷ listed) more r.first (λ d k. NotListed-after (edges_of net.wiring) listed v first.0 first.1 closed d.0 (sent_targets net s v None d k)) v (inl refl)
            ∙ closed_state s v same))
        | inr k ↦ closes rest (v ∷ listed) first.2 more long r.second u k
      ]

  pub closings_start : length (edges_of net.wiring) ≡ length net.behaviors → CallersFirst (edges_of net.wiring) [] (closing_order (edges_of net.wiring))
      → {s t : List State} {o p : List Item} → length s ≡ length net.behaviors → Walk net s o (closings net) t p → t ≡ start_states net
  closings_start nodes first {s} {t} same w =
      ext_slice_get t (start_states net) (λ u.
      elim (cases_lt u (length net.behaviors)) [
        | inl l ↦ (elim (listed_or_left (edges_of net.wiring) [] (closing_order (edges_of net.wiring)) first u (omega arith)) [
          | inl h ↦ absurd h
          | inr h ↦ closes (closing_order (edges_of net.wiring)) [] first (λ a b e k. k) same w u h ∙ sym (slice_get-map (λ b. b.first) net.behaviors u)
        ])
        | inr l ↦ (let long = length_walk net w in
            slice_get_past t u (omega arith) ∙ sym (slice_get_past (start_states net) u (let m = length-map net.behaviors (λ (b : Behavior State Item). b.first) in omega arith)))
      ])
