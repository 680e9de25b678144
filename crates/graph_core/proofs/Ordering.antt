-- Where no node is on a cycle, the closing order lists each node after all its callers.
use Rattle.std.proofs.Common.{◌≡◌, inl, inr, ℕ, zero, suc, ◌+◌, ◌<◌, ◌≤◌, Bool, true, false, not, ◌&&◌, ◌||◌, List, [], ◌∷◌, ◌++◌, refl, sym, subst, ap, ◌∙◌, arith, length, append_assoc}
use Rattle.std.specs.Prelude.{Option, Some, None, find}
use Rattle.std.specs.List.{list_any, list_all}
use Rattle.std.proofs.lemmas.List.{length_push, append-nil}
use Rattle.std.proofs.lemmas.Bool.{cases_eq, cases_lt, cases_Bool, cond-true, cond-false, or_cases, or_left, or_right, or_parts, and_parts, and_cases, not-true, not-false, both_ways}
use Rattle.graph_core.specs.declared.Target.{Target}
use Rattle.graph_core.specs.declared.Target.TheVariants.{Node}
use Rattle.graph_core.specs.Wiring.{Edges, Has, targets_of, same_target, calls_node}
use Rattle.graph_core.specs.Closing.{numbers_from, is_listed, is_ready, next_ready, listed_on, closing_order, CallersFirst}
use Rattle.graph_core.specs.Faults.{Reaches, calls, onward, HasNoCycle}
use Rattle.graph_core.proofs.Members.{Has-append_left, Has-append_right, Has-append_cases, Has-same}
use Rattle.graph_core.proofs.Logs.{same_target-is, same_target-itself}
use Rattle.graph_core.proofs.Traces.{targets_within}
use Rattle.graph_core.proofs.Pigeons.{Distinct, pigeons, Distinct-push}
use Rattle.graph_core.proofs.Reaching.{listed_has, has_listed}

pub numbers_has : (k n v : ℕ) → k ≤ v → v < k + n → Has (numbers_from k n) v
numbers_has k zero v l m = absurd (omega arith)
numbers_has k (suc n) v l m = elim (cases_eq v k) [ inl e ↦ inl e | inr ne ↦ inr (numbers_has (suc k) n v (next l ne) (omega arith)) ]
  where
    next : k ≤ v → (v ≡ k → ⊥) → suc k ≤ v
    next l ne = elim (cases_lt k v) [ inl a ↦ a | inr a ↦ absurd (ne (omega arith)) ]

from_numbers : (k n v : ℕ) → Has (numbers_from k n) v → v < k + n
from_numbers k zero v h = absurd h
from_numbers k (suc n) v (inl e) = omega arith
from_numbers k (suc n) v (inr h) = let l = from_numbers (suc k) n v h in omega arith

find_none : {X : Type 0} (p : X → Bool) (xs : List X) → find p xs ≡ None → (x : X) → Has xs x → p x ≡ false
find_none p [] e x h = absurd h
find_none {X} p (y ∷ xs) e x h =
    elim (cases_Bool (p y)) [
      | inl t ↦ (let f : Some y ≡ None = sym (cond-true (p y) (Some y) (find p xs) t) ∙ e in absurd (no_some y f))
      | inr f ↦ elim h [
        | inl same ↦ (let Q : X → Type 0 = λ z. p z ≡ false in subst Q (sym same) f)
        | inr k ↦ find_none p xs (sym (cond-false (p y) (Some y) (find p xs) f) ∙ e) x k
      ]
    ]
  where
    no_some : (z : X) → Some z ≡ None → ⊥
    no_some z g = cc

record Found {X : Type 0} (p : X → Bool) (xs : List X) (x : X) : Type 0 where
  member : Has xs x
  passes : p x ≡ true

find_some : {X : Type 0} (p : X → Bool) (xs : List X) (x : X) → find p xs ≡ Some x → Found p xs x
find_some p [] x e = cc
find_some {X} p (y ∷ xs) x e =
    elim (cases_Bool (p y)) [
      | inl t ↦ (let f : Some y ≡ Some x = sym (cond-true (p y) (Some y) (find p xs) t) ∙ e in
          let same : y ≡ x = cc in
          let Q : X → Type 0 = λ z. p z ≡ true in
          record { member = inl (sym same); passes = subst Q same t })
      | inr f ↦ (let r = find_some p xs x (sym (cond-false (p y) (Some y) (find p xs) f) ∙ e) in record { member = inr r.member; passes = r.passes })
    ]

all_true : {X : Type 0} (p : X → Bool) (xs : List X) → list_all p xs ≡ true → (x : X) → Has xs x → p x ≡ true
all_true p [] t x h = absurd h
all_true {X} p (y ∷ xs) t x (inl e) = let Q : X → Type 0 = λ z. p z ≡ true in subst Q (sym e) (and_parts (p y) (list_all p xs) t).0
all_true p (y ∷ xs) t x (inr h) = all_true p xs (and_parts (p y) (list_all p xs) t).1 x h

record Fails {X : Type 0} (p : X → Bool) (xs : List X) : Type 0 where
  at : X
  member : Has xs at
  fails : p at ≡ false

all_false : {X : Type 0} (p : X → Bool) (xs : List X) → list_all p xs ≡ false → Fails p xs
all_false p [] t = absurd (both_ways true t refl)
all_false p (y ∷ xs) t =
    elim (and_cases (p y) (list_all p xs) t) [
      | inl f ↦ record { at = y; member = inl refl; fails = f }
      | inr f ↦ (let r = all_false p xs f in record { at = r.at; member = inr r.member; fails = r.fails })
    ]

calls_has : (v : ℕ) (targets : List Target) → list_any (same_target (Node v)) targets ≡ true → Has targets (Node v)
calls_has v [] t = absurd (both_ways false refl t)
calls_has v (to ∷ targets) t =
    elim (or_cases (same_target (Node v) to) (list_any (same_target (Node v)) targets) t)
    [ inl e ↦ inl (sym (same_target-is (Node v) to e)) | inr k ↦ inr (calls_has v targets k) ]

has_calls : (v : ℕ) (targets : List Target) → Has targets (Node v) → list_any (same_target (Node v)) targets ≡ true
has_calls v [] h = absurd h
has_calls v (to ∷ targets) (inl e) =
    or_left (same_target (Node v) to) (list_any (same_target (Node v)) targets) (subst (λ (t : Target). same_target (Node v) t ≡ true) e (same_target-itself (Node v)))
has_calls v (to ∷ targets) (inr h) = or_right (same_target (Node v) to) (list_any (same_target (Node v)) targets) (has_calls v targets h)

module _ (edges : Edges) where
  record Waits (listed : List ℕ) (v : ℕ) : Type 0 where
    caller : ℕ
    below : caller < length edges
    free : Has listed caller → ⊥
    edge : Has (targets_of edges caller) (Node v)

  -- where no node comes next, a node that isn't listed waits for a caller that isn't
  waits : (listed : List ℕ) → next_ready edges listed ≡ None → (v : ℕ) → v < length edges → is_listed listed v ≡ false → Waits listed v
  waits listed none v l f =
      let test = find_none (λ node. not (is_listed listed node) && is_ready edges listed node) (numbers_from 0 (length edges)) none v (numbers_has 0 (length edges) v (omega arith) (omega arith)) in
      elim (and_cases (not (is_listed listed v)) (is_ready edges listed v) test) [
        | inl a ↦ absurd (both_ways (is_listed listed v) f (not-false (is_listed listed v) a))
        | inr a ↦ (let r = all_false (λ caller. not (calls_node edges caller v) || is_listed listed caller) (numbers_from 0 (length edges)) a in
            let p = or_parts (not (calls_node edges r.at v)) (is_listed listed r.at) r.fails in
            let e = calls_has v (targets_of edges r.at) (not-false (calls_node edges r.at v) p.0) in
            record { caller = r.at; below = targets_within edges r.at (Node v) e; free = λ h. both_ways (is_listed listed r.at) p.1 (has_listed listed r.at h); edge = e })
      ]

  record Comes (listed : List ℕ) (v : ℕ) : Type 0 where
    below : v < length edges
    free : Has listed v → ⊥
    callers : (u : ℕ) → Has (targets_of edges u) (Node v) → Has listed u

  comes : (listed : List ℕ) (v : ℕ) → next_ready edges listed ≡ Some v → Comes listed v
  comes listed v e =
      let r = find_some (λ node. not (is_listed listed node) && is_ready edges listed node) (numbers_from 0 (length edges)) v e in
      let p = and_parts (not (is_listed listed v)) (is_ready edges listed v) r.passes in
      record {
        below = (let l = from_numbers 0 (length edges) v r.member in omega arith);
        free = λ h. both_ways (is_listed listed v) (not-true (is_listed listed v) p.0) (has_listed listed v h);
        callers = λ u h.
            let t = all_true (λ caller. not (calls_node edges caller v) || is_listed listed caller) (numbers_from 0 (length edges)) p.1 u
            (numbers_has 0 (length edges) u (omega arith) (let l = targets_within edges u (Node v) h in omega arith)) in
            elim (or_cases (not (calls_node edges u v)) (is_listed listed u) t) [
              | inl a ↦ absurd (both_ways (calls_node edges u v) (not-true (calls_node edges u v) a) (has_calls v (targets_of edges u) h))
              | inr a ↦ listed_has listed u a
            ];
      }

  -- ever further callers, none of them listed
  record Chain (listed : List ℕ) (k : ℕ) : Type 0 where
    head : ℕ
    tail : List ℕ
    distinct : Distinct (head ∷ tail)
    below : (x : ℕ) → Has (head ∷ tail) x → x < length edges
    free : Has listed head → ⊥
    reach : (x : ℕ) → Has tail x → Reaches edges head x
    long : length tail ≡ k

  module _ (no_cycle : HasNoCycle edges) where
    chain : (listed : List ℕ) → next_ready edges listed ≡ None → (v : ℕ) → v < length edges → is_listed listed v ≡ false → (k : ℕ) → Chain listed k
    chain listed none v l f zero =
        record {
          head = v;
          tail = [];
          distinct = ((λ h. h), tt);
          below = λ x h. elim h [ inl e ↦ omega arith | inr m ↦ absurd m ];
          free = λ h. both_ways (is_listed listed v) f (has_listed listed v h);
          reach = λ x h. absurd h;
          long = refl;
        }
    chain listed none v l f (suc k) =
        let c = chain listed none v l f k in
        let w = waits listed none c.head (c.below c.head (inl refl)) (unlisted c.head c.free) in
        let onto = reach_all w.caller c.head c.tail w.edge c.reach in
        record {
          head = w.caller;
          tail = c.head ∷ c.tail;
          distinct = ((λ h. no_cycle w.caller (onto w.caller h)), c.distinct);
          below = λ x h. (elim h [ inl e ↦ subst (λ (n : ℕ). n < length edges) (sym e) w.below | inr m ↦ c.below x m ]);
          free = w.free;
          reach = onto;
          long = ap suc c.long;
        }
      where
        unlisted : (u : ℕ) → (Has listed u → ⊥) → is_listed listed u ≡ false
        unlisted u free = elim (cases_Bool (is_listed listed u)) [ inl t ↦ absurd (free (listed_has listed u t)) | inr f ↦ f ]

        reach_all : (u h : ℕ) (tail : List ℕ) → Has (targets_of edges u) (Node h) → ((x : ℕ) → Has tail x → Reaches edges h x) → (x : ℕ) → Has (h ∷ tail) x → Reaches edges u x
        reach_all u h tail e r x (inl same) = calls (Has-same (targets_of edges u) (Node h) (Node x) (ap Node (sym same)) e)
        reach_all u h tail e r x (inr m) = onward e (r x m)

    covers : (listed : List ℕ) → next_ready edges listed ≡ None → (v : ℕ) → v < length edges → Has listed v
    covers listed none v l =
        elim (cases_Bool (is_listed listed v)) [
          | inl t ↦ listed_has listed v t
          | inr f ↦ (let c = chain listed none v l f (length edges) in
              let p = pigeons (length edges) (c.head ∷ c.tail) c.distinct c.below in
              let m = c.long in absurd (omega arith))
        ]

    full : (listed : List ℕ) → length listed ≡ length edges → Distinct listed → ((x : ℕ) → Has listed x → x < length edges) → (v : ℕ) → v < length edges → Has listed v
    full listed count distinct below v l =
        elim (cases_Bool (is_listed listed v)) [
          | inl t ↦ listed_has listed v t
          | inr f ↦ (let p = pigeons (length edges) (v ∷ listed) ((λ h. both_ways (is_listed listed v) f (has_listed listed v h)), distinct)
              (λ x h. elim h [ inl e ↦ subst (λ (n : ℕ). n < length edges) (sym e) l | inr m ↦ below x m ]) in
              absurd (omega arith))
        ]

    pub record Ordered (listed acc : List ℕ) (steps : ℕ) : Type 0 where
      pub rest : List ℕ
      pub is : listed_on edges steps listed ≡ listed ++ rest
      pub first : CallersFirst edges acc rest
      pub below : (x : ℕ) → Has rest x → x < length edges

    ordered : (steps : ℕ) (listed acc : List ℕ) → length listed + steps ≡ length edges → Distinct listed → ((x : ℕ) → Has listed x → x < length edges)
        → ((x : ℕ) → Has listed x → Has acc x) → ((x : ℕ) → Has acc x → Has listed x) → Ordered listed acc steps
    ordered zero listed acc count distinct below to from =
        record { rest = []; is = sym (append-nil listed); first = λ v l. to v (full listed (omega arith) distinct below v l); below = λ x h. absurd h }
    ordered (suc steps) listed acc count distinct below to from =
        of_option (next_ready edges listed) refl
        (λ v c. ordered steps (listed ++ v ∷ []) (v ∷ acc) (let p = length_push listed v in omega arith) (Distinct-push listed v distinct c.free)
        (λ x h. elim (Has-append_cases listed (v ∷ []) x h) [ inl k ↦ below x k | inr k ↦ (elim k [ inl s ↦ subst (λ (n : ℕ). n < length edges) (sym s) c.below | inr m ↦ absurd m ]) ])
        (λ x h. elim (Has-append_cases listed (v ∷ []) x h) [ inl k ↦ inr (to x k) | inr k ↦ (elim k [ inl s ↦ inl s | inr m ↦ absurd m ]) ])
        (λ x h. elim h [ inl s ↦ Has-append_right listed (v ∷ []) x (inl s) | inr k ↦ Has-append_left listed (v ∷ []) x (from x k) ]))
      where
        of_option : (o : Option ℕ) → next_ready edges listed ≡ o
            → ((v : ℕ) → Comes listed v → Ordered (listed ++ v ∷ []) (v ∷ acc) steps) → Ordered listed acc (suc steps)
        of_option None e rec =
            record { rest = []; is = rw e (sym (append-nil listed)); first = λ v l. to v (covers listed e v l); below = λ x h. absurd h }
        of_option (Some v) e rec =
            let c = comes listed v e in
            let r = rec v c in
            record {
              rest = v ∷ r.rest;
              is = rw e (r.is ∙ append_assoc listed (v ∷ []) r.rest);
              first = ((λ u h. to u (c.callers u h)), (λ h. c.free (from v h)), r.first);
              below = λ x h. (elim h [ inl s ↦ subst (λ (n : ℕ). n < length edges) (sym s) c.below | inr k ↦ r.below x k ]);
            }

    all : Ordered [] [] (length edges)
    all = ordered (length edges) [] [] (omega arith) tt (λ x h. absurd h) (λ x h. h) (λ x h. h)

    pub closing_first : CallersFirst edges [] (closing_order edges)
    closing_first = rw all.is all.first

    pub closing_below : (v : ℕ) → Has (closing_order edges) v → v < length edges
    closing_below v h = all.below v (rw all.is at h)
