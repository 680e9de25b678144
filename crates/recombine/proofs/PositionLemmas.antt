-- What is alive by numbers, and that a list of entries has one history.
use Rattle.std.proofs.Common.{◌≡◌, ℕ, zero, suc, ◌+◌, ◌<◌, ◌≤◌, Bool, true, false, true≢false, cond, List, [], ◌∷◌, ◌++◌, length, take, Some, refl, sym, ap, subst, ◌∙◌, append_assoc, arith, inl, inr}
use Rattle.std.specs.Prelude.{slice_get, ◌||◌, ◌&&◌}
use Rattle.std.specs.List.{list_any}
use Rattle.std.proofs.lemmas.Bool.{or_cases, or_parts, and_parts, and_from}
use Rattle.std.proofs.lemmas.List.{append-nil, take_at, length_push}
use Rattle.recombine.specs.ByPosition.{IsAlive, Selects, none_left, takes, leaves, IsHistory}
use Rattle.recombine.specs.Item.{Item}
use Rattle.recombine.specs.Joining.{Joining}
use Rattle.recombine.specs.Positions.{has_source, Fate, is_over, alive, fate_of, history}
use Rattle.recombine.proofs.MeaningLemmas.{alive_cons, alive_nil, fates_from}

-- ---- tests of some of a list

any_false : {X : Type 0} (p : X → Bool) (xs : List X) (k : ℕ) (y : X) → list_any p xs ≡ false → slice_get xs k ≡ Some y → p y ≡ false
any_false p [] k y none get = absurd cc
any_false p (x ∷ xs) zero y none get = let same : x ≡ y = cc get in ap p (sym same) ∙ (or_parts (p x) (list_any p xs) none).0
any_false p (x ∷ xs) (suc k) y none get = any_false p xs k y (or_parts (p x) (list_any p xs) none).1 get

record Found {X : Type 0} (p : X → Bool) (xs : List X) : Type 0 where
  place : ℕ
  found : X
  get : slice_get xs place ≡ Some found
  passes : p found ≡ true

any_true : {X : Type 0} (p : X → Bool) (xs : List X) → list_any p xs ≡ true → Found p xs
any_true p [] some = absurd (true≢false (sym some))
any_true p (x ∷ xs) some = elim (or_cases (p x) (list_any p xs) some) [
  | inl here ↦ record { place = 0; found = x; get = refl; passes = here }
  | inr behind ↦ let more = any_true p xs behind in record { place = suc more.place; found = more.found; get = more.get; passes = more.passes }
]

-- ---- places behind a front

record Behind (least : ℕ) (all : List Fate) (later : Fate) : Type 0 where
  place : ℕ
  above : least ≤ place
  get : slice_get all place ≡ Some later

from_here : (front rest : List Fate) (k : ℕ) (later : Fate) → length front ≤ k → slice_get (front ++ rest) k ≡ Some later → Behind 0 rest later
from_here [] rest k later above get = record { place = k; above = omega arith; get = get }
from_here (f ∷ front) rest zero later above get = absurd (omega (arith, above))
from_here (f ∷ front) rest (suc k) later above get = from_here front rest k later (omega (arith, above)) get

to_here : (front rest : List Fate) (k : ℕ) (later : Fate) → slice_get rest k ≡ Some later → Behind (length front) (front ++ rest) later
to_here [] rest k later get = record { place = k; above = omega arith; get = get }
to_here (f ∷ front) rest k later get = let more = to_here front rest k later get in record { place = suc more.place; above = omega (arith, more.above); get = more.get }

from_behind : (front rest : List Fate) (fate : Fate) (k : ℕ) (later : Fate) → length front < k → slice_get (front ++ fate ∷ rest) k ≡ Some later → Behind 0 rest later
from_behind [] rest fate zero later above get = absurd (omega (arith, above))
from_behind [] rest fate (suc k) later above get = record { place = k; above = omega arith; get = get }
from_behind (f ∷ front) rest fate zero later above get = absurd (omega (arith, above))
from_behind (f ∷ front) rest fate (suc k) later above get = from_behind front rest fate k later (omega (arith, above)) get

to_behind : (front rest : List Fate) (fate : Fate) (k : ℕ) (later : Fate) → slice_get rest k ≡ Some later → Behind (suc (length front)) (front ++ fate ∷ rest) later
to_behind [] rest fate k later get = record { place = suc k; above = omega arith; get = get }
to_behind (f ∷ front) rest fate k later get = let more = to_behind front rest fate k later get in record { place = suc more.place; above = omega (arith, more.above); get = more.get }

-- ---- alive and over

abbrev ended : Fate → Fate → Bool
ended fate other = other.ends && has_source other.item.source fate.item

abbrev begun : Fate → Fate → Bool
begun fate other = other.first && has_source other.item.source fate.item

abbrev flushed : Fate → Bool
flushed other = other.flush

both_ways : (b : Bool) → b ≡ false → b ≡ true → ⊥
both_ways b isnt is = true≢false (sym is ∙ isnt)

not_over : (front later : List Fate) (fate : Fate) → is_over fate later ≡ false → IsAlive (front ++ fate ∷ later) (length front) fate
not_over front later fate isnt =
    let parts = or_parts (list_any (ended fate) (fate ∷ later)) (list_any (begun fate) later || list_any flushed later) isnt in
    let two = or_parts (list_any (begun fate) later) (list_any flushed later) parts.1 in
    record {
      not_ended = λ k other above get of_source ends.
          (let b = from_here front (fate ∷ later) k other above get in
          both_ways (ended fate other) (any_false (ended fate) (fate ∷ later) b.place other parts.0 b.get) (and_from other.ends (has_source other.item.source fate.item) ends of_source));
      not_begun = λ k other above get of_source first.
          (let b = from_behind front later fate k other above get in
          both_ways (begun fate other) (any_false (begun fate) later b.place other two.0 b.get) (and_from other.first (has_source other.item.source fate.item) first of_source));
      not_flushed = λ k other above get flush.
          (let b = from_behind front later fate k other above get in both_ways (flushed other) (any_false flushed later b.place other two.1 b.get) flush);
    }

over : (front later : List Fate) (fate : Fate) → is_over fate later ≡ true → IsAlive (front ++ fate ∷ later) (length front) fate → ⊥
over front later fate is alive_here = elim (or_cases (list_any (ended fate) (fate ∷ later)) (list_any (begun fate) later || list_any flushed later) is) [
  | inl by_end ↦
      let f = any_true (ended fate) (fate ∷ later) by_end in
      let b = to_here front (fate ∷ later) f.place f.found f.get in
      let parts = and_parts f.found.ends (has_source f.found.item.source fate.item) f.passes in
      alive_here.not_ended b.place f.found b.above b.get parts.1 parts.0
  | inr others ↦ elim (or_cases (list_any (begun fate) later) (list_any flushed later) others) [
    | inl by_mark ↦
        let f = any_true (begun fate) later by_mark in
        let b = to_behind front later fate f.place f.found f.get in
        let parts = and_parts f.found.first (has_source f.found.item.source fate.item) f.passes in
        alive_here.not_begun b.place f.found (omega (arith, b.above)) b.get parts.1 parts.0
    | inr by_room ↦
        let f = any_true flushed later by_room in
        let b = to_behind front later fate f.place f.found f.get in
        alive_here.not_flushed b.place f.found (omega (arith, b.above)) b.get f.passes
  ]
]

selects_from : (front rest all : List Fate) → all ≡ front ++ rest → (n : ℕ) → n ≡ length front → Selects (IsAlive all) n rest (alive rest)
selects_from front [] all is n n_is = subst (λ (xs : List Item). Selects (IsAlive all) n [] xs) (sym alive_nil) none_left
selects_from front (fate ∷ later) all is n n_is =
    by_test (selects_from (front ++ fate ∷ []) later all (is ∙ sym (append_assoc front (fate ∷ []) later)) (suc n) (omega (arith, n_is, length_push front fate))) (is_over fate later) refl
  where
    moved : IsAlive all n fate → IsAlive (front ++ fate ∷ later) (length front) fate
    moved here = subst (λ (l : List Fate). IsAlive l (length front) fate) is (subst (λ (k : ℕ). IsAlive all k fate) n_is here)

    back : IsAlive (front ++ fate ∷ later) (length front) fate → IsAlive all n fate
    back here = subst (λ (k : ℕ). IsAlive all k fate) (sym n_is) (subst (λ (l : List Fate). IsAlive l (length front) fate) (sym is) here)

    by_test : Selects (IsAlive all) (suc n) later (alive later) → (b : Bool) → is_over fate later ≡ b → Selects (IsAlive all) n (fate ∷ later) (alive (fate ∷ later))
    by_test more true test =
        subst (λ (xs : List Item). Selects (IsAlive all) n (fate ∷ later) xs) (sym (alive_cons fate later ∙ ap (λ (c : Bool). cond c (alive later) (fate.item ∷ alive later)) test))
        (leaves (λ here. over front later fate test (moved here)) more)
    by_test more false test =
        subst (λ (xs : List Item). Selects (IsAlive all) n (fate ∷ later) xs) (sym (alive_cons fate later ∙ ap (λ (c : Bool). cond c (alive later) (fate.item ∷ alive later)) test))
        (takes (back (not_over front later fate test)) more)

pub selects_alive : (fates : List Fate) → Selects (IsAlive fates) 0 fates (alive fates)
selects_alive fates = selects_from [] fates fates refl 0 refl

-- ---- one history

abbrev fates_of : Joining → List Fate → List Item → List Fate
fates_of j past [] = []
fates_of j past (x ∷ items) = fate_of j past x ∷ fates_of j (past ++ fate_of j past x ∷ []) items

history_from : (j : Joining) (past : List Fate) (items : List Item) → fates_from j past items ≡ past ++ fates_of j past items
history_from j past [] = sym (append-nil past)
history_from j past (x ∷ items) =
    history_from j (past ++ fate_of j past x ∷ []) items ∙ append_assoc past (fate_of j past x ∷ []) (fates_of j (past ++ fate_of j past x ∷ []) items)

count_of : (j : Joining) (past : List Fate) (items : List Item) → length (fates_of j past items) ≡ length items
count_of j past [] = refl
count_of j past (x ∷ items) = ap (λ n. suc n) (count_of j (past ++ fate_of j past x ∷ []) items)

get_at : (front rest : List Fate) (f : Fate) → slice_get (front ++ f ∷ rest) (length front) ≡ Some f
get_at [] rest f = refl
get_at (g ∷ front) rest f = get_at front rest f

abbrev Decided : Joining → List Fate → ℕ → Item → Type 0
Decided j all n x = slice_get all n ≡ Some (fate_of j (take n all) x)

decided_here : (j : Joining) (past rest : List Fate) (x : Item) → Decided j (past ++ fate_of j past x ∷ rest) (length past) x
decided_here j past rest x = get_at past rest (fate_of j past x) ∙ ap (λ (l : List Fate). Some (fate_of j l x)) (sym (take_at past (fate_of j past x ∷ rest) (length past) refl))

decided_from : (j : Joining) (past : List Fate) (items : List Item) (k : ℕ) (x : Item) → slice_get items k ≡ Some x → (n : ℕ) → n ≡ length past + k → Decided j (past ++ fates_of j past items) n x
decided_from j past [] k x get n is = absurd cc
decided_from j past (y ∷ items) zero x get n is =
    let same : y ≡ x = cc get in
    let here : n ≡ length past = omega (arith, is) in
    subst (λ (z : Item). Decided j (past ++ fates_of j past (y ∷ items)) n z) same
    (subst (λ (m : ℕ). Decided j (past ++ fates_of j past (y ∷ items)) m y) (sym here) (decided_here j past (fates_of j (past ++ fate_of j past y ∷ []) items) y))
decided_from j past (y ∷ items) (suc k) x get n is =
    subst (λ (l : List Fate). Decided j l n x) (append_assoc past (fate_of j past y ∷ []) (fates_of j (past ++ fate_of j past y ∷ []) items))
    (decided_from j (past ++ fate_of j past y ∷ []) items k x get n (omega (arith, is, length_push past (fate_of j past y))))

pub is_history : (j : Joining) (items : List Item) → IsHistory j items (history j items)
is_history j items =
    let same : fates_of j [] items ≡ history j items = sym (history_from j [] items) in
    subst (λ (fates : List Fate). IsHistory j items fates) same (record { count = count_of j [] items; decided = λ k x get. decided_from j [] items k x get k (omega arith) })

some_is : (a b : Fate) → Some a ≡ Some b → a ≡ b
some_is a b e = cc e

same_from : (j : Joining) (past : List Fate) (items : List Item) (rest : List Fate) → length rest ≡ length items
    → ((k : ℕ) (x : Item) → slice_get items k ≡ Some x → (n : ℕ) → n ≡ length past + k → Decided j (past ++ rest) n x) → rest ≡ fates_of j past items
same_from j past [] [] count decided = refl
same_from j past [] (f ∷ rest) count decided = absurd (omega (arith, count))
same_from j past (x ∷ items) [] count decided = absurd (omega (arith, count))
same_from j past (x ∷ items) (f ∷ rest) count decided =
    let here : Decided j (past ++ f ∷ rest) (length past) x = decided 0 x refl (length past) (omega arith) in
    let same : f ≡ fate_of j past x =
    some_is f (fate_of j past x) (sym (get_at past rest f) ∙ here ∙ ap (λ (l : List Fate). Some (fate_of j l x)) (take_at past (f ∷ rest) (length past) refl)) in
    let more : rest ≡ fates_of j (past ++ f ∷ []) items =
    same_from j (past ++ f ∷ []) items rest (omega (arith, count))
    (λ k y get n is. subst (λ (l : List Fate). Decided j l n y) (sym (append_assoc past (f ∷ []) rest)) (decided (suc k) y get n (omega (arith, is, length_push past f)))) in
    ap (λ (l : List Fate). f ∷ l) more ∙ ap (λ (g : Fate). g ∷ fates_of j (past ++ g ∷ []) items) same

pub one_history : (j : Joining) (items : List Item) (fates : List Fate) → IsHistory j items fates → fates ≡ history j items
one_history j items fates is =
    same_from j [] items fates is.count (λ k x get n n_is. (let here : n ≡ k = omega (arith, n_is) in subst (λ (m : ℕ). Decided j fates m x) (sym here) (is.decided k x get)))
    ∙ sym (history_from j [] items)
