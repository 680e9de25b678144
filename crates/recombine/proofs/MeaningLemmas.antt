-- The four steps over the groups of those that are alive are what is decided by positions.
use Rattle.std.proofs.Common.{◌≡◌, ℕ, Bool, true, false, cond, List, [], ◌∷◌, ◌++◌, length, refl, sym, ap, ◌∙◌}
use Rattle.std.specs.Prelude.{filter, not, fold, ◌||◌, ◌&&◌}
use Rattle.std.specs.List.{list_any}
use Rattle.std.proofs.lemmas.List.{append-nil}
use Rattle.std.proofs.lemmas.List.Elements.{filter-append}
use Rattle.std.proofs.lemmas.List.Folds.{list_any-append}
use Rattle.recombine.specs.Group.{Group}
use Rattle.recombine.specs.Item.{Item, is_first}
use Rattle.recombine.specs.Joining.{Joining}
use Rattle.recombine.specs.Positions.{has_source, of_source, of_others, group_of, groups_of, Fate, is_over, alive, alive_at, flushes, kept, members, ends, fate_of, history, sent_at, open_at_end}
use Rattle.recombine.specs.Sources.{is_of, own, others}
use Rattle.recombine.specs.Steps.{after_mark, ended_by_mark, joined, are_too_many, has_no_room, after_room, ended_by_room, is_done, after_end, ended_by_end, with_room, with_joined, after, ended}
use Rattle.recombine.proofs.FilterLemmas.{filter_ext, filter_all, filter_none, filter_wider, filter_and, takes, leaves, but_passing, but_failing}
use Rattle.recombine.proofs.GroupLemmas.{groups_cons, groups_nil, own_groups, others_groups, joined_groups}
use Rattle.recombine.proofs.TableLemmas.{same_source, is_same}

-- ---- one fate more

-- it puts an entry in front of it out
abbrev pub puts_out : Fate → Item → Bool
puts_out f i = (f.ends && has_source f.item.source i) || ((f.first && has_source f.item.source i) || f.flush)

regroup : (a b p c q d r : Bool) → (a || (b || (p || false))) || ((c || (q || false)) || (d || (r || false))) ≡ (((a || b) || (c || d)) || (p || (q || r)))
regroup true b p c q d r = refl
regroup false true p c q d r = refl
regroup false false p true q d r = last_true p
  where
    last_true : (p : Bool) → ((p || false) || true) ≡ true
    last_true true = refl
    last_true false = refl
regroup false false true false q true r = refl
regroup false false true false q false r = refl
regroup false false false false true true r = refl
regroup false false false false true false r = refl
regroup false false false false false true r = refl
regroup false false false false false false true = refl
regroup false false false false false false false = refl

over_more : (fate : Fate) (later : List Fate) (f : Fate) → is_over fate (later ++ f ∷ []) ≡ (is_over fate later || puts_out f fate.item)
over_more fate later f =
    let ended : Fate → Bool = λ other. other.ends && has_source other.item.source fate.item in
    let begun : Fate → Bool = λ other. other.first && has_source other.item.source fate.item in
    let flushed : Fate → Bool = λ other. other.flush in
    ap (λ (b : Bool). (ended fate || b) || (list_any begun (later ++ f ∷ []) || list_any flushed (later ++ f ∷ []))) (list_any-append ended later (f ∷ []))
    ∙ ap (λ (b : Bool). (ended fate || (list_any ended later || (ended f || false))) || (b || list_any flushed (later ++ f ∷ []))) (list_any-append begun later (f ∷ []))
    ∙ ap (λ (b : Bool). (ended fate || (list_any ended later || (ended f || false))) || ((list_any begun later || (begun f || false)) || b)) (list_any-append flushed later (f ∷ []))
    ∙ regroup (ended fate) (list_any ended later) (ended f) (list_any begun later) (begun f) (list_any flushed later) (flushed f)

pub alive_cons : (fate : Fate) (later : List Fate) → alive (fate ∷ later) ≡ cond (is_over fate later) (alive later) (fate.item ∷ alive later)
unfolding alive
alive_cons fate later = refl

pub alive_nil : alive [] ≡ []
unfolding alive
alive_nil = refl

-- those that stay in front of a fate, and its own entry where it stays
abbrev stays : Fate → Item → Bool
stays f i = not (puts_out f i)

abbrev itself : Fate → List Item
itself f = cond f.ends [] (f.item ∷ [])

over_alone : (f : Fate) → is_over f [] ≡ f.ends
over_alone f = ap (λ (b : Bool). ((f.ends && b) || false) || (false || false)) (is_same f.item.source f.item.source refl) ∙ by_end f.ends
  where
    by_end : (b : Bool) → (((b && true) || false) || (false || false)) ≡ b
    by_end true = refl
    by_end false = refl

pub alive_more : (past : List Fate) (f : Fate) → alive (past ++ f ∷ []) ≡ filter (stays f) (alive past) ++ itself f
alive_more [] f =
    alive_cons f [] ∙ ap (λ (b : Bool). cond b (alive []) (f.item ∷ alive [])) (over_alone f) ∙ ap (λ (xs : List Item). cond f.ends xs (f.item ∷ xs)) alive_nil
    ∙ ap (λ (xs : List Item). filter (stays f) xs ++ itself f) (sym alive_nil)
alive_more (fate ∷ past) f = by_test (alive_more past f) (is_over fate past) refl (puts_out f fate.item) refl
  where
    by_test : alive (past ++ f ∷ []) ≡ filter (stays f) (alive past) ++ itself f → (a : Bool) → is_over fate past ≡ a → (b : Bool) → puts_out f fate.item ≡ b
        → alive (fate ∷ (past ++ f ∷ [])) ≡ filter (stays f) (alive (fate ∷ past)) ++ itself f
    by_test more true is b puts =
        let over : is_over fate (past ++ f ∷ []) ≡ true = over_more fate past f ∙ ap (λ (c : Bool). c || puts_out f fate.item) is in
        let before : alive (fate ∷ past) ≡ alive past = alive_cons fate past ∙ ap (λ (c : Bool). cond c (alive past) (fate.item ∷ alive past)) is in
        alive_cons fate (past ++ f ∷ []) ∙ ap (λ (c : Bool). cond c (alive (past ++ f ∷ [])) (fate.item ∷ alive (past ++ f ∷ []))) over ∙ more
        ∙ ap (λ (xs : List Item). filter (stays f) xs ++ itself f) (sym before)
    by_test more false is true puts =
        let over : is_over fate (past ++ f ∷ []) ≡ true = over_more fate past f ∙ ap (λ (c : Bool). c || puts_out f fate.item) is ∙ puts in
        let before : alive (fate ∷ past) ≡ fate.item ∷ alive past = alive_cons fate past ∙ ap (λ (c : Bool). cond c (alive past) (fate.item ∷ alive past)) is in
        alive_cons fate (past ++ f ∷ []) ∙ ap (λ (c : Bool). cond c (alive (past ++ f ∷ [])) (fate.item ∷ alive (past ++ f ∷ []))) over ∙ more
        ∙ ap (λ (xs : List Item). xs ++ itself f) (sym (leaves (stays f) fate.item (alive past) (ap not puts)) ∙ ap (filter (stays f)) (sym before))
    by_test more false is false puts =
        let over : is_over fate (past ++ f ∷ []) ≡ false = over_more fate past f ∙ ap (λ (c : Bool). c || puts_out f fate.item) is ∙ puts in
        let before : alive (fate ∷ past) ≡ fate.item ∷ alive past = alive_cons fate past ∙ ap (λ (c : Bool). cond c (alive past) (fate.item ∷ alive past)) is in
        alive_cons fate (past ++ f ∷ []) ∙ ap (λ (c : Bool). cond c (alive (past ++ f ∷ [])) (fate.item ∷ alive (past ++ f ∷ []))) over ∙ ap (λ (xs : List Item). fate.item ∷ xs) more
        ∙ ap (λ (xs : List Item). xs ++ itself f) (sym (takes (stays f) fate.item (alive past) (ap not puts)) ∙ ap (filter (stays f)) (sym before))

-- ---- the two cuts of those that are alive are the same

module _ (s : List ℕ) where
  abbrev stays_by : Bool → Bool → Bool → Item → Bool
  stays_by first flush ends i = not ((ends && has_source s i) || ((first && has_source s i) || flush))

  abbrev kept_by : Bool → Bool → List Item → List Item
  kept_by first flush xs = cond flush [] (cond first (of_others s xs) xs)

  abbrev others_of : List Item → List Item
  others_of xs = of_others s xs

  put_out_all : (a b : Bool) → not (a || (b || true)) ≡ false
  put_out_all true b = refl
  put_out_all false true = refl
  put_out_all false false = refl

  once : (b : Bool) → not (false || ((true && b) || false)) ≡ not b
  once true = refl
  once false = refl

  twice : (b : Bool) → not ((true && b) || ((true && b) || false)) ≡ not b
  twice true = refl
  twice false = refl

  at_end : (b : Bool) → not ((true && b) || ((false && b) || false)) ≡ not b
  at_end true = refl
  at_end false = refl

  others_again : (xs : List Item) → of_others s (of_others s xs) ≡ of_others s xs
  others_again xs = filter_wider (λ (x : Item). not (has_source s x)) (λ (x : Item). not (has_source s x)) (λ x is. is) xs

  pub cuts_agree : (first flush ends : Bool) (xs : List Item) → filter (stays_by first flush ends) xs ≡ cond ends (others_of (kept_by first flush xs)) (kept_by first flush xs)
  cuts_agree first true true xs = filter_none (stays_by first true true) (λ i. put_out_all (true && has_source s i) (first && has_source s i)) xs
  cuts_agree first true false xs = filter_none (stays_by first true false) (λ i. put_out_all (false && has_source s i) (first && has_source s i)) xs
  cuts_agree true false true xs = filter_ext (stays_by true false true) (λ (x : Item). not (has_source s x)) (λ i. twice (has_source s i)) xs ∙ sym (others_again xs)
  cuts_agree true false false xs = filter_ext (stays_by true false false) (λ (x : Item). not (has_source s x)) (λ i. once (has_source s i)) xs
  cuts_agree false false true xs = filter_ext (stays_by false false true) (λ (x : Item). not (has_source s x)) (λ i. at_end (has_source s i)) xs
  cuts_agree false false false xs = filter_all (stays_by false false false) (λ i. refl) xs

-- ---- the steps, one by one

mark_is : (j : Joining) (past : List Fate) (x : Item) → after_mark j (groups_of j (alive past)) x ≡ groups_of j (alive_at j past x)
unfolding after_mark
mark_is j past x = by_test (is_first j x)
  where
    by_test : (b : Bool) → cond b (others x.source (groups_of j (alive past))) (groups_of j (alive past)) ≡ groups_of j (cond b (of_others x.source (alive past)) (alive past))
    by_test true = others_groups j x.source (alive past)
    by_test false = refl

marked_is : (j : Joining) (past : List Fate) (x : Item) → ended_by_mark j (groups_of j (alive past)) x ≡ cond (is_first j x) (groups_of j (of_source x.source (alive past))) []
unfolding ended_by_mark
marked_is j past x = ap (λ (gs : List Group). cond (is_first j x) gs []) (own_groups j x.source (alive past))

room_is : (j : Joining) (past : List Fate) (x : Item) → has_no_room j (groups_of j (alive_at j past x)) x ≡ flushes j past x
unfolding has_no_room
room_is j past x = ap are_too_many (joined_groups j (alive_at j past x) x)

cond_groups : (j : Joining) (b : Bool) (xs : List Item) → cond b [] (groups_of j xs) ≡ groups_of j (cond b [] xs)
cond_groups j true xs = sym (groups_nil j)
cond_groups j false xs = refl

roomy_is : (j : Joining) (past : List Fate) (x : Item) → after_room j (groups_of j (alive_at j past x)) x ≡ groups_of j (kept j past x)
unfolding after_room
roomy_is j past x = ap (λ (b : Bool). cond b [] (groups_of j (alive_at j past x))) (room_is j past x) ∙ cond_groups j (flushes j past x) (alive_at j past x)

flushed_is : (j : Joining) (past : List Fate) (x : Item) → ended_by_room j (groups_of j (alive_at j past x)) x ≡ cond (flushes j past x) (groups_of j (alive_at j past x)) []
unfolding ended_by_room
flushed_is j past x = ap (λ (b : Bool). cond b (groups_of j (alive_at j past x)) []) (room_is j past x)

with_room_is : (j : Joining) (past : List Fate) (x : Item) → with_room j (groups_of j (alive past)) x ≡ groups_of j (kept j past x)
with_room_is j past x = ap (λ (gs : List Group). after_room j gs x) (mark_is j past x) ∙ roomy_is j past x

joined_is : (j : Joining) (past : List Fate) (x : Item) → with_joined j (groups_of j (alive past)) x ≡ groups_of j (kept j past x ++ x ∷ [])
joined_is j past x = ap (λ (gs : List Group). joined j gs x) (with_room_is j past x) ∙ joined_groups j (kept j past x) x

-- ---- the one group of a source

-- all are of the source
abbrev AreOf : List ℕ → List Item → Type 0
AreOf s [] = Unit {0}
AreOf s (x ∷ xs) = (has_source s x ≡ true) × AreOf s xs

of_append : (s : List ℕ) (xs ys : List Item) → AreOf s xs → AreOf s ys → AreOf s (xs ++ ys)
of_append s [] ys front back = back
of_append s (x ∷ xs) ys front back = (front.0, of_append s xs ys front.1 back)

of_filter : (s : List ℕ) (xs : List Item) → AreOf s (of_source s xs)
of_filter s [] = tt
of_filter s (x ∷ xs) = by_test (of_filter s xs) (has_source s x) refl
  where
    by_test : AreOf s (of_source s xs) → (b : Bool) → has_source s x ≡ b → AreOf s (cond b (x ∷ of_source s xs) (of_source s xs))
    by_test more true is = (is, more)
    by_test more false is = more

all_own : (s : List ℕ) (xs : List Item) → AreOf s xs → of_source s xs ≡ xs
all_own s [] are = refl
all_own s (x ∷ xs) are = takes (has_source s) x xs are.0 ∙ ap (λ (ys : List Item). x ∷ ys) (all_own s xs are.1)

no_others : (s : List ℕ) (xs : List Item) → AreOf s xs → of_others s xs ≡ []
no_others s [] are = refl
no_others s (x ∷ xs) are = leaves (λ (y : Item). not (has_source s y)) x xs (ap not are.0) ∙ no_others s xs are.1

one_group : (j : Joining) (s : List ℕ) (x : Item) (xs : List Item) → AreOf s (x ∷ xs) → groups_of j (x ∷ xs) ≡ group_of j x xs ∷ []
one_group j s x xs are =
    let same : s ≡ x.source = same_source s x.source are.0 in
    groups_cons j x xs
    ∙ ap (λ (t : List ℕ). group_of j x (of_source t xs) ∷ others t (groups_of j xs)) (sym same)
    ∙ ap (λ (ys : List Item). group_of j x ys ∷ others s (groups_of j xs)) (all_own s xs are.1)
    ∙ ap (λ (gs : List Group). group_of j x xs ∷ gs) (others_groups j s xs ∙ ap (groups_of j) (no_others s xs are.1) ∙ groups_nil j)

-- a group with so many entries
record Counts (j : Joining) (items : List Item) : Type 0 where
  group : Group
  alone : groups_of j items ≡ group ∷ []
  counted : group.entries ≡ length items

counts : (j : Joining) (s : List ℕ) (xs : List Item) (x : Item) → AreOf s xs → has_source s x ≡ true → Counts j (xs ++ x ∷ [])
counts j s [] x are is = record { group = group_of j x []; alone = one_group j s x [] (is, tt); counted = refl }
counts j s (y ∷ ys) x are is = record { group = group_of j y (ys ++ x ∷ []); alone = one_group j s y (ys ++ x ∷ []) (are.0, of_append s ys (x ∷ []) are.1 (is, tt)); counted = refl }

-- ---- the last step

module _ (j : Joining) (past : List Fate) (x : Item) where
  abbrev all_then : List Item
  all_then = kept j past x ++ x ∷ []

  own_then : own x.source (groups_of j all_then) ≡ groups_of j (members j past x)
  own_then =
      own_groups j x.source all_then
      ∙ ap (groups_of j) (filter-append (has_source x.source) (kept j past x) (x ∷ [])
      ∙ ap (λ (b : Bool). of_source x.source (kept j past x) ++ cond b (x ∷ []) []) (is_same x.source x.source refl))

  others_then : others x.source (groups_of j all_then) ≡ groups_of j (of_others x.source (kept j past x))
  others_then =
      others_groups j x.source all_then
      ∙ ap (groups_of j) (filter-append (λ (y : Item). not (has_source x.source y)) (kept j past x) (x ∷ [])
      ∙ ap (λ (b : Bool). of_others x.source (kept j past x) ++ cond (not b) (x ∷ []) []) (is_same x.source x.source refl)
      ∙ append-nil (of_others x.source (kept j past x)))

  its_group : Counts j (members j past x)
  its_group = counts j x.source (of_source x.source (kept j past x)) x (of_filter x.source (kept j past x)) (is_same x.source x.source refl)

  done : Group → Bool
  done g = is_done j x g.entries

  alone_then : own x.source (groups_of j all_then) ≡ its_group.group ∷ []
  alone_then = own_then ∙ its_group.alone

  done_is : is_done j x its_group.group.entries ≡ ends j past x
  done_is = ap (is_done j x) its_group.counted

  ended_is : ended_by_end j (groups_of j all_then) x ≡ cond (ends j past x) (groups_of j (members j past x)) []
  unfolding ended_by_end
  ended_is =
      filter_and (is_of x.source) (λ (g : Group). is_done j x g.entries) (groups_of j all_then) ∙ ap (filter (λ (g : Group). is_done j x g.entries)) alone_then
      ∙ ap (λ (b : Bool). cond b (its_group.group ∷ []) []) done_is ∙ ap (λ (gs : List Group). cond (ends j past x) gs []) (sym its_group.alone)

  left_is : after_end j (groups_of j all_then) x ≡ groups_of j (cond (ends j past x) (of_others x.source (kept j past x)) all_then)
  unfolding after_end
  left_is = by_end (ends j past x) refl
    where
      by_end : (b : Bool) → ends j past x ≡ b → after_end j (groups_of j all_then) x ≡ groups_of j (cond b (of_others x.source (kept j past x)) all_then)
      by_end true is = but_passing (is_of x.source) (λ (g : Group). is_done j x g.entries) its_group.group (done_is ∙ is) (groups_of j all_then) alone_then ∙ others_then
      by_end false is = but_failing (is_of x.source) (λ (g : Group). is_done j x g.entries) its_group.group (done_is ∙ is) (groups_of j all_then) alone_then

  alive_then : alive (past ++ fate_of j past x ∷ []) ≡ cond (ends j past x) (of_others x.source (kept j past x)) all_then
  alive_then =
      alive_more past (fate_of j past x)
      ∙ ap (λ (xs : List Item). xs ++ cond (ends j past x) [] (x ∷ [])) (cuts_agree x.source (is_first j x) (flushes j past x) (ends j past x) (alive past)) ∙ by_end (ends j past x)
    where
      by_end : (b : Bool) → cond b (of_others x.source (kept j past x)) (kept j past x) ++ cond b [] (x ∷ []) ≡ cond b (of_others x.source (kept j past x)) all_then
      by_end true = append-nil (of_others x.source (kept j past x))
      by_end false = refl

  -- ---- all four steps

  pub after_is : after j (groups_of j (alive past)) x ≡ groups_of j (alive (past ++ fate_of j past x ∷ []))
  after_is = ap (λ (gs : List Group). after_end j gs x) (joined_is j past x) ∙ left_is ∙ ap (groups_of j) (sym alive_then)

  pub sent_is : ended j (groups_of j (alive past)) x ≡ sent_at j past x
  sent_is =
      ap (λ (gs : List Group). gs ++ (ended_by_room j (after_mark j (groups_of j (alive past)) x) x ++ ended_by_end j (with_joined j (groups_of j (alive past)) x) x)) (marked_is j past x)
      ∙ ap (λ (gs : List Group). cond (is_first j x) (groups_of j (of_source x.source (alive past))) [] ++ (gs ++ ended_by_end j (with_joined j (groups_of j (alive past)) x) x))
      (ap (λ (gs : List Group). ended_by_room j gs x) (mark_is j past x) ∙ flushed_is j past x)
      ∙ ap (λ (gs : List Group). cond (is_first j x) (groups_of j (of_source x.source (alive past))) [] ++ (cond (flushes j past x) (groups_of j (alive_at j past x)) [] ++ gs))
      (ap (λ (gs : List Group). ended_by_end j gs x) (joined_is j past x) ∙ ended_is)

-- ---- a whole list

-- what is decided behind what was decided before
abbrev pub fates_from : Joining → List Fate → List Item → List Fate
fates_from j past items = fold (λ (fates : List Fate) (x : Item). fates ++ fate_of j fates x ∷ []) past items

run_from : (j : Joining) (past : List Fate) (items : List Item) → fold (after j) (groups_of j (alive past)) items ≡ groups_of j (alive (fates_from j past items))
run_from j past [] = refl
run_from j past (x ∷ items) =
    ap (λ (gs : List Group). fold (after j) gs items) (after_is j past x) ∙ run_from j (past ++ fate_of j past x ∷ []) items

pub none_open : (j : Joining) → [] ≡ groups_of j (alive [])
none_open j = sym (ap (groups_of j) alive_nil ∙ groups_nil j)

pub run_is : (j : Joining) (items : List Item) → fold (after j) [] items ≡ open_at_end j (history j items)
run_is j items = ap (λ (gs : List Group). fold (after j) gs items) (none_open j) ∙ run_from j [] items

pub sent_along : (j : Joining) (before : List Item) (x : Item) → ended j (fold (after j) [] before) x ≡ sent_at j (history j before) x
sent_along j before x = ap (λ (gs : List Group). ended j gs x) (run_is j before) ∙ sent_is j (history j before) x
