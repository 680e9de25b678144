-- The groups that a list of entries makes, and one entry more.
use Rattle.std.proofs.Common.{◌≡◌, ℕ, suc, Bool, true, false, cond, List, [], ◌∷◌, ◌++◌, length, refl, sym, ap, ◌∙◌, arith}
use Rattle.std.specs.Prelude.{filter, not, bytes_eq, flat_map}
use Rattle.std.proofs.lemmas.List.{append-nil, length_push, flat_map_more}
use Rattle.std.proofs.lemmas.List.Elements.{filter-append}
use Rattle.entry_model.specs.LogRecord.{LogRecord}
use Rattle.recombine.specs.Group.{Group}
use Rattle.recombine.specs.Item.{Item}
use Rattle.recombine.specs.Joining.{Joining}
use Rattle.recombine.specs.Positions.{has_source, of_source, of_others, last_entry, group_of, groups_of}
use Rattle.recombine.specs.Sources.{is_of, own, others}
use Rattle.recombine.specs.Steps.{opened, with_item, joined}
use Rattle.recombine.proofs.FilterLemmas.{takes, leaves, filter_comm, filter_wider}
use Rattle.recombine.proofs.TableLemmas.{same_source, is_same, other_source}

pub groups_cons : (j : Joining) (x : Item) (items : List Item) → groups_of j (x ∷ items) ≡ group_of j x (of_source x.source items) ∷ others x.source (groups_of j items)
unfolding groups_of
groups_cons j x items = refl

pub groups_nil : (j : Joining) → groups_of j [] ≡ []
unfolding groups_of
groups_nil j = refl

-- ---- by a test of sources

module _ (p : List ℕ → Bool) where
  abbrev on_item : Item → Bool
  on_item x = p x.source

  abbrev on_group : Group → Bool
  on_group g = p g.source

  same_test : (s t : List ℕ) → bytes_eq s t ≡ true → p t ≡ p s
  same_test s t e = ap p (sym (same_source s t e))

  -- what passes is of another source than one that doesn't
  not_its_own : (s : List ℕ) → p s ≡ false → (g : Group) → p g.source ≡ true → not (bytes_eq s g.source) ≡ true
  not_its_own s fails g passes = by_test (bytes_eq s g.source) refl
    where
      by_test : (a : Bool) → bytes_eq s g.source ≡ a → not (bytes_eq s g.source) ≡ true
      by_test true is = absurd (cc (same_test s g.source is, fails, passes))
      by_test false is = rw is refl

  pub groups_filter : (j : Joining) (items : List Item) → groups_of j (filter on_item items) ≡ filter on_group (groups_of j items)
  groups_filter j [] = groups_nil j ∙ sym (ap (filter on_group) (groups_nil j))
  groups_filter j (x ∷ items) = by_test (groups_filter j items) (p x.source) refl
    where
      by_test : groups_of j (filter on_item items) ≡ filter on_group (groups_of j items) → (a : Bool) → p x.source ≡ a → groups_of j (filter on_item (x ∷ items)) ≡ filter on_group (groups_of j (x ∷ items))
      by_test more true is =
          let its_own : of_source x.source (filter on_item items) ≡ of_source x.source items =
          filter_comm (has_source x.source) on_item items ∙ filter_wider (has_source x.source) on_item (λ y e. same_test x.source y.source e ∙ is) items in
          let rest : others x.source (groups_of j (filter on_item items)) ≡ filter on_group (others x.source (groups_of j items)) =
          ap (others x.source) (more) ∙ filter_comm (λ (g : Group). not (is_of x.source g)) on_group (groups_of j items) in
          ap (groups_of j) (ap (λ (b : Bool). cond b (x ∷ filter on_item items) (filter on_item items)) is) ∙ groups_cons j x (filter on_item items)
          ∙ ap (λ (ys : List Item). group_of j x ys ∷ others x.source (groups_of j (filter on_item items))) its_own
          ∙ ap (λ (gs : List Group). group_of j x (of_source x.source items) ∷ gs) rest
          ∙ sym (ap (λ (b : Bool). cond b (group_of j x (of_source x.source items) ∷ filter on_group (others x.source (groups_of j items))) (filter on_group (others x.source (groups_of j items)))) is)
          ∙ sym (ap (filter on_group) (groups_cons j x items))
      by_test more false is =
          ap (groups_of j) (ap (λ (b : Bool). cond b (x ∷ filter on_item items) (filter on_item items)) is) ∙ more
          ∙ sym (filter_wider on_group (λ (g : Group). not (is_of x.source g)) (not_its_own x.source is) (groups_of j items))
          ∙ filter_comm (λ (g : Group). not (is_of x.source g)) on_group (groups_of j items)
          ∙ sym (ap (λ (b : Bool). cond b (group_of j x (of_source x.source items) ∷ filter on_group (others x.source (groups_of j items))) (filter on_group (others x.source (groups_of j items)))) is)
          ∙ sym (ap (filter on_group) (groups_cons j x items))

pub own_groups : (j : Joining) (s : List ℕ) (items : List Item) → own s (groups_of j items) ≡ groups_of j (of_source s items)
own_groups j s items = sym (groups_filter (bytes_eq s) j items)

pub others_groups : (j : Joining) (s : List ℕ) (items : List Item) → others s (groups_of j items) ≡ groups_of j (of_others s items)
others_groups j s items = sym (groups_filter (λ (t : List ℕ). not (bytes_eq s t)) j items)

-- ---- one entry more in a group

same_group : (s : List ℕ) (m n : ℕ) (t u : List ℕ) (d e : LogRecord) → m ≡ n → t ≡ u → d ≡ e
    → (let one : Group = record { source = s; entries = m; text = t; base = d } in let other : Group = record { source = s; entries = n; text = u; base = e } in one ≡ other)
same_group s m n t u d e same_count same_text same_base = rw (same_count, same_text, same_base) refl

last_more : (e : LogRecord) (later : List Item) (x : Item) → last_entry e (later ++ x ∷ []) ≡ x.entry
last_more e [] x = refl
last_more e (y ∷ later) x = last_more y.entry later x

base_more : (newest : Bool) (y : Item) (later : List Item) (x : Item) → cond newest (last_entry y.entry (later ++ x ∷ [])) y.entry ≡ cond newest x.entry (cond newest (last_entry y.entry later) y.entry)
base_more true y later x = last_more y.entry later x
base_more false y later x = refl

base_one : (newest : Bool) (e : LogRecord) → cond newest e e ≡ e
base_one true e = refl
base_one false e = refl

pub group_one : (j : Joining) (x : Item) → group_of j x [] ≡ opened x
group_one j x = same_group x.source 1 1 (x.text ++ []) x.text (cond j.newest x.entry x.entry) x.entry refl (append-nil x.text) (base_one j.newest x.entry)

pub group_more : (j : Joining) (y : Item) (later : List Item) (x : Item) → group_of j y (later ++ x ∷ []) ≡ with_item j (group_of j y later) x
group_more j y later x =
    same_group y.source (suc (length (later ++ x ∷ []))) (suc (suc (length later)))
    (y.text ++ flat_map (λ (z : Item). j.separator ++ z.text) (later ++ x ∷ []))
    ((y.text ++ flat_map (λ (z : Item). j.separator ++ z.text) later) ++ (j.separator ++ x.text))
    (cond j.newest (last_entry y.entry (later ++ x ∷ [])) y.entry) (cond j.newest x.entry (cond j.newest (last_entry y.entry later) y.entry))
    (omega (arith, length_push later x))
    (sym (flat_map_more (λ (z : Item). j.separator ++ z.text) y.text later x))
    (base_more j.newest y later x)

-- ---- one entry more in a table

joined_here : (j : Joining) (g : Group) (gs : List Group) (x : Item) → is_of x.source g ≡ true → joined j (g ∷ gs) x ≡ with_item j g x ∷ gs
joined_here j g gs x is = ap (λ (b : Bool). cond b (with_item j g x ∷ gs) (g ∷ joined j gs x)) is

joined_behind : (j : Joining) (g : Group) (gs : List Group) (x : Item) → is_of x.source g ≡ false → joined j (g ∷ gs) x ≡ g ∷ joined j gs x
joined_behind j g gs x is = ap (λ (b : Bool). cond b (with_item j g x ∷ gs) (g ∷ joined j gs x)) is

-- of its own source it changes nothing among the others
others_joined_own : (j : Joining) (s : List ℕ) (x : Item) → bytes_eq s x.source ≡ true → (gs : List Group) → others s (joined j gs x) ≡ others s gs
others_joined_own j s x same [] = rw same refl
others_joined_own j s x same (g ∷ gs) = by_test (others_joined_own j s x same gs) (is_of x.source g) refl
  where
    by_test : others s (joined j gs x) ≡ others s gs → (a : Bool) → is_of x.source g ≡ a → others s (joined j (g ∷ gs) x) ≡ others s (g ∷ gs)
    by_test more true is =
        let its_own : bytes_eq s g.source ≡ true = is_same s g.source (same_source s x.source same ∙ same_source x.source g.source is) in
        ap (others s) (joined_here j g gs x is) ∙ leaves (λ (h : Group). not (is_of s h)) (with_item j g x) gs (ap not its_own) ∙ sym (leaves (λ (h : Group). not (is_of s h)) g gs (ap not its_own))
    by_test more false is = ap (others s) (joined_behind j g gs x is) ∙ ap (λ (ys : List Group). cond (not (is_of s g)) (g ∷ ys) ys) more

-- of another source it is among the others
others_joined_other : (j : Joining) (s : List ℕ) (x : Item) → bytes_eq s x.source ≡ false → (gs : List Group) → others s (joined j gs x) ≡ joined j (others s gs) x
others_joined_other j s x differs [] = rw differs refl
others_joined_other j s x differs (g ∷ gs) = by_test (others_joined_other j s x differs gs) (is_of x.source g) refl
  where
    by_source : others s (joined j gs x) ≡ joined j (others s gs) x → is_of x.source g ≡ false → (b : Bool) → is_of s g ≡ b → others s (g ∷ joined j gs x) ≡ joined j (others s (g ∷ gs)) x
    by_source more isnt true is =
        leaves (λ (h : Group). not (is_of s h)) g (joined j gs x) (ap not is) ∙ more ∙ ap (λ (ys : List Group). joined j ys x) (sym (leaves (λ (h : Group). not (is_of s h)) g gs (ap not is)))
    by_source more isnt false is =
        takes (λ (h : Group). not (is_of s h)) g (joined j gs x) (ap not is) ∙ ap (λ (ys : List Group). g ∷ ys) more ∙ sym (joined_behind j g (others s gs) x isnt)
        ∙ ap (λ (ys : List Group). joined j ys x) (sym (takes (λ (h : Group). not (is_of s h)) g gs (ap not is)))

    by_test : others s (joined j gs x) ≡ joined j (others s gs) x → (a : Bool) → is_of x.source g ≡ a → others s (joined j (g ∷ gs) x) ≡ joined j (others s (g ∷ gs)) x
    by_test more true is =
        let other : bytes_eq s g.source ≡ false = ap (bytes_eq s) (sym (same_source x.source g.source is)) ∙ differs in
        ap (others s) (joined_here j g gs x is) ∙ takes (λ (h : Group). not (is_of s h)) (with_item j g x) gs (ap not other) ∙ sym (joined_here j g (others s gs) x is)
        ∙ ap (λ (ys : List Group). joined j ys x) (sym (takes (λ (h : Group). not (is_of s h)) g gs (ap not other)))
    by_test more false is = ap (others s) (joined_behind j g gs x is) ∙ by_source more is (is_of s g) refl

source_more : (s : List ℕ) (ys : List Item) (x : Item) → of_source s (ys ++ x ∷ []) ≡ of_source s ys ++ cond (bytes_eq s x.source) (x ∷ []) []
source_more s ys x = filter-append (has_source s) ys (x ∷ [])

pub joined_groups : (j : Joining) (xs : List Item) (x : Item) → joined j (groups_of j xs) x ≡ groups_of j (xs ++ x ∷ [])
joined_groups j [] x =
    ap (λ (gs : List Group). joined j gs x) (groups_nil j) ∙ ap (λ (g : Group). g ∷ []) (sym (group_one j x))
    ∙ ap (λ (gs : List Group). group_of j x [] ∷ others x.source gs) (sym (groups_nil j)) ∙ sym (groups_cons j x [])
joined_groups j (y ∷ ys) x = by_test (joined_groups j ys x) (bytes_eq x.source y.source) refl
  where
    by_test : joined j (groups_of j ys) x ≡ groups_of j (ys ++ x ∷ []) → (a : Bool) → bytes_eq x.source y.source ≡ a → joined j (groups_of j (y ∷ ys)) x ≡ groups_of j (y ∷ (ys ++ x ∷ []))
    by_test more true is =
        let back : bytes_eq y.source x.source ≡ true = is_same y.source x.source (sym (same_source x.source y.source is)) in
        let sources : of_source y.source (ys ++ x ∷ []) ≡ of_source y.source ys ++ x ∷ [] =
        source_more y.source ys x ∙ ap (λ (b : Bool). of_source y.source ys ++ cond b (x ∷ []) []) back in
        ap (λ (gs : List Group). joined j gs x) (groups_cons j y ys)
        ∙ ap (λ (b : Bool). cond b (with_item j (group_of j y (of_source y.source ys)) x ∷ others y.source (groups_of j ys)) (group_of j y (of_source y.source ys) ∷ joined j (others y.source (groups_of j ys)) x)) is
        ∙ ap (λ (g : Group). g ∷ others y.source (groups_of j ys)) (sym (group_more j y (of_source y.source ys) x) ∙ ap (group_of j y) (sym sources))
        ∙ ap (λ (gs : List Group). group_of j y (of_source y.source (ys ++ x ∷ [])) ∷ gs)
        (sym (others_joined_own j y.source x back (groups_of j ys)) ∙ ap (others y.source) more)
        ∙ sym (groups_cons j y (ys ++ x ∷ []))
    by_test more false is =
        let back : bytes_eq y.source x.source ≡ false = other_source x.source y.source is in
        let sources : of_source y.source (ys ++ x ∷ []) ≡ of_source y.source ys =
        source_more y.source ys x ∙ ap (λ (b : Bool). of_source y.source ys ++ cond b (x ∷ []) []) back ∙ append-nil (of_source y.source ys) in
        ap (λ (gs : List Group). joined j gs x) (groups_cons j y ys)
        ∙ ap (λ (b : Bool). cond b (with_item j (group_of j y (of_source y.source ys)) x ∷ others y.source (groups_of j ys)) (group_of j y (of_source y.source ys) ∷ joined j (others y.source (groups_of j ys)) x)) is
        ∙ ap (λ (gs : List Group). group_of j y (of_source y.source ys) ∷ gs) (sym (others_joined_other j y.source x back (groups_of j ys)) ∙ ap (others y.source) more)
        ∙ ap (λ (zs : List Item). group_of j y zs ∷ others y.source (groups_of j (ys ++ x ∷ []))) (sym sources)
        ∙ sym (groups_cons j y (ys ++ x ∷ []))
