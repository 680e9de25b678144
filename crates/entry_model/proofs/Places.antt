-- What the place of a name among ascending members tells.
use denote.Param.Weighed.{most}
use Rattle.std.proofs.Common.{◌≡◌, ℕ, zero, suc, ◌<◌, ◌≤◌, Bool, true, false, cond, List, [], ◌∷◌, length, get_or, set, ◌-◌, ◌++◌, Some, None, Result, Ok, Err, IfOk, IfErr, refl, sym, ap, ◌∙◌, subst, inl, inr, arith}
use Rattle.std.proofs.lemmas.Bool.{cases_lt}
use Rattle.std.proofs.lemmas.List.{get_or_default}
use Rattle.std.specs.BTreeMap.{insert_entry, is_at}
use Rattle.std.specs.Cmp.Lexicographic.{nat_list_cmp_total}
use Rattle.std.specs.List.{AllByRecursion, HoldsAt, insert, items_where_true, remove, slice_get}
use Rattle.std.specs.List.Sorted.{IsStrictlySortedBy, IsSearchInRange, IsBinarySearchResult, IsNonDecreasingBy}
use Rattle.std.specs.Option.{is_some}
use Rattle.std.specs.Result.{OnErr, OnOk, is_ok}
use Rattle.std.specs.Map.{keys_of, values_of, lookup, remove_entry, set_value}
use Rattle.std.specs.Ordering.{is_eq, match_ordering, ordering_index, ordering_reverse}
use Rattle.std.specs.declared.cmp.Ordering.{Ordering}
use Rattle.std.specs.declared.cmp.Ordering.TheVariants.{Less, Equal, Greater}
use Rattle.entry_model.specs.ByName.{ByName}
use Rattle.entry_model.specs.Places.{name_cmp, NamesAscend, StandsAt, FitsAt, value_set_at}

every : {P Q : List ℕ → Type 0} → ((name : List ℕ) → P name → Q name) → (names : List (List ℕ)) → AllByRecursion P names → AllByRecursion Q names
every f [] a = tt
every f (name ∷ names) a = (f name a.0, every f names a.1)

behind : (x y : List ℕ) → name_cmp x y ≡ Less → name_cmp y x ≡ Greater
behind x y less = nat_list_cmp_total.antisymm y x ∙ ap ordering_reverse less

ahead : (x y : List ℕ) → name_cmp x y ≡ Greater → name_cmp y x ≡ Less
ahead x y greater = nat_list_cmp_total.antisymm y x ∙ ap ordering_reverse greater

tied : (x y : List ℕ) → name_cmp x y ≡ Equal → name_cmp y x ≡ Equal
tied x y equal = nat_list_cmp_total.antisymm y x ∙ ap ordering_reverse equal

abbrev is_named : List ℕ → List ℕ → Bool
is_named name = is_at (name_cmp name)

at_most : (o : Ordering) → ordering_index o ≤ 2
at_most Less = omega arith
at_most Equal = omega arith
at_most Greater = omega arith

ranked : (name x y : List ℕ) (o : Ordering) → name_cmp x y ≡ Less → name_cmp y name ≡ o → ordering_index (name_cmp x name) ≤ ordering_index o
ranked name x y Less less is =
    let first : ordering_index (name_cmp x name) ≡ 0 = ap ordering_index (nat_list_cmp_total.trans x y name less is) in
    let low : ordering_index (name_cmp x name) ≤ 0 = omega (arith, first) in
    low
ranked name x y Equal less is =
    let over : name_cmp name x ≡ Greater = sym (nat_list_cmp_total.congr y name x is) ∙ behind x y less in
    let first : ordering_index (name_cmp x name) ≡ 0 = ap ordering_index (ahead name x over) in
    let low : ordering_index (name_cmp x name) ≤ 1 = omega (arith, first) in
    low
ranked name x y Greater less is = at_most (name_cmp x name)

module _ {X : Type 0} (name : List ℕ) where
  -- ---- a name that stands

  pub stands_value : (es : List (List ℕ × X)) (at : ℕ) → StandsAt name es at → lookup (is_named name) es ≡ slice_get (values_of es) at
  stands_value [] at s = absurd s
  stands_value (e ∷ es) zero s = ap (λ (o : Ordering). cond (is_eq o) (Some e.1) (lookup (is_named name) es)) s
  stands_value (e ∷ es) (suc at) s = ap (λ (o : Ordering). cond (is_eq o) (Some e.1) (lookup (is_named name) es)) s.0 ∙ stands_value es at s.1

  pub stands_within : (es : List (List ℕ × X)) (at : ℕ) → StandsAt name es at → at < length es
  stands_within [] at s = absurd s
  stands_within (e ∷ es) zero s = omega arith
  stands_within (e ∷ es) (suc at) s = omega (arith, stands_within es at s.1)

  pub stands_removed : (es : List (List ℕ × X)) (at : ℕ) → StandsAt name es at → remove es at ≡ remove_entry (is_named name) es
  stands_removed [] at s = absurd s
  stands_removed (e ∷ es) zero s = sym (ap (λ (o : Ordering). cond (is_eq o) es (e ∷ remove_entry (is_named name) es)) s)
  stands_removed (e ∷ es) (suc at) s =
      ap (λ (l : List (List ℕ × X)). e ∷ l) (stands_removed es at s.1) ∙ sym (ap (λ (o : Ordering). cond (is_eq o) es (e ∷ remove_entry (is_named name) es)) s.0)

  pub stands_set : (es : List (List ℕ × X)) (at : ℕ) (w : X) → StandsAt name es at → value_set_at es at w ≡ set_value (is_named name) es w
  stands_set [] at w s = absurd s
  stands_set (e ∷ es) zero w s = sym (ap (λ (o : Ordering). cond (is_eq o) ((e.0, w) ∷ es) (e ∷ set_value (is_named name) es w)) s)
  stands_set (e ∷ es) (suc at) w s =
      ap (λ (l : List (List ℕ × X)). e ∷ l) (stands_set es at w s.1) ∙ sym (ap (λ (o : Ordering). cond (is_eq o) ((e.0, w) ∷ es) (e ∷ set_value (is_named name) es w)) s.0)

  pub stands_inserted : (es : List (List ℕ × X)) (at : ℕ) (w : X) → StandsAt name es at → value_set_at es at w ≡ insert_entry name_cmp es name w
  stands_inserted [] at w s = absurd s
  stands_inserted (e ∷ es) zero w s = sym (ap (λ (o : Ordering). match_ordering o ((name, w) ∷ e ∷ es) ((e.0, w) ∷ es) (e ∷ insert_entry name_cmp es name w)) s)
  stands_inserted (e ∷ es) (suc at) w s =
      ap (λ (l : List (List ℕ × X)). e ∷ l) (stands_inserted es at w s.1)
      ∙ sym (ap (λ (o : Ordering). match_ordering o ((name, w) ∷ e ∷ es) ((e.0, w) ∷ es) (e ∷ insert_entry name_cmp es name w)) s.0)

  -- ---- a name that is missing

  pub fits_inserted : (es : List (List ℕ × X)) (at : ℕ) (w : X) → FitsAt name es at → insert es at (name, w) ≡ insert_entry name_cmp es name w
  fits_inserted [] zero w f = refl
  fits_inserted [] (suc at) w f = absurd f
  fits_inserted (e ∷ es) zero w f = sym (ap (λ (o : Ordering). match_ordering o ((name, w) ∷ e ∷ es) ((e.0, w) ∷ es) (e ∷ insert_entry name_cmp es name w)) f)
  fits_inserted (e ∷ es) (suc at) w f =
      ap (λ (l : List (List ℕ × X)). e ∷ l) (fits_inserted es at w f.1)
      ∙ sym (ap (λ (o : Ordering). match_ordering o ((name, w) ∷ e ∷ es) ((e.0, w) ∷ es) (e ∷ insert_entry name_cmp es name w)) f.0)

  pub fits_within : (es : List (List ℕ × X)) (at : ℕ) → FitsAt name es at → at ≤ length es
  fits_within [] zero f = omega arith
  fits_within [] (suc at) f = absurd f
  fits_within (e ∷ es) zero f = omega arith
  fits_within (e ∷ es) (suc at) f = omega (arith, fits_within es at f.1)

  every_inserted : (P : List ℕ → Type 0) (w : X) (es : List (List ℕ × X)) (at : ℕ) → P name → AllByRecursion P (keys_of es) → AllByRecursion P (keys_of (insert es at (name, w)))
  every_inserted P w es zero p a = (p, a)
  every_inserted P w [] (suc at) p a = (p, tt)
  every_inserted P w (e ∷ es) (suc at) p a = (a.0, every_inserted P w es at p a.1)

  pub fits_ascends : (es : List (List ℕ × X)) (at : ℕ) (w : X) → NamesAscend es → FitsAt name es at → NamesAscend (insert es at (name, w))
  unfolding IsStrictlySortedBy
  fits_ascends [] zero w s f = (tt, tt)
  fits_ascends [] (suc at) w s f = absurd f
  fits_ascends (e ∷ es) zero w s f = ((f, every (λ y h. nat_list_cmp_total.trans name e.0 y f h) (keys_of es) s.0), s)
  fits_ascends (e ∷ es) (suc at) w s f = (every_inserted (λ y. name_cmp e.0 y ≡ Less) w es at (ahead name e.0 f.0) s.0, fits_ascends es at w s.1 f.1)

  missing : (es : List (List ℕ × X)) (at : ℕ) → NamesAscend es → FitsAt name es at → AllByRecursion (λ y. is_named name y ≡ false) (keys_of es)
  unfolding IsStrictlySortedBy
  missing [] at s f = tt
  missing (e ∷ es) zero s f = (ap is_eq f, every (λ y h. ap is_eq (nat_list_cmp_total.trans name e.0 y f h)) (keys_of es) s.0)
  missing (e ∷ es) (suc at) s f = (ap is_eq f.0, missing es at s.1 f.1)

  not_found : (es : List (List ℕ × X)) → AllByRecursion (λ y. is_named name y ≡ false) (keys_of es) → lookup (is_named name) es ≡ None
  not_found [] a = refl
  not_found (e ∷ es) a = ap (λ (b : Bool). cond b (Some e.1) (lookup (is_named name) es)) a.0 ∙ not_found es a.1

  none_set : (es : List (List ℕ × X)) (w : X) → AllByRecursion (λ y. is_named name y ≡ false) (keys_of es) → set_value (is_named name) es w ≡ es
  none_set [] w a = refl
  none_set (e ∷ es) w a = ap (λ (b : Bool). cond b ((e.0, w) ∷ es) (e ∷ set_value (is_named name) es w)) a.0 ∙ ap (λ (l : List (List ℕ × X)). e ∷ l) (none_set es w a.1)

  none_removed : (es : List (List ℕ × X)) → AllByRecursion (λ y. is_named name y ≡ false) (keys_of es) → remove_entry (is_named name) es ≡ es
  none_removed [] a = refl
  none_removed (e ∷ es) a = ap (λ (b : Bool). cond b es (e ∷ remove_entry (is_named name) es)) a.0 ∙ ap (λ (l : List (List ℕ × X)). e ∷ l) (none_removed es a.1)

  pub fits_missing : (es : List (List ℕ × X)) (at : ℕ) → NamesAscend es → FitsAt name es at → lookup (is_named name) es ≡ None
  fits_missing es at s f = not_found es (missing es at s f)

  pub fits_unset : (es : List (List ℕ × X)) (at : ℕ) (w : X) → NamesAscend es → FitsAt name es at → set_value (is_named name) es w ≡ es
  fits_unset es at w s f = none_set es w (missing es at s f)

  pub fits_unremoved : (es : List (List ℕ × X)) (at : ℕ) → NamesAscend es → FitsAt name es at → remove_entry (is_named name) es ≡ es
  fits_unremoved es at s f = none_removed es (missing es at s f)

  -- ---- a search

  every_at : (P : List ℕ → Type 0) (es : List (List ℕ × X)) (at : ℕ) (d : List ℕ × X) → at < length es → AllByRecursion P (keys_of es) → P (get_or es at d).0
  every_at P [] at d within a = absurd (omega (arith, within))
  every_at P (e ∷ es) zero d within a = a.0
  every_at P (e ∷ es) (suc at) d within a = every_at P es at d (omega (arith, within)) a.1

  stands_here : (es : List (List ℕ × X)) (at : ℕ) → NamesAscend es → at < length es → HoldsAt (λ m. name_cmp m.0 name ≡ Equal) es at → StandsAt name es at
  unfolding IsStrictlySortedBy
  stands_here [] at s within equal = absurd (omega (arith, within))
  stands_here (e ∷ es) zero s within equal = tied e.0 name (equal e)
  stands_here (e ∷ es) (suc at) s within equal =
      let here = (get_or es at e).0 in
      let less : name_cmp e.0 here ≡ Less = every_at (λ y. name_cmp e.0 y ≡ Less) es at e (omega (arith, within)) s.0 in
      (sym (nat_list_cmp_total.congr here name e.0 (equal e)) ∙ behind e.0 here less, stands_here es at s.1 (omega (arith, within)) (λ d. equal d))

  abbrev pub AreBelow : List (List ℕ × X) → ℕ → Type 0
  AreBelow es at = (k : ℕ) (d : List ℕ × X) → 0 ≤ k → k < at → name_cmp (get_or es k d).0 name ≡ Less

  abbrev pub AreAbove : List (List ℕ × X) → ℕ → Type 0
  AreAbove es at = (k : ℕ) (d : List ℕ × X) → at ≤ k → k < length es → name_cmp (get_or es k d).0 name ≡ Greater

  fits_here : (es : List (List ℕ × X)) (at : ℕ) → at ≤ length es → AreBelow es at → AreAbove es at → FitsAt name es at
  fits_here [] zero within below above = tt
  fits_here [] (suc at) within below above = absurd (omega (arith, within))
  fits_here (e ∷ es) zero within below above = ahead e.0 name (above 0 e (omega arith) (omega arith))
  fits_here (e ∷ es) (suc at) within below above = (
    behind e.0 name (below 0 e (omega arith) (omega arith)),
    fits_here es at (omega (arith, within)) (λ k d low high. below (suc k) d (omega arith) (omega (arith, high))) (λ k d low high. above (suc k) d (omega (arith, low)) (omega (arith, high))),
  )

  less_at : (es : List (List ℕ × X)) (i j : ℕ) (d : List ℕ × X) → NamesAscend es → i < j → j < length es → name_cmp (get_or es i d).0 (get_or es j d).0 ≡ Less
  unfolding IsStrictlySortedBy
  less_at [] i j d s lt within = absurd (omega (arith, within))
  less_at (e ∷ es) i zero d s lt within = absurd (omega (arith, lt))
  less_at (e ∷ es) zero (suc j) d s lt within = every_at (λ y. name_cmp e.0 y ≡ Less) es j d (omega (arith, within)) s.0
  less_at (e ∷ es) (suc i) (suc j) d s lt within = less_at es i j d s.1 (omega (arith, lt)) (omega (arith, within))

  rises : (es : List (List ℕ × X)) → NamesAscend es → IsNonDecreasingBy (λ m. ordering_index (name_cmp m.0 name)) es
  rises es s i j d le within = elim (cases_lt i j) [
    | inl lt ↦ ranked name (get_or es i d).0 (get_or es j d).0 (name_cmp (get_or es j d).0 name) (less_at es i j d s lt within) refl
    | inr ge ↦
        let same : i ≡ j = omega (arith, le, ge) in
        subst (λ (n : ℕ). ordering_index (name_cmp (get_or es i d).0 name) ≤ ordering_index (name_cmp (get_or es n d).0 name)) same (omega arith)
  ]

  pub searched : (es : List (List ℕ × X)) → NamesAscend es → (r : Result ℕ ℕ) → IsSearchInRange r (length es) → IsBinarySearchResult (λ m. name_cmp m.0 name) es r
      → record { found : IfOk r (StandsAt name es); missing : IfErr r (FitsAt name es) }
  searched es s (Ok at) within equal = record { found = stands_here es at s within equal; missing = tt }
  searched es s (Err at) within parted = record { found = tt; missing = (let parts = parted (rises es s) in fits_here es at within parts.0 parts.1) }

  -- ---- a search from the last member on

  module _ (es : List (List ℕ × X)) (s : NamesAscend es) (at : ℕ) (some : 0 < at) (within : at ≤ length es) (m : List ℕ × X) (is : m ≡ get_or es (at - 1) m) where
    same_here : (d : List ℕ × X) → get_or es (at - 1) d ≡ m
    same_here d = get_or_default es (at - 1) d m (omega (arith, some, within)) ∙ sym is

    pub fits_next : name_cmp name m.0 ≡ Greater → AreAbove es at → FitsAt name es at
    fits_next greater above = fits_here es at within (λ k d low high.
        let less : name_cmp m.0 name ≡ Less = ahead name m.0 greater in
        elim (cases_lt k (at - 1)) [
          | inl lt ↦
              nat_list_cmp_total.trans (get_or es k d).0 m.0 name
              (subst (λ (n : List ℕ × X). name_cmp (get_or es k d).0 n.0 ≡ Less) (same_here d) (less_at es k (at - 1) d s lt (omega (arith, some, within)))) less
          | inr ge ↦
              let here : at - 1 ≡ k = omega (arith, high, ge, some) in
              subst (λ (n : ℕ). name_cmp (get_or es n d).0 name ≡ Less) here (subst (λ (n : List ℕ × X). name_cmp n.0 name ≡ Less) (sym (same_here d)) less)
        ]) above

    pub stands_next : name_cmp name m.0 ≡ Equal → StandsAt name es (at - 1)
    stands_next equal = stands_here es (at - 1) s (omega (arith, some, within)) (λ d. subst (λ (n : List ℕ × X). name_cmp n.0 name ≡ Equal) (sym (same_here d)) (tied name m.0 equal))

    pub above_more : name_cmp name m.0 ≡ Less → AreAbove es at → AreAbove es (at - 1)
    above_more less above k d low high = elim (cases_lt k at) [
      | inl lt ↦
          let here : at - 1 ≡ k = omega (arith, low, lt, some) in
          subst (λ (n : ℕ). name_cmp (get_or es n d).0 name ≡ Greater) here (subst (λ (n : List ℕ × X). name_cmp n.0 name ≡ Greater) (sym (same_here d)) (behind name m.0 less))
      | inr ge ↦ above k d ge high
    ]

  pub above_none : (es : List (List ℕ × X)) (at : ℕ) → length es ≤ at → AreAbove es at
  above_none es at past k d low high = absurd (omega (arith, past, low, high))

  pub fits_first : (es : List (List ℕ × X)) (at : ℕ) → at ≤ 0 → AreAbove es at → FitsAt name es 0
  fits_first es at first above = fits_here es 0 (omega arith) (λ k d low high. absurd (omega (arith, high))) (λ k d low high. above k d (omega (arith, first)) high)

-- ---- names under other values

pub names_kept : {X : Type 0} (es : List (List ℕ × X)) (at : ℕ) (w : X) → keys_of (value_set_at es at w) ≡ keys_of es
names_kept [] at w = refl
names_kept (e ∷ es) zero w = refl
names_kept (e ∷ es) (suc at) w = ap (λ (l : List (List ℕ)). e.0 ∷ l) (names_kept es at w)

pub still_ascend : {X : Type 0} (es : List (List ℕ × X)) (at : ℕ) (w : X) → NamesAscend es → NamesAscend (value_set_at es at w)
still_ascend es at w s = subst (λ (names : List (List ℕ)). IsStrictlySortedBy name_cmp names) (sym (names_kept es at w)) s

-- the member at a place
pub value_here : {X : Type 0} (es : List (List ℕ × X)) (at : ℕ) (m : List ℕ × X) → at < length es → m ≡ get_or es at m → slice_get (values_of es) at ≡ Some m.1
value_here [] at m within is = absurd (omega (arith, within))
value_here {X} (e ∷ es) zero m within is = ap (λ (n : List ℕ × X). Some n.1) (sym is)
value_here (e ∷ es) (suc at) m within is = value_here es at m (omega (arith, within)) is

-- a member with another value at its place
pub set_here : {X : Type 0} (es : List (List ℕ × X)) (at : ℕ) (m : List ℕ × X) (w : X) → at < length es → m ≡ get_or es at m → set es at (m.0, w) ≡ value_set_at es at w
set_here [] at m w within is = absurd (omega (arith, within))
set_here {X} (e ∷ es) zero m w within is = ap (λ (n : List ℕ × X). (n.0, w) ∷ es) is
set_here {X} (e ∷ es) (suc at) m w within is = ap (λ (l : List (List ℕ × X)). e ∷ l) (set_here es at m w (omega (arith, within)) is)

pub none_ascend : (X : Type 0) → NamesAscend {X = X} []
unfolding IsStrictlySortedBy
none_ascend X = tt

pub names_removed : {X : Type 0} (P : List ℕ → Type 0) (es : List (List ℕ × X)) (at : ℕ) → AllByRecursion P (keys_of es) → AllByRecursion P (keys_of (remove es at))
names_removed P [] zero a = tt
names_removed P [] (suc at) a = tt
names_removed P (e ∷ es) zero a = a.1
names_removed P (e ∷ es) (suc at) a = (a.0, names_removed P es at a.1)

pub removed_ascend : {X : Type 0} (es : List (List ℕ × X)) (at : ℕ) → at < length es → NamesAscend es → NamesAscend (remove es at)
unfolding IsStrictlySortedBy
removed_ascend [] at within s = absurd (omega (arith, within))
removed_ascend (e ∷ es) zero within s = s.1
removed_ascend (e ∷ es) (suc at) within s = (names_removed (λ y. name_cmp e.0 y ≡ Less) es at s.0, removed_ascend es at (omega (arith, within)) s.1)

pub inserted_last : {X : Type 0} (xs : List X) (at : ℕ) (x : X) → at ≡ length xs → insert xs at x ≡ xs ++ x ∷ []
inserted_last xs at x e = subst (λ (n : ℕ). insert xs n x ≡ xs ++ x ∷ []) (sym e) (behind_all xs x)
  where
    behind_all : {X : Type 0} (xs : List X) (x : X) → insert xs (length xs) x ≡ xs ++ x ∷ []
    behind_all [] x = refl
    behind_all {X} (y ∷ ys) x = ap (λ (l : List X). y ∷ l) (behind_all ys x)

pub same_map : {X : Type 0} {es fs : List (List ℕ × X)} → es ≡ fs → ◌≡◌ {A = ByName X} (record { entries = es }) (record { entries = fs })
same_map e = λ i. record { entries = e i }

pub lent_ascends : {X : Type 0} (es : List (List ℕ × X)) (at : ℕ) (m : List ℕ × X) (w : X) → at < length es → m ≡ get_or es at m → NamesAscend es → NamesAscend (set es at (m.0, w))
lent_ascends {X} es at m w within is s = subst (λ (l : List (List ℕ × X)). NamesAscend l) (sym (set_here es at m w within is)) (still_ascend es at w s)

stands_some : {X : Type 0} (name : List ℕ) (es : List (List ℕ × X)) (at : ℕ) → StandsAt name es at → is_some (lookup (is_named name) es) ≡ true
stands_some name [] at s = absurd s
stands_some name (e ∷ es) zero s = ap (λ (o : Ordering). is_some (cond (is_eq o) (Some e.1) (lookup (is_named name) es))) s
stands_some name (e ∷ es) (suc at) s = ap (λ (o : Ordering). is_some (cond (is_eq o) (Some e.1) (lookup (is_named name) es))) s.0 ∙ stands_some name es at s.1

-- a place tells whether the name is there
pub place_tells : {X : Type 0} (name : List ℕ) (es : List (List ℕ × X)) (r : Result ℕ ℕ) → NamesAscend es → IfOk r (StandsAt name es) → IfErr r (FitsAt name es)
    → is_ok r ≡ is_some (lookup (is_named name) es)
place_tells name es (Ok at) s found missing = sym (stands_some name es at found)
place_tells name es (Err at) s found missing = sym (ap is_some (fits_missing name es at s missing))

-- what is put at the place of a missing name
pub put_ascends : {X A E : Type 0} (name : List ℕ) (es new : List (List ℕ × X)) (at : ℕ) (w : X) (r : Result A E)
    → OnOk r (new ≡ insert es at (name, w)) → OnErr r (new ≡ es) → NamesAscend es → FitsAt name es at → NamesAscend new
put_ascends {X} name es new at w (Ok a) ok err s f = subst (λ (l : List (List ℕ × X)). NamesAscend l) (sym ok) (fits_ascends name es at w s f)
put_ascends {X} name es new at w (Err e) ok err s f = subst (λ (l : List (List ℕ × X)). NamesAscend l) (sym err) s

pub put_inserts : {X A E : Type 0} (name : List ℕ) (es new : List (List ℕ × X)) (at : ℕ) (w : X) (r : Result A E)
    → OnOk r (new ≡ insert es at (name, w)) → FitsAt name es at → OnOk r (new ≡ insert_entry name_cmp es name w)
put_inserts name es new at w (Ok a) ok f = ok ∙ fits_inserted name es at w f
put_inserts name es new at w (Err e) ok f = tt

names_filtered : {X : Type 0} (P : List ℕ → Type 0) (bs : List Bool) (es : List (List ℕ × X)) → AllByRecursion P (keys_of es) → AllByRecursion P (keys_of (items_where_true bs es))
names_filtered P [] es a = tt
names_filtered P (b ∷ bs) [] a = tt
names_filtered P (true ∷ bs) (e ∷ es) a = (a.0, names_filtered P bs es a.1)
names_filtered P (false ∷ bs) (e ∷ es) a = names_filtered P bs es a.1

pub filtered_ascend : {X : Type 0} (bs : List Bool) (es : List (List ℕ × X)) → NamesAscend es → NamesAscend (items_where_true bs es)
unfolding IsStrictlySortedBy
filtered_ascend [] es s = tt
filtered_ascend (b ∷ bs) [] s = tt
filtered_ascend (true ∷ bs) (e ∷ es) s = (names_filtered (λ y. name_cmp e.0 y ≡ Less) bs es s.0, filtered_ascend bs es s.1)
filtered_ascend (false ∷ bs) (e ∷ es) s = filtered_ascend bs es s.1

pub keys_joined : {X : Type 0} (es fs : List (List ℕ × X)) → keys_of (es ++ fs) ≡ keys_of es ++ keys_of fs
keys_joined [] fs = refl
keys_joined (e ∷ es) fs = ap (λ (l : List (List ℕ)). e.0 ∷ l) (keys_joined es fs)

-- no value of a map weighs more than all
lightest : {X : Type 0} (μ : X → ℕ) (es : List (List ℕ × X)) (i : ℕ) (d : List ℕ × X) → i < length es → μ (get_or es i d).1 ≤ most μ (values_of es)
lightest μ [] i d within = absurd (omega (arith, within))
lightest μ (e ∷ es) zero d within = omega arith
lightest μ (e ∷ es) (suc i) d within = omega (arith, lightest μ es i d (omega (arith, within)))

pub lighter : {X : Type 0} (μ : X → ℕ) (es fs : List (List ℕ × X)) (i : ℕ) (m : List ℕ × X) → es ≡ fs → i < length es → m ≡ get_or es i m → μ m.1 ≤ most μ (values_of fs)
lighter {X} μ es fs i m same within is =
    subst (λ (l : List (List ℕ × X)). μ m.1 ≤ most μ (values_of l)) same
    (subst (λ (n : List ℕ × X). μ n.1 ≤ most μ (values_of es)) (sym is) (lightest μ es i m within))
