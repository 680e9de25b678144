-- `TextMap` as a type that may hold the type that holds it, by its values.
use Rattle.std.specs.Prelude.{◌≡◌, ℕ, max, Bool, ◌&&◌, List, [], ◌∷◌, map, nat_eq}
use mathlib.Core.Path.{refl, sym, ap, subst, ◌∙◌}
use mathlib.Core.Former.{Former, Count, Row, this, const, pair, list, list_count, list_put, via, children}
use base.Stored.{code_map, coded×, coded_list, coded_ℕ, gcons}
use denote.RattleType.{RattleType}
use denote.HoleLaws.{Alike}
use denote.HolePlaces.{Recodes, struct_places, laid, stays}
use denote.Hole.Carrier.{listed}
use denote.Hole.Fix.{over}
use denote.Param.Nested.{deepest}
use denote.Param.Weighed.{Weighed, most, none_max, List-puts, w_pair, w_const}
use denote.Model.Placed.{view_places}
use denote.Struct.Tuple.{tuple_type, Tuple}
use Rattle.std.specs.declared.cmp.PartialEq.{Ghosts}
use Rattle.std.specs.declared.alloc.Global.{Global}
use Rattle.std.specs.contracts.alloc.Global as heap
use Rattle.std.specs.contracts.impls.GlobalAllocator.TheImpl.{ghosts}
use Rattle.std.specs.Cmp.Lexicographic.{pointwise}
use Rattle.std.specs.List.Sorted.{IsStrictlySortedBy, IsStrictlySortedBy-prop}
use Rattle.std.specs.Map.{keys_of, values_of}
use Rattle.std.specs.formers.vec.Vec as vec
use Rattle.entry_model.specs.ByName.{ByName}
use Rattle.entry_model.specs.Places.{name_cmp}
use Rattle.entry_model.specs.contracts.text.Text as text
use Rattle.entry_model.specs.declared.fields.TextMap.TheInside.{Inside}
use Rattle.entry_model.specs.declared.fields.TextMap.TheView.{view, invariant}
use Rattle.entry_model.specs.contracts.fields.TextMap as C
use Rattle.entry_model.specs.contracts.fields.TextMap.TheInside as I

abbrev Name : Type 0
Name = List ℕ

-- a name beside one of g's values
abbrev named_by : Former {0} → Former {0}
named_by g = pair (const Name) g

abbrev on_value : {X Y : Type 0} → (X → Y) → Name × X → Name × Y
on_value h m = (m.0, h m.1)

pub most_values : {X : Type 0} (f : X → ℕ) (es : List (Name × X)) → most (λ m. max 0 (f m.1)) es ≡ most f (values_of es)
most_values f [] = refl
most_values f (e ∷ es) = λ i. max (sym (none_max (f e.1)) i) (most_values f es i)

pub members_puts : {g : Former {0}} (w : Weighed g) (X : Type 0) (μ : X → ℕ) (es : List (Name × g.Of X)) (n : Count) (t : Row X n)
    → deepest μ (list_count (named_by g) (map ((named_by g).shape X) es) n) (list_put (named_by g) X es n t) ≡ max (most (w.weight X μ) (values_of es)) (deepest μ n t)
members_puts w X μ es n t = List-puts (w_pair (w_const Name) w) X μ es n t ∙ ap (λ a. max a (deepest μ n t)) (most_values (w.weight X μ) es)

values_listed : (X : Type 0) (es : List (Name × X)) → listed _ (children (list (named_by this)) X es) ≡ values_of es
values_listed X [] = refl
values_listed X (e ∷ es) = ap (λ l. e.1 ∷ l) (values_listed X es)

names_kept : {X Y : Type 0} (h : X → Y) (es : List (Name × X)) → keys_of (map (on_value h) es) ≡ keys_of es
names_kept h [] = refl
names_kept h (e ∷ es) = ap (λ l. e.0 ∷ l) (names_kept h es)

abbrev pub the_former : Former {0} → Former {0}
the_former g = via (list (named_by g)) (λ X. ByName (g.Of X)) (λ X m. m.entries) (λ X es. record { entries = es }) (λ X m. refl) (λ X v. refl)

abbrev pub the_weighed : {g : Former {0}} → Weighed g → Weighed (the_former g)
the_weighed w = record { weight = λ X μ m. most (w.weight X μ) (values_of m.entries); puts = λ X μ m. members_puts w X μ m.entries }

pub the_empty : ByName ⊥
the_empty = record { entries = [] }

abbrev pub the_items : (X : Type 0) → ByName X → List X
the_items X m = values_of m.entries

pub the_items_listed : (X : Type 0) (m : ByName X) → listed _ (children (the_former this) X m) ≡ the_items X m
the_items_listed X m = values_listed X m.entries

abbrev fields : Former {0}
fields = via (vec.the_former (named_by this) Global) Inside (λ X a. a.members) (λ X v. record { members = v }) (λ X a. refl) (λ X v. refl)

module _ (R S : RattleType) (h : R.Denot → S.Denot) where
  abbrev named : RattleType → RattleType
  named T = Tuple (text.the_row ∷ T ∷ [])

  named_places : Alike R S h → Alike (named R) (named S) (on_value h)
  named_places a = struct_places (tuple_type (text.the_row ∷ R ∷ [])) (tuple_type (text.the_row ∷ S ∷ [])) ((λ n. n), (h, tt)) (on_value h) (λ d. refl) refl
      (stays text.the_row, (laid R S h a, tt))

  same_keys : (es : List (Name × R.Denot)) → IsStrictlySortedBy name_cmp (keys_of es) ≡ IsStrictlySortedBy name_cmp (keys_of (map (on_value h) es))
  same_keys es = ap (IsStrictlySortedBy name_cmp) (sym (names_kept h es))

  pub the_places : Alike R S h → Alike (C.the_row R) (C.the_row S) ((the_former this).map R.Denot S.Denot h)
  the_places a = view_places fields (the_former this) view (λ X Y k u. refl) (λ X u. refl) R.Denot S.Denot h (C.the_row R).coded (C.the_row S).coded
      (invariant R.Denot) (invariant S.Denot) (λ u. IsStrictlySortedBy-prop _ _) (λ u. IsStrictlySortedBy-prop _ _)
      (λ u s. subst (λ T. T) (same_keys u.members.items) s) (λ u s. subst (λ T. T) (sym (same_keys u.members.items)) s)
      (over (I.the_row R)) (over (I.the_row S))
      (struct_places (I.the_type R) (I.the_type S) (vec.mapped (on_value h), tt) _ (λ d. refl) refl (laid _ _ _ (vec.the_places heap.the_row ghosts (named R) (named S) (on_value h) (named_places a)), tt))

  pub the_codes_placed : Recodes R S h → Recodes (C.the_row R) (C.the_row S) ((the_former this).map R.Denot S.Denot h)
  the_codes_placed e m = sym (code_map (coded× (coded_list coded_ℕ) R.coded).code (coded× (coded_list coded_ℕ) S.coded).code (on_value h)
      (λ x i. gcons ((coded_list coded_ℕ).code x.0) (sym (e x.1) i)) m.entries)

module _ (X Y : Type 0) (h : X → Y) where
  abbrev over_h : ByName X → ByName Y
  over_h = (the_former this).map X Y h

  same_mapped : (F : Name × Y → Name × Y → Bool) (es fs : List (Name × X)) → pointwise F (map (on_value h) es) (map (on_value h) fs) ≡ pointwise (λ p q. F (on_value h p) (on_value h q)) es fs
  same_mapped F [] [] = refl
  same_mapped F [] (f ∷ fs) = refl
  same_mapped F (e ∷ es) [] = refl
  same_mapped F (e ∷ es) (f ∷ fs) = ap (λ b. F (on_value h e) (on_value h f) && b) (same_mapped F es fs)

  pub the_eq_natural : (V : Ghosts Y) (m n : ByName X)
      → pointwise (λ p q. pointwise nat_eq p.0 q.0 && V.eq p.1 q.1) (over_h m).entries (over_h n).entries
      ≡ pointwise (λ p q. pointwise nat_eq p.0 q.0 && V.eq (h p.1) (h q.1)) m.entries n.entries
  the_eq_natural V m n = same_mapped (λ p q. pointwise nat_eq p.0 q.0 && V.eq p.1 q.1) m.entries n.entries
