-- Values are equal where their data are.
use Rattle.std.proofs.Common.{◌≡◌, ℕ, Bool, true, false, true≢false, ◌&&◌, List, [], ◌∷◌, refl, sym, ap, subst, ◌∙◌, map}
use Rattle.std.specs.Bool.{beq, Decides}
use Rattle.std.specs.Ordering.{int_eq}
use Rattle.std.specs.Prelude.{nat_eq}
use Rattle.std.specs.Cmp.{booleans_Decides, signed_Decides, first_so, second_so}
use Rattle.std.specs.Cmp.Lexicographic.{pointwise, bytes_decides}
use denote.Enum.Compared.{by, Each}
use Rattle.entry_model.specs.contracts.value.Value.{the_parts}
use Rattle.entry_model.specs.contracts.value.ValuePartialEq.TheImpl.{ghosts}
use Rattle.entry_model.specs.contracts.value.ValuePartialEq.TheImpl.Laws as equal
use Rattle.entry_model.specs.declared.value.Value.{Value}
use Rattle.entry_model.specs.declared.value.Value.TheBlock.{split-Value, the_family}
use Rattle.entry_model.specs.declared.value.Value.TheOpen.{Value-F}
use Rattle.entry_model.specs.declared.value.Value.TheFolds.{ind-Value, map-Value, fold-roll-Value}
use Rattle.entry_model.specs.declared.value.Value.TheViews.{roll-Value, out-Value, roll-out-Value, out-roll-Value}
use Rattle.entry_model.specs.Datum.{Datum, null, boolean, int, text, list, fields, Items, no_items, item, Members, no_members, member, datum, datum_step, items_of, members_of}

-- ---- equality of data, as a test

abbrev mutual
  same : Datum → Datum → Bool
  same null null = true
  same (boolean b) (boolean c) = beq b c
  same (int y) (int z) = int_eq y z
  same (text bs) (text cs) = pointwise nat_eq bs cs
  same (list items) (list others) = same_items items others
  same (fields members) (fields others) = same_members members others
  same _ _ = false

  same_items : Items → Items → Bool
  same_items no_items no_items = true
  same_items (item first rest) (item other others) = same first other && same_items rest others
  same_items _ _ = false

  same_members : Members → Members → Bool
  same_members no_members no_members = true
  same_members (member key first rest) (member name other others) = (pointwise nat_eq key name && same first other) && same_members rest others
  same_members _ _ = false

mutual
  alike : (d e : Datum) → same d e ≡ true → d ≡ e
  alike null null h = refl
  alike (boolean b) (boolean c) h = ap boolean ((booleans_Decides b c).0 h)
  alike (int y) (int z) h = ap int ((signed_Decides y z).0 h)
  alike (text bs) (text cs) h = ap text ((bytes_decides bs cs).0 h)
  alike (list items) (list others) h = ap list (alike_items items others h)
  alike (fields members) (fields others) h = ap fields (alike_members members others h)
  alike _ _ h = absurd (true≢false (sym h))

  alike_items : (items others : Items) → same_items items others ≡ true → items ≡ others
  alike_items no_items no_items h = refl
  alike_items (item first rest) (item other others) h =
      let e = alike first other (first_so (same first other) (same_items rest others) h) in
      let f = alike_items rest others (second_so (same first other) (same_items rest others) h) in
      λ i. item (e i) (f i)
  alike_items _ _ h = absurd (true≢false (sym h))

  alike_members : (members others : Members) → same_members members others ≡ true → members ≡ others
  alike_members no_members no_members h = refl
  alike_members (member key first rest) (member name other others) h =
      let both = first_so (pointwise nat_eq key name && same first other) (same_members rest others) h in
      let k = (bytes_decides key name).0 (first_so (pointwise nat_eq key name) (same first other) both) in
      let e = alike first other (second_so (pointwise nat_eq key name) (same first other) both) in
      let f = alike_members rest others (second_so (pointwise nat_eq key name && same first other) (same_members rest others) h) in
      λ i. member (k i) (e i) (f i)
  alike_members _ _ h = absurd (true≢false (sym h))

mutual
  itself : (d : Datum) → same d d ≡ true
  itself null = refl
  itself (boolean b) = (booleans_Decides b b).1 refl
  itself (int z) = (signed_Decides z z).1 refl
  itself (text bs) = (bytes_decides bs bs).1 refl
  itself (list items) = items_themselves items
  itself (fields members) = members_themselves members

  items_themselves : (items : Items) → same_items items items ≡ true
  items_themselves no_items = refl
  items_themselves (item first rest) = λ i. itself first i && items_themselves rest i

  members_themselves : (members : Members) → same_members members members ≡ true
  members_themselves no_members = refl
  members_themselves (member key first rest) = λ i. ((bytes_decides key key).1 refl i && itself first i) && members_themselves rest i

-- ---- one level of what a comparison of values does

abbrev member_eq : List ℕ × Value → List ℕ × Value → Bool
member_eq p q = pointwise nat_eq p.0 q.0 && ghosts.eq p.1 q.1

abbrev parts_eq : Each Bool the_parts
parts_eq = (
  λ x y. true,
  (
    λ x y. beq x.0 y.0,
    (
      λ x y. int_eq x.0 y.0,
      (
        λ x y. pointwise nat_eq x.0 y.0,
        (
          λ x y. pointwise ghosts.eq x.0.items y.0.items,
          (λ x y. pointwise member_eq x.0.entries y.0.entries, tt),
        ),
      ),
    ),
  ),
)

abbrev level_eq : Value-F Value → Value-F Value → Bool
level_eq x y = by false false the_parts parts_eq (split-Value the_family x) (split-Value the_family y)

is_level : (a b : Value) → ghosts.eq a b ≡ level_eq (out-Value a) (out-Value b)
is_level a b = equal.is a b

-- two values that were put together are compared by one level
rolled : (x y : Value-F Value) → ghosts.eq (roll-Value x) (roll-Value y) ≡ level_eq x y
rolled x y = is_level (roll-Value x) (roll-Value y) ∙ (λ i. level_eq (out-roll-Value x i) (out-roll-Value y i))

datum_rolled : (x : Value-F Value) → datum (roll-Value x) ≡ datum_step (map-Value Value Datum datum x)
datum_rolled x = fold-roll-Value Datum datum_step x

-- ---- that comparison is the test of the data

abbrev IsTested : Value → Type 0
IsTested a = (b : Value) → ghosts.eq a b ≡ same (datum a) (datum b)

items_tested : (tested : List ((a : Value) × IsTested a)) (others : List Value)
    → pointwise ghosts.eq (map (λ t. t.0) tested) others ≡ same_items (items_of (map datum (map (λ t. t.0) tested))) (items_of (map datum others))
items_tested [] [] = refl
items_tested [] (other ∷ others) = refl
items_tested (t ∷ tested) [] = refl
items_tested (t ∷ tested) (other ∷ others) = λ i. t.1 other i && items_tested tested others i

abbrev seen_member : List ℕ × Value → List ℕ × Datum
seen_member m = (m.0, datum m.1)

abbrev untested : List ℕ × ((a : Value) × IsTested a) → List ℕ × Value
untested m = (m.0, m.1.0)

members_tested : (tested : List (List ℕ × ((a : Value) × IsTested a))) (others : List (List ℕ × Value))
    → pointwise member_eq (map untested tested) others ≡ same_members (members_of (map seen_member (map untested tested))) (members_of (map seen_member others))
members_tested [] [] = refl
members_tested [] (other ∷ others) = refl
members_tested (t ∷ tested) [] = refl
members_tested (t ∷ tested) (other ∷ others) = λ i. (pointwise nat_eq t.0 other.0 && t.1.1 other.1 i) && members_tested tested others i

abbrev Tested : Type 0
Tested = (a : Value) × IsTested a

abbrev bare : Value-F Tested → Value-F Value
bare y = map-Value Tested Value (λ t. t.0) y

abbrev level_datum : Value-F Value → Datum
level_datum x = datum_step (map-Value Value Datum datum x)

level_tested : (y : Value-F Tested) (z : Value-F Value) → level_eq (bare y) z ≡ same (level_datum (bare y)) (level_datum z)
level_tested Value-F.Null Value-F.Null = refl
level_tested (Value-F.Bool b) (Value-F.Bool c) = refl
level_tested (Value-F.Int y) (Value-F.Int z) = refl
level_tested (Value-F.Text bs) (Value-F.Text cs) = refl
level_tested (Value-F.List tested) (Value-F.List others) = items_tested tested.items others.items
level_tested (Value-F.Map tested) (Value-F.Map others) = members_tested tested.entries others.entries
level_tested _ _ = refl

rolled_tested : (y : Value-F Tested) (z : Value-F Value) → ghosts.eq (roll-Value (bare y)) (roll-Value z) ≡ same (datum (roll-Value (bare y))) (datum (roll-Value z))
rolled_tested y z = rolled (bare y) z ∙ level_tested y z ∙ (λ i. same (sym (datum_rolled (bare y)) i) (sym (datum_rolled z) i))

tested : (a : Value) → IsTested a
tested = ind-Value IsTested (λ x y is b.
    let made = subst (λ w. ghosts.eq (roll-Value w) (roll-Value (out-Value b)) ≡ same (datum (roll-Value w)) (datum (roll-Value (out-Value b)))) is (rolled_tested y (out-Value b)) in
    subst (λ c. ghosts.eq (roll-Value x) c ≡ same (datum (roll-Value x)) (datum c)) (roll-out-Value b) made)

pub eq_Decides : (a b : Value) → Decides (ghosts.eq a b) (datum a ≡ datum b)
eq_Decides a b = (
  λ h. alike (datum a) (datum b) (sym (tested a b) ∙ h),
  λ e. tested a b ∙ subst (λ d. same (datum a) d ≡ true) e (itself (datum a)),
)
