-- Values are the same exactly where they are equal.
use Rattle.std.proofs.Common.{◌≡◌, ℕ, List, ◌∙◌, ap, ap₂, refl, Bool, true, false, ◌&&◌}
use Rattle.std.proofs.lemmas.Bool.Decides.{Decides-int_eq}
use Rattle.std.proofs.lemmas.Slice.Eq.{bytes_eq-Decides}
use Rattle.std.specs.Str.{bytes_eq}
use Rattle.entry_model.specs.Datum.{Datum, null, boolean, int, text, list, fields, Items, no_items, item, Members, no_members, member}
use Rattle.expr_lang.specs.Equality.{same, same_items, same_members, same_truth}

both : (a b : Bool) → (a && b) ≡ true → (a ≡ true) × (b ≡ true)
both true b h = (refl, h)
both false b h = absurd (cc h)

and_true : (a b : Bool) → a ≡ true → b ≡ true → (a && b) ≡ true
and_true true b h k = k
and_true false b h k = absurd (cc h)

truths : (a b : Bool) → same_truth a b ≡ true → a ≡ b
truths true true h = refl
truths true false h = absurd (cc h)
truths false true h = absurd (cc h)
truths false false h = refl

truth_itself : (a : Bool) → same_truth a a ≡ true
truth_itself true = refl
truth_itself false = refl

mutual
  pub equal : (a b : Datum) → same a b ≡ true → a ≡ b
  equal null null h = refl
  equal (boolean a) (boolean b) h = ap boolean (truths a b h)
  equal (int a) (int b) h = ap int ((Decides-int_eq a b).0 h)
  equal (text a) (text b) h = ap text ((bytes_eq-Decides a b).0 h)
  equal (list a) (list b) h = ap list (equal_items a b h)
  equal (fields a) (fields b) h = ap fields (equal_members a b h)
  equal null (boolean b) h = absurd (cc h)
  equal null (int b) h = absurd (cc h)
  equal null (text b) h = absurd (cc h)
  equal null (list b) h = absurd (cc h)
  equal null (fields b) h = absurd (cc h)
  equal (boolean a) null h = absurd (cc h)
  equal (boolean a) (int b) h = absurd (cc h)
  equal (boolean a) (text b) h = absurd (cc h)
  equal (boolean a) (list b) h = absurd (cc h)
  equal (boolean a) (fields b) h = absurd (cc h)
  equal (int a) null h = absurd (cc h)
  equal (int a) (boolean b) h = absurd (cc h)
  equal (int a) (text b) h = absurd (cc h)
  equal (int a) (list b) h = absurd (cc h)
  equal (int a) (fields b) h = absurd (cc h)
  equal (text a) null h = absurd (cc h)
  equal (text a) (boolean b) h = absurd (cc h)
  equal (text a) (int b) h = absurd (cc h)
  equal (text a) (list b) h = absurd (cc h)
  equal (text a) (fields b) h = absurd (cc h)
  equal (list a) null h = absurd (cc h)
  equal (list a) (boolean b) h = absurd (cc h)
  equal (list a) (int b) h = absurd (cc h)
  equal (list a) (text b) h = absurd (cc h)
  equal (list a) (fields b) h = absurd (cc h)
  equal (fields a) null h = absurd (cc h)
  equal (fields a) (boolean b) h = absurd (cc h)
  equal (fields a) (int b) h = absurd (cc h)
  equal (fields a) (text b) h = absurd (cc h)
  equal (fields a) (list b) h = absurd (cc h)

  equal_items : (a b : Items) → same_items a b ≡ true → a ≡ b
  equal_items no_items no_items h = refl
  equal_items no_items (item b rest) h = absurd (cc h)
  equal_items (item a rest) no_items h = absurd (cc h)
  equal_items (item a rest) (item b others) h = let k = both (same a b) (same_items rest others) h in ap₂ item (equal a b k.0) (equal_items rest others k.1)

  equal_members : (a b : Members) → same_members a b ≡ true → a ≡ b
  equal_members no_members no_members h = refl
  equal_members no_members (member key b rest) h = absurd (cc h)
  equal_members (member key a rest) no_members h = absurd (cc h)
  equal_members (member key a rest) (member name b others) h =
      let k = both (bytes_eq key name) (same a b && same_members rest others) h in
      let l = both (same a b) (same_members rest others) k.1 in
      ap (λ (n : List ℕ). member n a rest) ((bytes_eq-Decides key name).0 k.0) ∙ ap₂ (member name) (equal a b l.0) (equal_members rest others l.1)

mutual
  pub itself : (a : Datum) → same a a ≡ true
  itself null = refl
  itself (boolean a) = truth_itself a
  itself (int a) = (Decides-int_eq a a).1 refl
  itself (text a) = (bytes_eq-Decides a a).1 refl
  itself (list a) = items_themselves a
  itself (fields a) = members_themselves a

  items_themselves : (a : Items) → same_items a a ≡ true
  items_themselves no_items = refl
  items_themselves (item a rest) = and_true (same a a) (same_items rest rest) (itself a) (items_themselves rest)

  members_themselves : (a : Members) → same_members a a ≡ true
  members_themselves no_members = refl
  members_themselves (member key a rest) =
      and_true (bytes_eq key key) (same a a && same_members rest rest) ((bytes_eq-Decides key key).1 refl) (and_true (same a a) (same_members rest rest) (itself a) (members_themselves rest))
