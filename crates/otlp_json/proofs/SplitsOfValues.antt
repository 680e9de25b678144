-- Two texts that begin with a value's tell the value.
use Rattle.std.proofs.Common.{◌≡◌, ℕ, ◌==◌, Bool, true, false, List, [], ◌∷◌, ◌++◌, ◌∙◌, refl, sym, ap, arith, codes, get_or, drop}
use Rattle.std.proofs.lemmas.List.{append_assoc, append_cancel_left}
use Rattle.std.specs.Prelude.{if◌then◌else◌}
use Rattle.std.specs.Fmt.{signed_decimal}
use Rattle.entry_model.specs.Datum.{Datum, null, boolean, int, text, list, fields, Items, no_items, item, Members, no_members, member}
use Rattle.otlp_json.specs.Escaped.{escaped}
use Rattle.otlp_json.specs.IsOf64Bits.{HasIntegers, ItemsHaveIntegers, MembersHaveIntegers}
use Rattle.otlp_json.specs.ValueText.{value_text, items_text, members_text, key_value_text}
use Rattle.otlp_json.proofs.Splits.{regroup, opened, goes_on, integer_splits}
use Rattle.otlp_json.proofs.SplitsOfStrings.{string_splits}

-- a byte that tells the kind of a value
abbrev kind_in : List ℕ → ℕ
kind_in bytes = (if get_or bytes 1 0 == 125 then 0 else get_or bytes 2 0)

abbrev kind : Datum → ℕ
kind null = 0
kind (boolean b) = 98
kind (int z) = 105
kind (text bytes) = 115
kind (list items) = 97
kind (fields pairs) = 107

kind_told : (value : Datum) (x : List ℕ) → kind_in (value_text value ++ x) ≡ kind value
kind_told null x = refl
kind_told (boolean true) x = refl
kind_told (boolean false) x = refl
kind_told (int z) x = refl
kind_told (text bytes) x = refl
kind_told (list items) x = refl
kind_told (fields pairs) x = refl

opens_brace : (value : Datum) (x : List ℕ) → get_or (value_text value ++ x) 0 0 ≡ 123
opens_brace null x = refl
opens_brace (boolean true) x = refl
opens_brace (boolean false) x = refl
opens_brace (int z) x = refl
opens_brace (text bytes) x = refl
opens_brace (list items) x = refl
opens_brace (fields pairs) x = refl

key_value_regroup : (key value x : List ℕ) → key_value_text key value ++ x ≡ codes "{\"key\":\"" ++ (escaped key ++ (codes "\",\"value\":" ++ (value ++ (codes "}" ++ x))))
key_value_regroup key value x = simp append_assoc

-- no `]` can begin what follows the separator
abbrev pub NoItemCloses : List ℕ → Type 0
NoItemCloses before = (value : Datum) (x : List ℕ) → get_or (before ++ (value_text value ++ x)) 0 0 ≡ 93 → ⊥

abbrev pub NoMemberCloses : List ℕ → Type 0
NoMemberCloses before = (key value x : List ℕ) → get_or (before ++ (key_value_text key value ++ x)) 0 0 ≡ 93 → ⊥

item_opens : NoItemCloses []
item_opens value x e = let same : 123 ≡ 93 = sym (opens_brace value x) ∙ e in absurd (omega (arith, same))

item_separated : NoItemCloses (codes ",")
item_separated value x e = let same : 44 ≡ 93 = e in absurd (omega (arith, same))

pub member_opens : NoMemberCloses []
member_opens key value x e = let same : 123 ≡ 93 = e in absurd (omega (arith, same))

member_separated : NoMemberCloses (codes ",")
member_separated key value x e = let same : 44 ≡ 93 = e in absurd (omega (arith, same))

boolean_splits : (b c : Bool) (x y : List ℕ) → value_text (boolean b) ++ x ≡ value_text (boolean c) ++ y → (b ≡ c) × (x ≡ y)
boolean_splits true true x y e = (refl, append_cancel_left (codes "{\"boolValue\":true}") x y e)
boolean_splits false false x y e = (refl, append_cancel_left (codes "{\"boolValue\":false}") x y e)
boolean_splits true false x y e = let same : 116 ≡ 102 = ap (λ l. get_or l 13 0) e in absurd (omega (arith, same))
boolean_splits false true x y e = let same : 102 ≡ 116 = ap (λ l. get_or l 13 0) e in absurd (omega (arith, same))

mutual
  pub value_splits : (a b : Datum) (x y : List ℕ) → HasIntegers a → HasIntegers b → value_text a ++ x ≡ value_text b ++ y → (a ≡ b) × (x ≡ y)
  value_splits null null x y p q e = (refl, append_cancel_left (codes "{}") x y e)
  value_splits (boolean b) (boolean c) x y p q e = let same = boolean_splits b c x y e in (ap boolean same.0, same.1)
  value_splits (int z) (int other) x y p q e =
      let inner = opened (codes "{\"intValue\":\"") (signed_decimal z) (signed_decimal other) (codes "\"}") x y e in
      let same = integer_splits z other (34 ∷ 125 ∷ x) (34 ∷ 125 ∷ y) p q (goes_on 34 (125 ∷ x) refl) (goes_on 34 (125 ∷ y) refl) inner in
      (ap int same.0, ap (drop 2) same.1)
  value_splits (text bytes) (text other) x y p q e =
      let inner = opened (codes "{\"stringValue\":\"") (escaped bytes) (escaped other) (codes "\"}") x y e in
      let same = string_splits bytes other (125 ∷ x) (125 ∷ y) inner in
      (ap text same.0, ap (drop 1) same.1)
  value_splits (list items) (list other) x y p q e =
      let inner = opened (codes "{\"arrayValue\":{\"values\":[") (items_text [] items) (items_text [] other) (codes "]}}") x y e in
      let same = items_splits [] item_opens items other (125 ∷ 125 ∷ x) (125 ∷ 125 ∷ y) p q inner in
      (ap list same.0, ap (drop 2) same.1)
  value_splits (fields pairs) (fields other) x y p q e =
      let inner = opened (codes "{\"kvlistValue\":{\"values\":[") (members_text [] pairs) (members_text [] other) (codes "]}}") x y e in
      let same = members_splits [] member_opens pairs other (125 ∷ 125 ∷ x) (125 ∷ 125 ∷ y) p q inner in
      (ap fields same.0, ap (drop 2) same.1)
  value_splits a b x y p q e = let same : kind a ≡ kind b = sym (kind_told a x) ∙ ap kind_in e ∙ kind_told b y in absurd (omega (arith, same))

  items_splits : (before : List ℕ) → NoItemCloses before → (a b : Items) (x y : List ℕ) → ItemsHaveIntegers a → ItemsHaveIntegers b
      → items_text before a ++ 93 ∷ x ≡ items_text before b ++ 93 ∷ y → (a ≡ b) × (x ≡ y)
  items_splits before opens no_items no_items x y p q e = (refl, ap (drop 1) e)
  items_splits before opens no_items (item first rest) x y p q e =
      let later = items_text (codes ",") rest ++ 93 ∷ y in
      absurd (opens first later (sym (ap (λ l. get_or l 0 0) (e ∙ regroup before (value_text first) (items_text (codes ",") rest) (93 ∷ y)))))
  items_splits before opens (item first rest) no_items x y p q e =
      let later = items_text (codes ",") rest ++ 93 ∷ x in
      absurd (opens first later (ap (λ l. get_or l 0 0) (sym (regroup before (value_text first) (items_text (codes ",") rest) (93 ∷ x)) ∙ e)))
  items_splits before opens (item first rest) (item other more) x y p q e =
      let mine = items_text (codes ",") rest ++ 93 ∷ x in
      let yours = items_text (codes ",") more ++ 93 ∷ y in
      let inner = append_cancel_left before (value_text first ++ mine) (value_text other ++ yours)
      (sym (regroup before (value_text first) (items_text (codes ",") rest) (93 ∷ x)) ∙ e ∙ regroup before (value_text other) (items_text (codes ",") more) (93 ∷ y)) in
      let head = value_splits first other mine yours p.0 q.0 inner in
      let tail = items_splits (codes ",") item_separated rest more x y p.1 q.1 head.1 in
      (rw (head.0, tail.0) refl, tail.1)

  pub members_splits : (before : List ℕ) → NoMemberCloses before → (a b : Members) (x y : List ℕ) → MembersHaveIntegers a → MembersHaveIntegers b
      → members_text before a ++ 93 ∷ x ≡ members_text before b ++ 93 ∷ y → (a ≡ b) × (x ≡ y)
  members_splits before opens no_members no_members x y p q e = (refl, ap (drop 1) e)
  members_splits before opens no_members (member key value rest) x y p q e =
      let later = members_text (codes ",") rest ++ 93 ∷ y in
      absurd (opens key (value_text value) later (sym (ap (λ l. get_or l 0 0) (e ∙ regroup before (key_value_text key (value_text value)) (members_text (codes ",") rest) (93 ∷ y)))))
  members_splits before opens (member key value rest) no_members x y p q e =
      let later = members_text (codes ",") rest ++ 93 ∷ x in
      absurd (opens key (value_text value) later (ap (λ l. get_or l 0 0) (sym (regroup before (key_value_text key (value_text value)) (members_text (codes ",") rest) (93 ∷ x)) ∙ e)))
  members_splits before opens (member key value rest) (member name other more) x y p q e =
      let mine = members_text (codes ",") rest ++ 93 ∷ x in
      let yours = members_text (codes ",") more ++ 93 ∷ y in
      let inner = append_cancel_left before (key_value_text key (value_text value) ++ mine) (key_value_text name (value_text other) ++ yours)
      (sym (regroup before (key_value_text key (value_text value)) (members_text (codes ",") rest) (93 ∷ x)) ∙ e ∙ regroup before (key_value_text name (value_text other)) (members_text (codes ",") more) (93 ∷ y)) in
      let my_value = value_text value ++ (codes "}" ++ mine) in
      let your_value = value_text other ++ (codes "}" ++ yours) in
      let strings = append_cancel_left (codes "{\"key\":\"") (escaped key ++ (codes "\",\"value\":" ++ my_value)) (escaped name ++ (codes "\",\"value\":" ++ your_value))
      (sym (key_value_regroup key (value_text value) mine) ∙ inner ∙ key_value_regroup name (value_text other) yours) in
      let keys = string_splits key name (codes ",\"value\":" ++ my_value) (codes ",\"value\":" ++ your_value) strings in
      let head = value_splits value other (125 ∷ mine) (125 ∷ yours) p.0 q.0 (append_cancel_left (codes ",\"value\":") my_value your_value keys.1) in
      let tail = members_splits (codes ",") member_separated rest more x y p.1 q.1 (ap (drop 1) head.1) in
      (rw (keys.0, head.0, tail.0) refl, tail.1)
