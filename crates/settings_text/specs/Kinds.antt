-- The kinds of a key, each read from what stands at the key. A place names it in a fault.
use Rattle.std.specs.Prelude.{◌≡◌, ℕ, ◌+◌, ◌≤◌, length, List, [], ◌∷◌, ◌++◌, Bool, true, false, ◌&&◌, nat_lt, ℤ, pos, nat_abs, int_le, if◌then◌else◌, Option, Some, None, Result, Ok, Err}
use Rattle.serde_json.specs.Data.{Data, Items, no_items, item, Members, no_members, member, Num, depth}
use Rattle.serde_json.specs.Find.{get, as_bool, as_number, as_str, as_array, as_object, as_i64, is_float}
use Rattle.entry_model.specs.Datum as datum
use Rattle.settings_text.specs.declared.fault.SettingsFault.{SettingsFault}
use Rattle.settings_text.specs.declared.fault.SettingsFault.TheVariants.{Missing, Unknown, WrongKind, OutOfRange, Fraction}
use Rattle.settings_text.specs.Outcome.{◌>>=◌, or_fault}
use Rattle.settings_text.specs.Place.{item_place, member_place}
use Rattle.settings_text.specs.ValueData.{value_data, members_data, has_fraction}

-- A kind: what a value at a place is read as.
abbrev pub Kind : Type 0 → Type 0
Kind A = List ℕ → Data → Result A SettingsFault

abbrev pub or_missing : {A : Type 0} → Kind A → List ℕ → Option Data → Result A SettingsFault
or_missing kind place None = Err (Missing place)
or_missing kind place (Some d) = kind place d

abbrev pub or_default : {A : Type 0} → A → Kind A → List ℕ → Option Data → Result A SettingsFault
or_default default kind place None = Ok default
or_default default kind place (Some d) = kind place d

-- what an object has at a key that must be there, by its kind
abbrev pub must : {A : Type 0} → List ℕ → List ℕ → Kind A → Data → Result A SettingsFault
must at key kind d = or_missing kind (at ++ key) (get key d)

-- what an object has at a key, by its kind, and a default where it has none
abbrev pub may : {A : Type 0} → List ℕ → List ℕ → Kind A → A → Data → Result A SettingsFault
may at key kind default d = or_default default kind (at ++ key) (get key d)

abbrev pub text : Kind (List ℕ)
text place d = or_fault (WrongKind place) (as_str d)

abbrev pub flag : Kind Bool
flag place d = or_fault (WrongKind place) (as_bool d)

-- one of the names that have a meaning
abbrev pub name : {A : Type 0} → (List ℕ → Option A) → Kind A
name meaning place d = text place d >>= λ name. or_fault (OutOfRange place) (meaning name)

abbrev pub integer_within : ℤ → ℤ → List ℕ → Option ℤ → Result ℤ SettingsFault
integer_within low high place None = Err (OutOfRange place)
integer_within low high place (Some z) = if int_le low z && int_le z high then Ok z else Err (OutOfRange place)

-- a number with a fraction or an exponent is no whole number, and one past 64 bits with a sign is in no range
abbrev pub number_within : ℤ → ℤ → List ℕ → Num → Result ℤ SettingsFault
number_within low high place n = if is_float n then Err (Fraction place) else integer_within low high place (as_i64 n)

-- a whole number from low to high
abbrev pub integer : ℤ → ℤ → Kind ℤ
integer low high place d = or_fault (WrongKind place) (as_number d) >>= number_within low high place

-- a whole number from low to high, none of them below zero
abbrev pub whole : ℕ → ℕ → Kind ℕ
whole low high place d = integer (pos low) (pos high) place d >>= λ z. Ok (nat_abs z)

abbrev pub one_text : List ℕ → List ℕ → List ℕ → List ℕ → Option Data → Option Data → Result (Bool × List ℕ) SettingsFault
one_text object at first second None None = Err (Missing (at ++ first))
one_text object at first second None (Some e) = text (at ++ second) e >>= λ content. Ok (false, content)
one_text object at first second (Some e) None = text (at ++ first) e >>= λ content. Ok (true, content)
one_text object at first second (Some e) (Some f) = Err (OutOfRange object)

-- Exactly one of two keys of an object has a text: whether it is that of the first, and the text. Where none is there the
-- first is missing; both are a fault of the object.
abbrev pub either_text : List ℕ → List ℕ → List ℕ → List ℕ → Data → Result (Bool × List ℕ) SettingsFault
either_text object at first second d = one_text object at first second (get first d) (get second d)

-- the items of a list, each read with its number from n on
unfoldable pub each : {A : Type 0} → (ℕ → Data → Result A SettingsFault) → ℕ → Items → Result (List A) SettingsFault
each read n no_items = Ok []
each read n (item d ds) = do
  first ← read n d
  others ← each read (n + 1) ds
  Ok (first ∷ others)

abbrev pub item_texts : List ℕ → Items → Result (List (List ℕ)) SettingsFault
item_texts place = each (λ n. text (item_place place n)) 0

-- a list of texts
abbrev pub texts : Kind (List (List ℕ))
texts place d = or_fault (WrongKind place) (as_array d) >>= item_texts place

abbrev pub some_item_texts : List ℕ → Items → Result (List (List ℕ)) SettingsFault
some_item_texts place no_items = Err (OutOfRange place)
some_item_texts place (item d ds) = item_texts place (item d ds)

-- a list of at least one text
abbrev pub some_texts : Kind (List (List ℕ))
some_texts place d = or_fault (WrongKind place) (as_array d) >>= some_item_texts place

-- a text, which stands for a list of one, or a list of at least one text
abbrev pub text_or_texts : Kind (List (List ℕ))
text_or_texts place d = elim (as_str d) [ Some text ↦ Ok (text ∷ []) | None ↦ some_texts place d ]

-- what is read, as something that may be missing
abbrev pub given : {A : Type 0} → Kind A → Kind (Option A)
given kind place d = kind place d >>= λ x. Ok (Some x)

-- each member is a text
unfoldable pub are_texts : List ℕ → Members → Result (Unit {0}) SettingsFault
are_texts place no_members = Ok tt
are_texts place (member key d ds) = text (member_place place key) d >>= λ _. are_texts place ds

-- an object of texts
abbrev pub fields : Kind datum.Members
fields place d = do
  members ← or_fault (WrongKind place) (as_object d)
  _ ← are_texts place members
  Ok (members_data members)

-- any value
abbrev pub value : Kind datum.Datum
value place d = if has_fraction d then Err (Fraction place) else (if nat_lt 64 (depth d) then Err (OutOfRange place) else Ok (value_data d))

-- Each key of the members passes the test, or the least that does not is refused. Members are in the order of their keys.
unfoldable pub known : (List ℕ → Bool) → List ℕ → Members → Result (Unit {0}) SettingsFault
known is_key at no_members = Ok tt
known is_key at (member key d ds) = if is_key key then known is_key at ds else Err (Unknown (at ++ key))

-- a list that is written has a member
abbrev pub IsSomeIfWritten : Option (List (List ℕ)) → Type 0
IsSomeIfWritten written = (ids : List (List ℕ)) → written ≡ Some ids → 1 ≤ length ids
