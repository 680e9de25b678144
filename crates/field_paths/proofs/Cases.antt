-- Cases of options, and of values that are maps.
use Rattle.std.proofs.Common.{◌≡◌, ℕ, List, [], ◌∷◌, refl, Option, None, Some, true, length, arith}
use Rattle.std.specs.Option.{OnSome, IfNone}
use Rattle.entry_model.specs.Datum.{Datum, null, boolean, int, text, list, fields, is_map_datum}
use Rattle.entry_model.specs.LogRecord.{members_in}

pub on_some_weaker : {T P Q : Type 0} (o : Option T) → (P → Q) → OnSome o P → OnSome o Q
on_some_weaker None f h = h
on_some_weaker (Some x) f h = f h

pub if_none_weaker : {T P Q : Type 0} (o : Option T) → (P → Q) → IfNone o P → IfNone o Q
if_none_weaker None f h = f h
if_none_weaker (Some x) f h = h

-- a map is made of its members
pub of_its_members : (d : Datum) → is_map_datum d ≡ true → d ≡ fields (members_in d)
of_its_members null h = absurd (cc h)
of_its_members (boolean b) h = absurd (cc h)
of_its_members (int z) h = absurd (cc h)
of_its_members (text bytes) h = absurd (cc h)
of_its_members (list values) h = absurd (cc h)
of_its_members (fields inner) h = refl

pub nothing_left : (names : List (List ℕ)) → length names ≡ 0 → names ≡ []
nothing_left [] h = refl
nothing_left (name ∷ names) h = absurd (omega arith)
