-- The way down to a value, and what is left of a root from which one is taken.
use Rattle.std.proofs.Common.{◌≡◌, ◌≢◌, ℕ, suc, ◌<◌, List, [], ◌∷◌, ◌∙◌, ap, sym, refl, subst, length, drop, get_or, Option, None, Some, inl, inr, ◌⊎◌}
use Rattle.std.proofs.Math.Seq.{drop-cons}
use Rattle.std.specs.Option.{option_and_then, unwrap_or}
use Rattle.entry_model.specs.Datum.{Datum, null, boolean, int, text, list, fields, Members}
use Rattle.entry_model.specs.Lawful.{KeysAscend}
use Rattle.entry_model.specs.LogRecord.{LogRecord, members_in}
use Rattle.field_paths.specs.Change.{on_the_way, without_value, taken}
use Rattle.field_paths.specs.InOrder.{AscendDown}
use Rattle.field_paths.specs.Members.{member_at}
use Rattle.field_paths.specs.ValueAt.{value_at, root_value}
use Rattle.field_paths.specs.declared.path.Root.{Root}
use Rattle.field_paths.specs.declared.path.Root.TheVariants.{Body, Attributes, Resource}

-- the member on the way to a value
pub record OnTheWay (name : List ℕ) (names : List (List ℕ)) (value : Datum) (ms : Members) : Type 0 where
  pub below : Datum
  pub there : member_at name ms ≡ Some below
  pub down : value_at names below ≡ Some value

pub on_way : (name : List ℕ) (names : List (List ℕ)) (value : Datum) (ms : Members) → option_and_then (value_at names) (member_at name ms) ≡ Some value → OnTheWay name names value ms
on_way name names value ms h = by (member_at name ms) refl h
  where
    by : (o : Option Datum) → member_at name ms ≡ o → option_and_then (value_at names) o ≡ Some value → OnTheWay name names value ms
    by None e h = absurd (cc h)
    by (Some below) e h = record { below = below; there = e; down = h }

-- a value that has one below it is a map
pub map_on_the_way : (name : List ℕ) (names : List (List ℕ)) (value target : Datum) → value_at (name ∷ names) target ≡ Some value → target ≡ fields (members_in target)
map_on_the_way name names value null h = absurd (cc h)
map_on_the_way name names value (boolean b) h = absurd (cc h)
map_on_the_way name names value (int z) h = absurd (cc h)
map_on_the_way name names value (text bytes) h = absurd (cc h)
map_on_the_way name names value (list items) h = absurd (cc h)
map_on_the_way name names value (fields ms) h = refl

pub same_root : (a b : Root) → (a ≡ b) ⊎ (a ≢ b)
same_root Body Body = inl refl
same_root Body Attributes = inr (λ (e : Body ≡ Attributes). cc e)
same_root Body Resource = inr (λ (e : Body ≡ Resource). cc e)
same_root Attributes Body = inr (λ (e : Attributes ≡ Body). cc e)
same_root Attributes Attributes = inl refl
same_root Attributes Resource = inr (λ (e : Attributes ≡ Resource). cc e)
same_root Resource Body = inr (λ (e : Resource ≡ Body). cc e)
same_root Resource Attributes = inr (λ (e : Resource ≡ Attributes). cc e)
same_root Resource Resource = inl refl

pub other_root : (root other : Root) (names : List (List ℕ)) (entry : LogRecord) → root ≢ other → root_value other (taken root names entry) ≡ root_value other entry
other_root Body Body names entry apart = absurd (apart refl)
other_root Body Attributes [] entry apart = refl
other_root Body Attributes (name ∷ names) entry apart = refl
other_root Body Resource [] entry apart = refl
other_root Body Resource (name ∷ names) entry apart = refl
other_root Attributes Body [] entry apart = refl
other_root Attributes Body (name ∷ names) entry apart = refl
other_root Attributes Attributes names entry apart = absurd (apart refl)
other_root Attributes Resource [] entry apart = refl
other_root Attributes Resource (name ∷ names) entry apart = refl
other_root Resource Body [] entry apart = refl
other_root Resource Body (name ∷ names) entry apart = refl
other_root Resource Attributes [] entry apart = refl
other_root Resource Attributes (name ∷ names) entry apart = refl
other_root Resource Resource names entry apart = absurd (apart refl)

-- what is taken from a map leaves a map
left_map : (name : List ℕ) (names : List (List ℕ)) (target : Datum) → fields (members_in (without_value name names target)) ≡ without_value name names target
left_map name [] target = refl
left_map name (next ∷ names) target = refl

pub own_root : (root : Root) (name : List ℕ) (names : List (List ℕ)) (entry : LogRecord) → root_value root (taken root (name ∷ names) entry) ≡ without_value name names (root_value root entry)
own_root Body name names entry = refl
own_root Attributes name names entry = left_map name names (fields entry.attributes)
own_root Resource name names entry = left_map name names (fields entry.resource)

-- ---- maps whose members ascend

nothing_ascends : (names : List (List ℕ)) → AscendDown names null
nothing_ascends [] = tt
nothing_ascends (name ∷ names) = (tt, nothing_ascends names)

-- where a name is missing, nothing is below it
pub ends_in_order : (names : List (List ℕ)) (at : ℕ) (name : List ℕ) (target : Datum) → at < length names → name ≡ get_or names at name → KeysAscend None (members_in target)
    → member_at name (members_in target) ≡ None → AscendDown (drop at names) target
ends_in_order names at name target within is order none =
    let below : AscendDown (drop (suc at) names) (on_the_way name (members_in target)) = subst (AscendDown (drop (suc at) names)) (sym (ap (λ (o : Option Datum). unwrap_or o null) none)) (nothing_ascends (drop (suc at) names)) in
    subst (λ (l : List (List ℕ)). AscendDown l target) (sym (drop-cons names at name within ∙ ap (λ (n : List ℕ). n ∷ drop (suc at) names) (sym is))) (order, below)
