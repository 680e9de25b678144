-- The listed fields as members of the roots, and an entry with those members alone. No public clause speaks of them.
use Rattle.std.specs.Prelude.{ℕ, List, [], ◌∷◌, length, Bool, false, cond, ◌==◌, ◌&&◌, nat_eq}
use Rattle.std.specs.Cmp.Lexicographic.{pointwise}
use Rattle.std.specs.List.{list_any}
use Rattle.entry_model.specs.Datum.{fields, Members, no_members, member}
use Rattle.entry_model.specs.LogRecord.{LogRecord, members_in}
use Rattle.field_paths.specs.Place.{Place}
use Rattle.field_paths.specs.declared.path.Root.{Root}
use Rattle.field_paths.specs.declared.path.Root.TheVariants.{Body, Attributes, Resource}
use Rattle.field_ops.specs.Roots.{no_fields, same_root}

-- the place is that of a member of a root
abbrev pub is_member : Place → Bool
is_member place = length place.names == 1

abbrev pub first_is : List ℕ → List (List ℕ) → Bool
first_is name [] = false
first_is name (first ∷ names) = pointwise nat_eq first name

-- the place is at the member of this name, or below it
abbrev pub is_at_member : Root → List ℕ → Place → Bool
is_at_member root name place = same_root root place.root && first_is name place.names

abbrev pub any_at_member : List Place → Root → List ℕ → Bool
any_at_member listed root name = list_any (is_at_member root name) listed

-- the members whose names meet the test
abbrev pub members_where : (List ℕ → Bool) → Members → Members
members_where test no_members = no_members
members_where test (member name value rest) = cond (test name) (member name value (members_where test rest)) (members_where test rest)

-- of each root the members that meet the test, and nothing else
abbrev pub roots_where : (Root → List ℕ → Bool) → LogRecord → LogRecord
roots_where test entry = record no_fields {
  body = fields (members_where (test Body) (members_in entry.body));
  attributes = members_where (test Attributes) entry.attributes;
  resource = members_where (test Resource) entry.resource;
}
