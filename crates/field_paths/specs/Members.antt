-- One member of a map, whose members stand in ascending byte order of their names.
use Rattle.std.specs.Prelude.{ℕ, List, cond, Option, None, Some}
use Rattle.std.specs.Ordering.{match_ordering, is_eq, nat_cmp}
use Rattle.std.specs.Cmp.Lexicographic.{slice_cmp}
use Rattle.entry_model.specs.Datum.{Datum, Members, no_members, member}

-- the value of the member `name`
abbrev pub member_at : List ℕ → Members → Option Datum
member_at name no_members = None
member_at name (member other value rest) = cond (is_eq (slice_cmp nat_cmp name other)) (Some value) (member_at name rest)

-- the members with `value` as the member `name`: in the place of the one that is there, or put into the order
abbrev pub with_member : List ℕ → Datum → Members → Members
with_member name value no_members = member name value no_members
with_member name value (member other old rest) = match_ordering (slice_cmp nat_cmp name other)
    (member name value (member other old rest))
    (member other value rest)
    (member other old (with_member name value rest))

-- the members without the member `name`
abbrev pub without_member : List ℕ → Members → Members
without_member name no_members = no_members
without_member name (member other value rest) = cond (is_eq (slice_cmp nat_cmp name other)) rest (member other value (without_member name rest))
