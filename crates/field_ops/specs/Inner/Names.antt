-- The names of some members among others. No public clause speaks of them.
use Rattle.std.specs.Prelude.{◌≡◌, ℕ, List, None, IsSome, ⊤}
use Rattle.entry_model.specs.Datum.{Members, no_members, member}
use Rattle.field_paths.specs.Members.{member_at, without_member}

-- `all` without those that have the name of one of `left`
abbrev pub without_members : Members → Members → Members
without_members no_members all = all
without_members (member name value left) all = without_members left (without_member name all)

-- none of `raised` has the name of one of `others`
abbrev pub AreDisjoint : Members → Members → Type 0
AreDisjoint no_members others = ⊤
AreDisjoint (member name value raised) others = (member_at name others ≡ None) × AreDisjoint raised others

-- each of `some` has the name of one of `others`
abbrev pub AreNamedIn : Members → Members → Type 0
AreNamedIn some others = (name : List ℕ) → IsSome (member_at name some) → IsSome (member_at name others)
