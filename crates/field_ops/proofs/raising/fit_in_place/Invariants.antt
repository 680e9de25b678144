use Rattle.std.proofs.Common.{drop}
use Rattle.field_paths.specs.MapOf.{members_seen}
use Rattle.field_ops.specs.Inner.Names.{AreDisjoint}
use Rattle.field_ops.proofs.raising.fit_in_place.Given as goal

abbrev pub invariant-loop-name : goal.invariant-loop-name
invariant-loop-name l = AreDisjoint (members_seen (drop l.name-index l.name-items)) (members_seen l.members.entries) → AreDisjoint (members_seen l.name-items) (members_seen l.members.entries)
