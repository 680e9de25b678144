use Rattle.std.proofs.Common.{◌≡◌, drop}
use Rattle.field_paths.specs.MapOf.{members_seen}
use Rattle.field_ops.specs.Inner.Names.{without_members}
use Rattle.field_ops.proofs.raising.remove_all.Given as goal

abbrev pub invariant-loop-name : goal.invariant-loop-name
invariant-loop-name l = without_members (members_seen (drop l.name-index l.name-items)) (members_seen l.members.entries) ≡ without_members (members_seen l.name-items) (members_seen l.initial.members.entries)
