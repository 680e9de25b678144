use Rattle.std.proofs.Common.{drop}
use Rattle.field_paths.specs.MapOf.{members_seen}
use Rattle.field_ops.specs.Rows.{with_members}
use Rattle.field_ops.proofs.Merged.{Merging}
use Rattle.field_ops.proofs.merging.put_absent.Given as goal

abbrev pub invariant-loop-name : goal.invariant-loop-name
invariant-loop-name l = Merging (with_members (members_seen l.initial.members.entries) (members_seen l.held.entries)) (members_seen (drop l.name-index l.name-items)) (members_seen l.members.entries)
