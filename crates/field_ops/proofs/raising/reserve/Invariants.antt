use Rattle.std.proofs.Common.{drop}
use Rattle.field_paths.specs.MapOf.{members_seen}
use Rattle.field_ops.proofs.Raised.{Put}
use Rattle.field_ops.proofs.raising.reserve.Given as goal

abbrev pub invariant-loop-name : goal.invariant-loop-name
invariant-loop-name l = Put (members_seen l.raised.entries) (members_seen l.initial.members.entries) (members_seen (drop l.name-index l.name-items)) (members_seen l.members.entries)
