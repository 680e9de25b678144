use Rattle.std.proofs.Common.{◌≡◌, length}
use Rattle.std.specs.Vec.Iter.{into_iter_items, into_iter_len}
use Rattle.field_paths.specs.MapOf.{members_seen}
use Rattle.field_ops.specs.Rows.{with_members}
use Rattle.field_ops.proofs.flattening.raise.Given as goal

abbrev pub invariant-loop-name : goal.invariant-loop-name
invariant-loop-name l = record {
  makes : with_members (members_seen (into_iter_items l.name-iterator)) (members_seen l.all.entries) ≡ with_members (members_seen l.fn.raised.entries) (members_seen l.fn.members.entries);
  len : into_iter_len l.name-iterator ≡ length (into_iter_items l.name-iterator);
}
