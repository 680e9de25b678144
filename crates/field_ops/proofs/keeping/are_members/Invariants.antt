use Rattle.std.proofs.Common.{◌≡◌, drop}
use Rattle.std.specs.List.{list_all}
use Rattle.field_ops.specs.Kept.{is_member}
use Rattle.field_ops.proofs.keeping.are_members.Given as goal

abbrev pub invariant-loop-field : goal.invariant-loop-field
invariant-loop-field l = list_all is_member (drop l.field-index l.listed) ≡ list_all is_member l.listed
