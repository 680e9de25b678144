use Rattle.std.proofs.Common.{◌≡◌, drop}
use Rattle.field_ops.specs.Kept.{any_at_member}
use Rattle.field_ops.proofs.keeping.lists.Given as goal

abbrev pub invariant-loop-field : goal.invariant-loop-field
invariant-loop-field l = any_at_member (drop l.field-index l.listed) l.root l.name ≡ any_at_member l.listed l.root l.name
