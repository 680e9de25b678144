use Rattle.std.proofs.Common.{◌≡◌, drop}
use Rattle.field_ops.specs.Roots.{same_root, any_root}
use Rattle.field_ops.proofs.root.begins_any.Given as goal

abbrev pub invariant-loop-field : goal.invariant-loop-field
invariant-loop-field l = any_root (same_root l.root) (drop l.field-index l.fields) ≡ any_root (same_root l.root) l.fields
