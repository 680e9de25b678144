use Rattle.std.proofs.Common.{◌≡◌, map, drop}
use Rattle.entry_model.specs.Datum.{datum, items_of}
use Rattle.expr_lang.specs.Kinds.{is_item}
use Rattle.expr_lang.specs.OperandOf.{seen_as}
use Rattle.expr_lang.proofs.kinds.has_member.Given as goal

abbrev pub invariant-loop-value : goal.invariant-loop-value
invariant-loop-value l = is_item (seen_as l.one) (items_of (map datum l.values.items)) ≡ is_item (seen_as l.one) (items_of (map datum (drop l.value-index l.values.items)))
