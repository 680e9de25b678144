use Rattle.std.proofs.Common.{◌≡◌, map, take}
use Rattle.entry_model.specs.Datum.{datum}
use Rattle.entry_model.specs.Seen.{seen}
use Rattle.entry_model.proofs.copy.+copy.Given as goal

abbrev pub invariant-copy_values-loop-value : goal.invariant-copy_values-loop-value
invariant-copy_values-loop-value l = map datum l.copies.items ≡ map datum (take l.value-index l.value-items)

abbrev pub invariant-copy_members-loop-key : goal.invariant-copy_members-loop-key
invariant-copy_members-loop-key l = seen l.copies.items ≡ seen (take l.key-index l.key-items)
