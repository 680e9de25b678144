use Rattle.std.proofs.Common.{◌≡◌, take}
use Rattle.entry_model.specs.Seen.{seen, unset_of}
use Rattle.entry_model.proofs.copy.unset_fields.Given as goal

abbrev pub invariant-loop-key : goal.invariant-loop-key
invariant-loop-key l = seen l.unset.items ≡ unset_of (seen (take l.key-index l.key-items))
