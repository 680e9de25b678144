use Rattle.std.proofs.Common.{◌≡◌, take}
use Rattle.poll_core.proofs.saving.copy_eras.Given as goal

abbrev pub invariant-loop-text : goal.invariant-loop-text
invariant-loop-text l = l.texts.items ≡ take l.text-index l.eras
