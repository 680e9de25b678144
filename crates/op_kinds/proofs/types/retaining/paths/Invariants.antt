use Rattle.std.proofs.Common.{take}
use Rattle.op_kinds.specs.Compiled.{ArePathTexts}
use Rattle.op_kinds.proofs.types.retaining.paths.Given as goal

abbrev pub invariant-loop-text : goal.invariant-loop-text
invariant-loop-text l = ArePathTexts (take l.text-index l.texts) l.paths.items
