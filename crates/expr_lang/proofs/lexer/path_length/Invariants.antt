use Rattle.std.proofs.Common.{◌≡◌, ◌+◌, drop}
use Rattle.expr_lang.specs.declared.lexer.Spot.TheVariants as spot
use Rattle.expr_lang.specs.Row.{path_length}
use Rattle.expr_lang.proofs.lexer.path_length.Given as goal

abbrev pub invariant-loop-length : goal.invariant-loop-length
invariant-loop-length l = l.length + path_length l.spot (drop l.length l.bytes) ≡ path_length spot.Name l.bytes
