use Rattle.std.proofs.Common.{◌≡◌, drop}
use Rattle.expr_lang.specs.Words.{number}
use Rattle.expr_lang.proofs.lexer.number.Given as goal

abbrev pub invariant-loop-byte : goal.invariant-loop-byte
invariant-loop-byte l = number l.value (drop l.byte-index l.digits) ≡ number 0 l.digits
