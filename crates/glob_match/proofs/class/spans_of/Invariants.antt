use Rattle.std.proofs.Common.{◌≡◌, ◌++◌, drop}
use Rattle.glob_match.specs.CharacterSet.{spans_from, spans_of}
use Rattle.glob_match.proofs.class.spans_of.Given as goal

abbrev pub invariant-loop-sign : goal.invariant-loop-sign
invariant-loop-sign l = l.spans.items ++ spans_from l.begun (drop l.sign-index l.signs) ≡ spans_of l.signs
