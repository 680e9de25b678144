use Rattle.text_parsers.proofs.Quoting.{Opened}
use Rattle.text_parsers.proofs.quotes.unclosed_from.Given as goal

abbrev pub invariant-loop-at : goal.invariant-loop-at
invariant-loop-at l = Opened l.text l.at l.quote l.place
