use Rattle.std.proofs.Common.{drop}
use Rattle.entry_model.specs.Datum.{Datum}
use Rattle.json_text.specs.Reads.{Leads, word_from, Around}
use Rattle.json_text.proofs.reader.word.Given as goal

abbrev pub invariant-loop-wanted : goal.invariant-loop-wanted
invariant-loop-wanted l = (value : Datum) → Leads {Around = Around} l.text l.at (word_from l.word value) l.place (word_from (drop l.wanted-index l.word) value)
