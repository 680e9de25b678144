use Rattle.std.proofs.Common.{◌≡◌, List, ℕ, [], drop}
use Rattle.csv.specs.Records.{fields_of}
use Rattle.entry_model.specs.Seen.{seen}
use Rattle.json_text.specs.Grammar.{put_all}
use Rattle.text_parsers.specs.CsvRecords.{named}
use Rattle.text_parsers.specs.Inner.Known.{AreAt}
use Rattle.text_parsers.proofs.csv_op.name_fields.Given as goal

abbrev pub invariant-loop-index : goal.invariant-loop-index
invariant-loop-index l = (left : List (List ℕ)) × AreAt (seen l.members.entries) left (drop l.index l.places)
    × (put_all (seen l.members.entries) (named left (drop l.index (fields_of l.row))) ≡ put_all [] (named l.names (fields_of l.row)))
