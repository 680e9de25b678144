use Rattle.std.proofs.Common.{◌≡◌, ◌++◌, length}
use denote.Text.{Utf8}
use denote.Shadow.{shadow}
use Rattle.text_parsers.specs.CsvRecords.{parts_of}
use Rattle.text_parsers.proofs.csv_op.names_of.Given as goal

abbrev pub invariant-parts : goal.invariant-parts
invariant-parts l = record {
  utf8 : shadow (Utf8 l.rest);
  parts : l.names.items ++ parts_of l.delimiter l.rest ≡ parts_of l.delimiter l.header;
}

abbrev pub decreases-parts : goal.decreases-parts
decreases-parts l = length l.rest
