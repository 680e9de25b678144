use Rattle.std.proofs.Common.{◌≡◌, [], drop}
use Rattle.csv.specs.Machine.{next_record}
use Rattle.csv.specs.Records.{fields_of, partial_of}
use Rattle.csv.specs.declared.parser.State.TheVariants as st
use Rattle.text_parsers.specs.CsvRecords.{config_with}
use Rattle.text_parsers.specs.FirstRecord.{state_of}
use Rattle.text_parsers.proofs.records.Reading.first.Given as goal

abbrev pub invariant-loop-at : goal.invariant-loop-at
invariant-loop-at l = record {
  whole : partial_of l.self.row ≡ [];
  reads : next_record (config_with l.delimiter) (state_of l.self.place) (fields_of l.self.row) l.self.field.items (drop l.at l.bytes)
      ≡ next_record (config_with l.delimiter) st.StartRecord [] [] l.bytes;
}
