use Rattle.std.proofs.Common.{ℕ, List, [], ◌∙◌, ap, sym, Some}
use Rattle.csv.specs.Records.{fields_of}
use Rattle.csv.specs.declared.parser.State.TheVariants as st
use Rattle.text_parsers.specs.CsvRecords.{config_with}
use Rattle.text_parsers.specs.FirstRecord.{state_of}
use Rattle.text_parsers.proofs.ReadRecords.{ends_here, front_ends, is_inside, field_pushed}
use Rattle.text_parsers.proofs.records.Reading.end.Goals as goal

pub returns-in-Front : goal.returns-in-Front
returns-in-Front c = λ delimiter. rw c.in-Front.is (front_ends (config_with delimiter) (fields_of c.args.self.now.row) c.args.self.now.field.items)

pub returns-in_ok-push_field-in_default : goal.returns-in_ok-push_field-in_default
returns-in_ok-push_field-in_default c = λ delimiter. (
  st.StartRecord,
  ends_here (config_with delimiter) (state_of c.args.self.now.place) (fields_of c.args.self.now.row) c.args.self.now.field.items (is_inside c.args.self.now.place c.in_default.not-Front)
      ∙ ap (λ (l : List (List ℕ)). Some (l, st.StartRecord, []))
      (sym (field_pushed (fields_of c.push_field.new.self) (fields_of c.args.self.now.row) _ c.deref.result.now c.args.self.now.field.items c.in_ok-push_field-in_default.ensures.fields c.requires c.deref.ensures.value)),
  tt,
)
