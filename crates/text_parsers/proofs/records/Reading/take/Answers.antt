use Rattle.std.proofs.Common.{ℕ, List, [], ◌∙◌, ap, sym, refl, Some}
use Rattle.csv.specs.Machine.{next_record, step}
use Rattle.csv.specs.Records.{fields_of}
use Rattle.csv.specs.declared.parser.State.TheVariants as st
use Rattle.csv.specs.declared.parser.Action.TheVariants as act
use Rattle.text_parsers.specs.CsvRecords.{config_with}
use Rattle.text_parsers.specs.FirstRecord.{state_of}
use Rattle.text_parsers.proofs.ReadRecords.{next_goes, next_ends, field_pushed}
use Rattle.text_parsers.proofs.records.Reading.take.Goals as goal

pub returns-in-Skips-clause-takes : goal.returns-in-Skips-clause-takes
returns-in-Skips-clause-takes c = λ rest.
    next_goes (config_with c.args.delimiter) (state_of c.args.self.now.place) (state_of c.in-Skips.next) act.Skip (fields_of c.args.self.now.row) c.args.self.now.field.items c.args.byte rest c.in-Skips.ensures refl

pub returns-in_ok-push-in-Adds-clause-takes : goal.returns-in_ok-push-in-Adds-clause-takes
returns-in_ok-push-in-Adds-clause-takes c = λ rest.
    next_goes (config_with c.args.delimiter) (state_of c.args.self.now.place) (state_of c.in-Adds.next) act.Copy (fields_of c.args.self.now.row) c.args.self.now.field.items c.args.byte rest c.in-Adds.ensures refl
    ∙ ap (λ (l : List ℕ). next_record (config_with c.args.delimiter) (state_of c.in-Adds.next) (fields_of c.args.self.now.row) l rest) (sym c.in_ok-push-in-Adds.ensures.items)

pub returns-in_ok-push_field-in-EndsField-clause-takes : goal.returns-in_ok-push_field-in-EndsField-clause-takes
returns-in_ok-push_field-in-EndsField-clause-takes c = λ rest.
    next_goes (config_with c.args.delimiter) (state_of c.args.self.now.place) st.StartField act.EndField (fields_of c.args.self.now.row) c.args.self.now.field.items c.args.byte rest c.in-EndsField.ensures refl
    ∙ ap (λ (l : List (List ℕ)). next_record (config_with c.args.delimiter) st.StartField l [] rest)
    (sym (field_pushed (fields_of c.push_field.new.self) (fields_of c.args.self.now.row) _ c.deref.result.now c.args.self.now.field.items c.in_ok-push_field-in-EndsField.ensures.fields c.requires c.deref.ensures.value))
    ∙ ap (λ (l : List ℕ). next_record (config_with c.args.delimiter) st.StartField (fields_of c.push_field.new.self) l rest) (sym c.clear.ensures.items)

pub returns-in_ok-push_field-in-EndsRecord-clause-takes : goal.returns-in_ok-push_field-in-EndsRecord-clause-takes
returns-in_ok-push_field-in-EndsRecord-clause-takes c = λ rest. (
  (step (config_with c.args.delimiter) (state_of c.args.self.now.place) c.args.byte).0,
  next_ends (config_with c.args.delimiter) (state_of c.args.self.now.place) (fields_of c.args.self.now.row) c.args.self.now.field.items c.args.byte rest c.in-EndsRecord.ensures.0
      ∙ ap (λ (l : List (List ℕ)). Some (l, (step (config_with c.args.delimiter) (state_of c.args.self.now.place) c.args.byte).0, rest))
      (sym (field_pushed (fields_of c.push_field-in-EndsRecord.new.self) (fields_of c.args.self.now.row) _ c.deref-in-EndsRecord.result.now c.args.self.now.field.items c.in_ok-push_field-in-EndsRecord.ensures.fields c.requires
      c.deref-in-EndsRecord.ensures.value)),
  c.in-EndsRecord.ensures.1,
)
