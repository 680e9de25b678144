use Rattle.std.proofs.Common.{ℕ, List, ◌+◌, ◌∙◌, ap, sym, refl, drop, length, Some, arith}
use Rattle.std.proofs.lemmas.List.{at_drop_more, at_drop_all, drop_all}
use Rattle.csv.specs.Machine.{next_record}
use Rattle.csv.specs.Records.{fields_of}
use Rattle.text_parsers.specs.CsvRecords.{config_with}
use Rattle.text_parsers.specs.FirstRecord.{state_of}
use Rattle.text_parsers.proofs.records.Reading.first.Goals as goal

pub loop-at-init : goal.loop-at-init
loop-at-init c = record { whole = c.requires.partial; reads = rw (c.requires.place, c.requires.fields, c.requires.field) refl }

pub loop-at-preserved : goal.loop-at-preserved
loop-at-preserved c =
    let on = rw c.if-not-goes_on.false at c.in_ok-goes_on.ensures.takes in
    record {
      whole = c.in_ok-goes_on.ensures.partial;
      reads =
          sym (on (drop (c.loop-at.at + 1) c.args.bytes.now))
          ∙ sym (at_drop_more (λ (l : List ℕ). next_record (config_with c.args.delimiter) (state_of c.loop-at.self.place) (fields_of c.loop-at.self.row) c.loop-at.self.field.items l) c.args.bytes.now c.loop-at.at 0 c.loop-at-test.true)
          ∙ c.loop-at.invariant.reads;
    }

pub returns-then-not-goes_on : goal.returns-then-not-goes_on
returns-then-not-goes_on c =
    let here = (rw c.if-not-goes_on.true at c.in_ok-goes_on.ensures.takes) (drop (c.loop-at.at + 1) c.args.bytes.now) in (
      here.0,
      sym c.loop-at.invariant.reads
          ∙ at_drop_more (λ (l : List ℕ). next_record (config_with c.args.delimiter) (state_of c.loop-at.self.place) (fields_of c.loop-at.self.row) c.loop-at.self.field.items l) c.args.bytes.now c.loop-at.at 0 c.loop-at-test.true
          ∙ here.1,
      here.2,
      omega arith,
    )

pub returns-then-not-ends : goal.returns-then-not-ends
returns-then-not-ends c =
    sym c.loop-at.invariant.reads
    ∙ at_drop_all (λ (l : List ℕ). next_record (config_with c.args.delimiter) (state_of c.loop-at.self.place) (fields_of c.loop-at.self.row) c.loop-at.self.field.items l) c.args.bytes.now c.loop-at.at c.loop-at-test.false
    ∙ (rw c.if-not-ends.true at c.in_ok-ends.ensures) c.args.delimiter

pub returns : goal.returns
returns c =
    let here = (rw c.if-not-ends.false at c.in_ok-ends.ensures) c.args.delimiter in (
      here.0,
      sym c.loop-at.invariant.reads
          ∙ at_drop_all (λ (l : List ℕ). next_record (config_with c.args.delimiter) (state_of c.loop-at.self.place) (fields_of c.loop-at.self.row) c.loop-at.self.field.items l) c.args.bytes.now c.loop-at.at c.loop-at-test.false
          ∙ here.1
          ∙ ap (λ (l : List ℕ). Some (fields_of c.end.new.self.row, here.0, l)) (sym (drop_all (length c.args.bytes.now) c.args.bytes.now (omega arith))),
      here.2,
      omega arith,
    )
