-- What texts of one record say, by the grammar of text_parsers and computed.
use Rattle.std.proofs.Common.{◌≡◌, ◌≢◌, ℕ, List, [], ◌∷◌, length, ◌==◌, Bool, true, false, Option, None, Some, rules, refl, sym, ap, ◌∙◌, eqb-true, eq-eqb}
use Rattle.std.specs.Prelude.{if◌then◌else◌}
use Rattle.entry_model.specs.Datum.{Datum, null, boolean, int, text, list, fields, Members, members_of}
use Rattle.json_text.specs.Grammar.{put_all}
use Rattle.op_kinds.specs.Faults.{of_parse_fault}
use Rattle.op_kinds.specs.Said.{as_record, of_records, record_in, said}
use Rattle.op_kinds.specs.declared.row.RowFault.TheVariants as row
use Rattle.text_parsers.specs.CsvRecords.{Columns, records_of, named, IsRecordText, IsRecordFault, no_record, other_count, second_record, no_memory}
use Rattle.text_parsers.specs.TextValue.{IsTextWith, IsValueFault}
use Rattle.text_parsers.specs.declared.fault.ParseFault.{ParseFault}

abbrev by_count : Columns → List (List ℕ) → Bool → Option Members
by_count columns cells counted = if counted then Some (members_of (put_all [] (named columns.names cells))) else None

says_record : (columns : Columns) (bytes : List ℕ) (made : Members) → IsRecordText columns made bytes → record_in columns bytes ≡ Some made
unfolding record_in
says_record columns bytes made is =
    ap (of_records columns) is.only ∙ ap (by_count columns is.fields) (eq-eqb (length is.fields) (length columns.names) is.counted) ∙ ap (λ (m : Members). Some m) (sym is.members_are)

record_said_by : (columns : Columns) (bytes : List ℕ) (made : Members) → record_in columns bytes ≡ Some made → IsRecordText columns made bytes
unfolding record_in
record_said_by columns bytes made = by (records_of columns.delimiter bytes) refl
  where
    one : (cells : List (List ℕ)) → records_of columns.delimiter bytes ≡ cells ∷ [] → (counted : Bool) → (length cells == length columns.names) ≡ counted → by_count columns cells counted ≡ Some made → IsRecordText columns made bytes
    one cells only true counted says = record { fields = cells; only = only; counted = eqb-true (length cells) (length columns.names) counted; members_are = cc (sym says) }
    one cells only false counted says = absurd (search (rules, says))

    by : (rows : List (List (List ℕ))) → records_of columns.delimiter bytes ≡ rows → of_records columns rows ≡ Some made → IsRecordText columns made bytes
    by [] are says = absurd (search (rules, says))
    by (cells ∷ []) are says = one cells are (length cells == length columns.names) refl says
    by (cells ∷ next ∷ more) are says = absurd (search (rules, says))

pub record_said : (columns : Columns) (value : Datum) (made : Members) → IsTextWith value (IsRecordText columns made) → said (as_record columns) value ≡ Some made
record_said columns null made none = absurd none
record_said columns (boolean b) made none = absurd none
record_said columns (int z) made none = absurd none
record_said columns (text bytes) made is = says_record columns bytes made is
record_said columns (list items) made none = absurd none
record_said columns (fields under) made none = absurd none

other_length : (n m : ℕ) → n ≢ m → (n == m) ≡ false
other_length n m other = by (n == m) refl
  where
    by : (b : Bool) → (n == m) ≡ b → b ≡ false
    by true is = absurd (other (eqb-true n m is))
    by false is = refl

one_row : (columns : Columns) (cells : List (List ℕ)) (more : List (List (List ℕ))) → length cells ≢ length columns.names → of_records columns (cells ∷ more) ≡ None
one_row columns cells [] other = ap (by_count columns cells) (other_length (length cells) (length columns.names) other)
one_row columns cells (next ∷ more) other = refl

no_record_in : (columns : Columns) (bytes : List ℕ) (fault : ParseFault) → IsRecordFault columns bytes fault → of_parse_fault fault ≢ row.Memory → record_in columns bytes ≡ None
unfolding record_in
no_record_in columns bytes fault (no_record none) some = ap (of_records columns) none
no_record_in columns bytes fault (other_count {first = cells} {more = more} are other) some = ap (of_records columns) are ∙ one_row columns cells more other
no_record_in columns bytes fault (second_record are counted) some = ap (of_records columns) are
no_record_in columns bytes fault no_memory some = absurd (some refl)

pub record_unsaid : (columns : Columns) (value : Datum) (fault : ParseFault) → IsValueFault (IsRecordFault columns) value fault → of_parse_fault fault ≢ row.Memory → said (as_record columns) value ≡ None
record_unsaid columns null fault is some = refl
record_unsaid columns (boolean b) fault is some = refl
record_unsaid columns (int z) fault is some = refl
record_unsaid columns (text bytes) fault is some = no_record_in columns bytes fault is some
record_unsaid columns (list items) fault is some = refl
record_unsaid columns (fields under) fault is some = refl

pub records_are_read : (columns : Columns) (bytes : List ℕ) (made : Members) → (record_in columns bytes ≡ Some made → IsRecordText columns made bytes) × (IsRecordText columns made bytes → record_in columns bytes ≡ Some made)
records_are_read columns bytes made = (record_said_by columns bytes made, says_record columns bytes made)
