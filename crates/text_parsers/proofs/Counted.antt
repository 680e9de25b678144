-- How many records and fields a text has.
use Rattle.std.proofs.Common.{◌≡◌, ◌≢◌, ℕ, List, [], ◌∷◌, ◌∙◌, ap, sym, refl, subst, length}
use Rattle.entry_model.specs.Datum.{members_of}
use Rattle.json_text.specs.Grammar.{Member, put_all}
use Rattle.text_parsers.specs.declared.fault.ParseFault.TheVariants.{FieldCount, Syntax}
use Rattle.text_parsers.specs.declared.records.Split.{Split}
use Rattle.text_parsers.specs.declared.records.Split.TheVariants.{Nothing, One, More}
use Rattle.text_parsers.specs.CsvRecords.{Columns, records_of, named, IsRecordText, IsRecordFault, no_record, other_count, second_record}
use Rattle.text_parsers.specs.Inner.FieldSlices.{HasRecord}
use Rattle.text_parsers.specs.Split.{IsSplit}

abbrev columns_of : List (List ℕ) → ℕ → Columns
columns_of names delimiter = record { names = names; delimiter = delimiter }

module _ (columns : Columns) (names : List (List ℕ)) (delimiter : ℕ) (same : columns_of names delimiter ≡ columns) (front : List ℕ) (want : ℕ) (want_is : want ≡ length names) where
  there : (want got : ℕ) → want ≡ length names → IsRecordFault (columns_of names delimiter) front (FieldCount (length names) got) → IsRecordFault columns front (FieldCount want got)
  there want got e f =
      subst (λ (c : Columns). IsRecordFault c front (FieldCount want got)) same (subst (λ n. IsRecordFault (columns_of names delimiter) front (FieldCount n got)) (sym e) f)

  pub record_there : (count : ℕ) → HasRecord columns.delimiter front count → HasRecord delimiter front count
  record_there count h = subst (λ n. HasRecord n front count) (sym (ap (λ (c : Columns). c.delimiter) same)) h

  pub told_none : (split : Split) (first : List (List ℕ)) → IsSplit (records_of delimiter front) split first → split ≡ Nothing → IsRecordFault columns front (FieldCount want 0)
  told_none Nothing first s e = there want 0 want_is (no_record s)
  told_none One first s e = absurd (cc e)
  told_none More first s e = absurd (cc e)

  module _ (first : List (List ℕ)) (got : ℕ) (got_is : got ≡ length first) where
    counted : length first ≢ length names → (more : List (List (List ℕ))) → records_of delimiter front ≡ first ∷ more → IsRecordFault columns front (FieldCount want got)
    counted n more e = there want got want_is (subst (λ k. IsRecordFault (columns_of names delimiter) front (FieldCount (length names) k)) (sym got_is) (other_count e n))

    apart : got ≢ want → length first ≢ length names
    apart n e = n (got_is ∙ e ∙ sym want_is)

    alike : got ≡ want → length first ≡ length names
    alike e = sym got_is ∙ e ∙ want_is

    pub told_count : (split : Split) → IsSplit (records_of delimiter front) split first → (split ≡ Nothing → ⊥) → got ≢ want → IsRecordFault columns front (FieldCount want got)
    told_count Nothing s e n = absurd (e refl)
    told_count One s e n = counted (apart n) [] s
    told_count More s e n = counted (apart n) (s.0 ∷ s.1) s.2

    pub told_more : (split : Split) → IsSplit (records_of delimiter front) split first → split ≡ More → got ≡ want → IsRecordFault columns front (Syntax 0)
    told_more Nothing s e n = absurd (cc e)
    told_more One s e n = absurd (cc e)
    told_more More s e n = subst (λ (c : Columns). IsRecordFault c front (Syntax 0)) same (second_record s.2 (alike n))

    pub read_one : (split : Split) → IsSplit (records_of delimiter front) split first → (split ≡ Nothing → ⊥) → (split ≡ More → ⊥) → got ≡ want → (members : List Member) → members ≡ put_all [] (named names first)
        → IsRecordText columns (members_of members) front
    read_one Nothing s e f n members is = absurd (e refl)
    read_one More s e f n members is = absurd (f refl)
    read_one One s e f n members is =
        subst (λ (c : Columns). IsRecordText c (members_of members) front) same
        (record { fields = first; only = s; counted = alike n; members_are = ap members_of is })
