-- Reading the fields of a header.
use Rattle.std.proofs.Common.{◌≡◌, ℕ, ◌≤◌, List, [], ◌∷◌, ◌∙◌, ap, sym, refl, subst}
use Rattle.syslog_parser.specs.declared.fault.Stop.{Stop}
use Rattle.syslog_parser.specs.Bytes.{is_printable}
use Rattle.syslog_parser.specs.Inner.Reads.{StopsWith, HasNoWord, is_space, StopsInFields, here, later, PutsField, PutsHeader}
use Rattle.syslog_parser.specs.Rfc5424.{Limited, Valued, header_fields, AreFields, no_field, a_field}
use Rattle.syslog_parser.specs.Told.{Member, put_all, told_field, told_fields}
use Rattle.syslog_parser.proofs.Putting.{put_all-append}
use Rattle.syslog_parser.proofs.Stops.{stops_so}

-- what stops in a field stops in the fields
pub field_stops : (name : List ℕ) (most : ℕ) (fields : List Limited) (text : List ℕ) (stop : Stop) → 1 ≤ most
    → StopsWith (HasNoWord is_printable most is_space text) stop → StopsWith (StopsInFields ((name, most) ∷ fields) text) stop
field_stops name most fields text stop some s =
    stops_so (HasNoWord is_printable most is_space text) (StopsInFields ((name, most) ∷ fields) text) (λ left found. here some found) stop s

-- and what stops in the fields behind one
pub fields_stop : (name : List ℕ) (most : ℕ) (fields : List Limited) (text rest : List ℕ) (old new : List Member) (stop : Stop) → PutsField name most text old new rest
    → StopsWith (StopsInFields fields rest) stop → StopsWith (StopsInFields ((name, most) ∷ fields) text) stop
fields_stop name most fields text rest old new stop p s =
    stops_so (StopsInFields fields rest) (StopsInFields ((name, most) ∷ fields) text) (λ left found. later p.spelled found) stop s

-- fields that are put in one after another
pub record PutsFields (fields : List Limited) (text : List ℕ) (old new : List Member) (rest : List ℕ) : Type 0 where
  pub values : List Valued
  pub spelled : AreFields fields text values rest
  pub told : new ≡ put_all old (told_fields values)

pub no_fields_put : (text : List ℕ) (members : List Member) → PutsFields [] text members members text
no_fields_put text members = record { values = []; spelled = no_field; told = refl }

pub field_put : (name : List ℕ) (most : ℕ) (fields : List Limited) (text next rest : List ℕ) (old middle new : List Member) → PutsField name most text old middle next
    → PutsFields fields next middle new rest → PutsFields ((name, most) ∷ fields) text old new rest
field_put name most fields text next rest old middle new p q = record {
  values = (name, p.own) ∷ q.values;
  spelled = subst (λ (l : List ℕ). AreFields ((name, most) ∷ fields) l ((name, p.own) ∷ q.values) rest) (sym p.spelled.is) (a_field p.spelled.short q.spelled);
  told =
      q.told ∙ ap (λ (l : List Member). put_all l (told_fields q.values)) p.told
      ∙ sym (put_all-append old (told_field (name, p.own)) (told_fields q.values));
}

pub header_put : (text rest : List ℕ) (old new : List Member) → PutsFields header_fields text old new rest → PutsHeader text old new rest
header_put text rest old new p = record { values = p.values; fields = p.spelled; told = p.told }
