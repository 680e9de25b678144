use Rattle.std.proofs.Common.{ℕ, List, subst}
use Rattle.std.specs.Prelude.{IsUtf8}
use Rattle.entry_model.specs.Datum.{Datum, datum}
use Rattle.entry_model.specs.Lawful.{IsLawful}
use Rattle.entry_model.proofs.Nesting.{is_fields}
use Rattle.entry_model.proofs.entry.Entry.nests_within.Goals as goal

pub returns-clause-lawful : goal.returns-clause-lawful
returns-clause-lawful c =
    let entry = c.args.self.now in
    record {
      body = c.if-not-nests_within.ensures.lawful;
      attributes = subst (λ (d : Datum). IsLawful d) (is_fields (datum entry.attributes) entry.attributes_are_a_map) c.if-not-nests_within-2.ensures.lawful;
      resource = subst (λ (d : Datum). IsLawful d) (is_fields (datum entry.resource) entry.resource_is_a_map) c.if-not-nests_within-3.ensures.lawful;
      severity = entry.severity.in_range;
      severity_text = subst (λ (l : List ℕ). IsUtf8 l) c.as_str-severity_text.ensures c.as_str-severity_text.utf8;
      timestamp = c.nanoseconds_fit.ensures;
    }
