use Rattle.std.proofs.Common.{subst}
use Rattle.std.proofs.lemmas.Result.{on_ok_weaker}
use Rattle.entry_model.specs.Datum.{Datum, datum}
use Rattle.state_codec.specs.Rules.{IsSpellable}
use Rattle.state_codec.proofs.Counts.{is_fields}
use Rattle.state_codec.proofs.put.put_entry.Goals as goal

pub returns-clause-lawful : goal.returns-clause-lawful
returns-clause-lawful c = on_ok_weaker c.put_time.result (λ small. record {
  body = c.in_ok-put_value.ensures.lawful;
  attributes = subst (λ (d : Datum). IsSpellable d) (is_fields (datum c.args.entry.now.attributes) c.args.entry.now.attributes_are_a_map) c.in_ok-put_value-2.ensures.lawful;
  resource = subst (λ (d : Datum). IsSpellable d) (is_fields (datum c.args.entry.now.resource) c.args.entry.now.resource_is_a_map) c.in_ok-put_value-3.ensures.lawful;
  severity = c.args.entry.now.severity.in_range;
  severity_text = c.in_ok-put_text.ensures.lawful;
  timestamp = small;
}) c.put_time.ensures.lawful
