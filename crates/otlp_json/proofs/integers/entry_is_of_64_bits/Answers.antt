use Rattle.entry_model.specs.Datum.{Datum, null, boolean, int, text, list, fields, datum}
use Rattle.entry_model.specs.LogRecord.{members_in}
use Rattle.otlp_json.specs.IsOf64Bits.{HasIntegers, MembersHaveIntegers}
use Rattle.otlp_json.proofs.integers.entry_is_of_64_bits.Goals as goal

in_members : (value : Datum) → HasIntegers value → MembersHaveIntegers (members_in value)
in_members null h = tt
in_members (boolean b) h = tt
in_members (int z) h = tt
in_members (text bytes) h = tt
in_members (list items) h = tt
in_members (fields pairs) h = h

pub returns : goal.returns
returns c = record {
  body = c.value_has_integers.ensures;
  attributes = in_members (datum c.args.entry.now.attributes) c.value_has_integers-2.ensures;
  resource = in_members (datum c.args.entry.now.resource) c.value_has_integers-3.ensures;
  timestamp = c.is_time.ensures;
  severity = c.is_severity.ensures;
}
