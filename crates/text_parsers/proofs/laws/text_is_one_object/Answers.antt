use Rattle.std.proofs.Common.{◌≡◌}
use Rattle.entry_model.specs.Datum.{fields, Members}
use Rattle.json_text.proofs.Faults.{one_value}
use Rattle.text_parsers.proofs.laws.text_is_one_object.Goals as goal

same_members : (members other : Members) → fields members ≡ fields other → members ≡ other
same_members members other e = cc e

pub returns : goal.returns
returns c = λ text members other a b. same_members members other (one_value 64 text (fields members) (fields other) a b)
