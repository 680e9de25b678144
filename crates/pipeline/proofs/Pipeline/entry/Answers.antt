use Rattle.std.proofs.Common.{refl, ap}
use Rattle.entry_model.specs.Datum.{members_of}
use Rattle.entry_model.proofs.Data.{datum_text, datum_map}
use Rattle.pipeline.proofs.Pipeline.entry.Goals as goal

pub returns : goal.returns
returns c = λ origin shared.
    rw (datum_text c.args.body, datum_map c.in_ok-attributes_at.field-0, datum_map c.in_ok-copy_fields.field-0, c.in_ok-attributes_at.ensures origin shared, ap members_of c.in_ok-copy_fields.ensures, c.as_fields.ensures, c.empty.ensures) refl
