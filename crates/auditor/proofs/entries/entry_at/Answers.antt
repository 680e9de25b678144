use Rattle.std.proofs.Common.{refl, ap}
use Rattle.entry_model.specs.Datum.{members_of}
use Rattle.entry_model.proofs.Data.{datum_text, datum_map}
use Rattle.auditor.proofs.entries.entry_at.Goals as goal

pub returns : goal.returns
returns c = λ path shared.
    rw (datum_text c.in_ok-new.field-0, c.in_ok-new.ensures, datum_map c.in_ok-attributes_at.field-0, datum_map c.in_ok-copy_fields.field-0, c.in_ok-attributes_at.ensures path shared, ap members_of c.in_ok-copy_fields.ensures, c.as_fields.ensures, c.empty.ensures) refl
