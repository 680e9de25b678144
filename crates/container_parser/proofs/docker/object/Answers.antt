use Rattle.std.proofs.Common.{◌∙◌, ap, sym, subst}
use Rattle.entry_model.specs.ByName.{ByName}
use Rattle.entry_model.proofs.Data.{datum_map}
use Rattle.entry_model.specs.Datum.{Datum, datum, fields, members_of}
use Rattle.entry_model.specs.Seen.{seen}
use Rattle.entry_model.specs.declared.value.Value.{Value}
use Rattle.json_text.specs.Grammar.{IsText}
use Rattle.container_parser.proofs.docker.object.Goals as goal

pub returns-in-Ok-Map-clause-ok : goal.returns-in-Ok-Map-clause-ok
returns-in-Ok-Map-clause-ok c =
    let arm = c.in-Ok-Map in
    subst (λ (d : Datum). IsText 64 c.args.text.now d)
    (ap datum arm.field-0-is ∙ datum_map arm.members ∙ ap (λ (m : ByName Value). fields (members_of (seen m.entries))) (sym arm.members-is))
    arm.ensures.ok
