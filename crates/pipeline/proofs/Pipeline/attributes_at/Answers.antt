use Rattle.std.proofs.Common.{◌≡◌, ◌∙◌, sym, ap}
use Rattle.entry_model.specs.Datum.{members_of}
use Rattle.field_paths.specs.MapOf.{members_seen}
use Rattle.pipeline.specs.Entries.{file_attributes}
use Rattle.pipeline.specs.Parts.{settings_of}
use Rattle.pipeline.proofs.Texts.{numbered_at}
use Rattle.pipeline.proofs.Pipeline.attributes_at.Goals as goal

pub returns : goal.returns
returns c = λ origin shared.
    let copied : members_seen c.in_ok-attributes.attributes.entries ≡ file_attributes (settings_of c.args.self.now) origin.path = ap members_of c.in_ok-attributes.ensures ∙ shared.attributes in
    rw (c.in_ok-share.ensures, c.int.ensures, copied) at c.in_ok-put.ensures ∙ numbered_at (settings_of c.args.self.now) origin.path c.args.number _ (sym c.in-Some.is ∙ shared.number)

pub returns-in_default : goal.returns-in_default
returns-in_default c = λ origin shared.
    ap members_of c.in_ok-attributes.ensures ∙ shared.attributes ∙ numbered_at (settings_of c.args.self.now) origin.path c.args.number _ (sym c.in_default.is ∙ shared.number)
