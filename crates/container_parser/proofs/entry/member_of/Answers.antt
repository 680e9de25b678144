use Rattle.std.proofs.Common.{◌≡◌, ◌∙◌, ap, sym, refl, Option, None, Some, option_map, option_copied, Bor}
use Rattle.entry_model.specs.declared.value.Value.{Value}
use Rattle.entry_model.specs.Datum.{datum}
use Rattle.entry_model.proofs.Data.{datum_map}
use Rattle.field_paths.proofs.Entries.{member_at-seen}
use Rattle.container_parser.proofs.entry.member_of.Goals as goal

seen : (r : Option (Bor Value)) → option_map (λ (member : Bor Value). datum member.now) r ≡ option_map datum (option_copied r)
seen None = refl
seen (Some member) = refl

pub returns : goal.returns
returns c = rw (c.in-Map.is, datum_map c.in-Map.members)
    (seen c.get.result ∙ ap (option_map datum) c.get.ensures.value ∙ sym (member_at-seen c.args.name.now c.in-Map.members.entries))
