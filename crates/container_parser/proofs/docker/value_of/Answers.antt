use Rattle.std.proofs.Common.{◌≡◌, ◌∙◌, ap, sym, refl, Option, None, Some, option_map, option_copied, Bor}
use Rattle.entry_model.specs.declared.value.Value.{Value}
use Rattle.entry_model.specs.Datum.{datum}
use Rattle.container_parser.proofs.Records.{value_at-seen}
use Rattle.container_parser.proofs.docker.value_of.Goals as goal

known : (r : Option (Bor Value)) → option_map (λ (value : Bor Value). datum value.now) r ≡ option_map datum (option_copied r)
known None = refl
known (Some value) = refl

pub returns : goal.returns
returns c = known c.get.result ∙ ap (option_map datum) c.get.ensures.value ∙ sym (value_at-seen c.args.name.now c.args.members.now.entries)
