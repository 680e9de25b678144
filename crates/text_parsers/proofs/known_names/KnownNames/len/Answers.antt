use Rattle.std.proofs.Common.{ap, sym, ◌∙◌, length}
use Rattle.std.proofs.lemmas.List.{length-map}
use Rattle.text_parsers.specs.Inner.Known.{name_at}
use Rattle.text_parsers.proofs.known_names.KnownNames.len.Goals as goal

pub returns : goal.returns
returns c =
    let known = c.self.inside in
    c.len.ensures ∙ known.places.ok.0 ∙ sym (length-map known.places.items (name_at known.unset.entries)) ∙ ap length c.self.view_is
