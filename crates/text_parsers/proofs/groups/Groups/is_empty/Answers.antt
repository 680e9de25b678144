use Rattle.std.proofs.Common.{◌∙◌, ap, sym, List, ℕ, zip, eqb-true, eq-eqb}
use Rattle.std.proofs.lemmas.List.{nil_from_length}
use Rattle.text_parsers.proofs.Matching.{nothing_zipped}
use Rattle.text_parsers.proofs.groups.Groups.is_empty.Goals as goal

pub returns : goal.returns
returns c =
    let numbers = c.self.inside.numbers in
    let names = c.self.inside.names in (
      λ empty. sym c.self.view_is ∙ ap (λ (l : List ℕ). zip l names) (nil_from_length numbers.items (sym numbers.ok.0 ∙ eqb-true numbers.len 0 (sym c.is_empty.ensures ∙ empty))),
      λ none. c.is_empty.ensures ∙ eq-eqb numbers.len 0 (numbers.ok.0 ∙ nothing_zipped numbers.items names c.self.invariant (c.self.view_is ∙ none)),
    )
