use Rattle.std.proofs.Common.{ℕ, List, ◌==◌, ◌∙◌, ap, sym, get_or}
use Rattle.text_parsers.proofs.FirstFields.{first_bare}
use Rattle.text_parsers.proofs.field_slices.first_field.Goals as goal

pub returns : goal.returns
returns c = λ fields are.
    first_bare c.args.delimiter c.args.text.now c.first_part.result.0.now c.first_part.result.1.now c.first_part.result.2
    (ap (λ (l : List ℕ). get_or l 0 0 == 34) (sym c.as_bytes.ensures.value) ∙ sym c.begins_with_quote.ensures ∙ c.if-begins_with_quote.false) c.first_part.ensures.first fields are
