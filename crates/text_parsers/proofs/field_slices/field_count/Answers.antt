use Rattle.std.proofs.Common.{ℕ, List, ◌==◌, ◌∙◌, ap, sym, get_or}
use Rattle.text_parsers.proofs.FieldSlices.{has_counted, not_empty}
use Rattle.text_parsers.proofs.field_slices.field_count.Goals as goal

pub returns : goal.returns
returns c =
    let same = c.as_bytes-bytes.ensures.value in
    has_counted c.args.delimiter c.args.text.now c.as_bytes-bytes.result.now c.count_fields.result same
    (not_empty c.args.text.now c.as_bytes-bytes.result.now same (sym c.is_empty.ensures ∙ c.if-is_empty.false))
    (ap (λ (l : List ℕ). get_or l 0 0 == 239) (sym same) ∙ sym c.may_be_mark.ensures ∙ c.if-may_be_mark.false)
    c.count_fields.ensures
