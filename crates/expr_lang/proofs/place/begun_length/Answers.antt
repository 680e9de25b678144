use Rattle.std.proofs.Common.{◌≡◌, ◌-◌, ◌∙◌, ap, length, take, drop, List, ℕ, max}
use Rattle.std.proofs.lemmas.List.{take_rest}
use Rattle.expr_lang.specs.Begun.{fixed_length_of}
use Rattle.expr_lang.specs.Inner.BrokenWords.{text_length_of, int_length_of}
use Rattle.expr_lang.proofs.BegunWords.{operand_is, items_are, pattern_is, operators_are}
use Rattle.expr_lang.proofs.place.begun_length.Goals as goal

pub returns-in_ok-path-in-Operand : goal.returns-in_ok-path-in-Operand
returns-in_ok-path-in-Operand c =
    let at = c.args.at in
    let sliced = take (length c.as_bytes.result.now - at) (drop at c.as_bytes.result.now) in
    let rest : sliced ≡ drop at c.args.text.now = take_rest c.as_bytes.result.now at ∙ ap (drop at) c.as_bytes.ensures.value in
    operand_is c.args.wanted (drop at c.args.text.now) c.max-in-Operand.result c.max.result c.fixed_length-fixed.result c.literal_length.result c.in_ok-path-in-Operand.path c.in-Operand.nests c.in-Operand.is
    c.max-in-Operand.ensures c.max.ensures
    (c.fixed_length-fixed.ensures ∙ ap (fixed_length_of c.args.wanted) rest)
    (c.literal_length.ensures ∙ ap (λ (l : List ℕ). max (text_length_of l) (int_length_of l)) rest)
    c.in_ok-path-in-Operand.ensures

pub returns-in-FirstItem : goal.returns-in-FirstItem
returns-in-FirstItem c =
    let at = c.args.at in
    let sliced = take (length c.as_bytes.result.now - at) (drop at c.as_bytes.result.now) in
    let rest : sliced ≡ drop at c.args.text.now = take_rest c.as_bytes.result.now at ∙ ap (drop at) c.as_bytes.ensures.value in
    items_are c.args.wanted (drop at c.args.text.now) c.max-in-FirstItem.result c.fixed_length-fixed.result c.literal_length-in-FirstItem.result c.in-FirstItem.is c.max-in-FirstItem.ensures
    (c.fixed_length-fixed.ensures ∙ ap (fixed_length_of c.args.wanted) rest)
    (c.literal_length-in-FirstItem.ensures ∙ ap (λ (l : List ℕ). max (text_length_of l) (int_length_of l)) rest)

pub returns-in-Pattern : goal.returns-in-Pattern
returns-in-Pattern c =
    let at = c.args.at in
    let sliced = take (length c.as_bytes.result.now - at) (drop at c.as_bytes.result.now) in
    let rest : sliced ≡ drop at c.args.text.now = take_rest c.as_bytes.result.now at ∙ ap (drop at) c.as_bytes.ensures.value in
    pattern_is c.args.wanted (drop at c.args.text.now) c.text_length.result c.in-Pattern.is (c.text_length.ensures ∙ ap text_length_of rest)

pub returns-in-Operator : goal.returns-in-Operator
returns-in-Operator c =
    let at = c.args.at in
    let sliced = take (length c.as_bytes.result.now - at) (drop at c.as_bytes.result.now) in
    let rest : sliced ≡ drop at c.args.text.now = take_rest c.as_bytes.result.now at ∙ ap (drop at) c.as_bytes.ensures.value in
    operators_are c.args.wanted (drop at c.args.text.now) c.fixed_length-fixed.result c.in-Operator.is (c.fixed_length-fixed.ensures ∙ ap (fixed_length_of c.args.wanted) rest)
