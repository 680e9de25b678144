use Rattle.std.proofs.Common.{◌≡◌, List, ◌++◌, ◌==◌, length, ap, ◌∙◌}
use Rattle.serde_json.specs.declared.value.Value.{Value}
use Rattle.serde_json.specs.View.{view, items_view}
use Rattle.settings_text.specs.Kinds.{some_texts, item_texts}
use Rattle.settings_text.proofs.InTurn.{some_is, nonempty}
use Rattle.settings_text.proofs.kinds.listed_texts.Goals as goal

pub returns-in-Some-2 : goal.returns-in-Some-2
returns-in-Some-2 c =
    let at_key = c.args.at.now ++ c.args.key.now in
    let vs = c.in-Some.values.now.items in
    let same : some_texts at_key (view c.args.value.now) ≡ item_texts at_key (items_view vs) = rw (← c.in-Some.ensures) (some_is at_key vs (nonempty (length vs) c.is_empty.result (c.is_empty.ensures ∙ ap (λ (l : List Value). length l == 0) c.as_slice.ensures.value) c.if-is_empty.false)) in
    rw same c.item_texts.ensures
