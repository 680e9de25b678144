use Rattle.std.proofs.Common.{◌≡◌, ◌++◌, ◌∷◌, [], ◌∙◌, ap, sym, subst, append_assoc, take, map}
use Rattle.std.specs.List.Sorted.{IsStrictlySortedBy}
use Rattle.std.specs.Map.{keys_of}
use Rattle.std.specs.String.{string_cmp}
use Rattle.serde_json.proofs.Views.{Entry}
use Rattle.serde_json.specs.View.{view}
use Rattle.entry_model.specs.Datum.{items_of}
use Rattle.settings_text.specs.ValueData.{value_data}
use Rattle.std.proofs.lemmas.List.{take_all}
use Rattle.settings_text.proofs.Copies.{items_copied, one_more}
use Rattle.settings_text.proofs.values.+value.Goals as goal

pub fields_of-loop-key-preserved : goal.fields_of-loop-key-preserved
fields_of-loop-key-preserved t c =
    let l = c.loop-key in
    let done = l.invariant.0 in
    let e : Entry = (c.in-Some.key.now, c.in-Some.value.now) in
    let left = c.next.new.self in
    let all : c.args.members.now.entries ≡ done ++ e ∷ left = l.invariant.1 ∙ ap (λ es. done ++ es) c.in-Some.ensures.steps in
    let sorted = subst (λ es. IsStrictlySortedBy string_cmp (keys_of es)) all c.iter-key-items.ensures.ordered in (
      done ++ e ∷ [],
      all ∙ sym (append_assoc done (e ∷ []) left),
      one_more l.copies.entries c.insert.new.self.entries done left e c.in_ok-key.key c.in_ok-copy.copy c.in_ok-insert.ensures.entries (c.in_ok-key.ensures ∙ c.as_str.ensures.value) c.in_ok-copy.ensures sorted l.invariant.2,
    )

pub values_of-returns : goal.values_of-returns
values_of-returns t c =
    let all : take c.loop-value.value-index c.deref-value-items.result.now ≡ c.deref-value-items.result.now = take_all _ _ c.loop-value-test.false in
    ap items_of (c.loop-value.invariant ∙ ap (map (λ v. value_data (view v))) (all ∙ c.deref-value-items.ensures.value)) ∙ items_copied c.args.values.now.items
