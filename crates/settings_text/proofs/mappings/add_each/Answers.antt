use Rattle.std.proofs.Common.{ℕ, Result}
use Rattle.std.proofs.lemmas.Result.{err_from_is_err_and}
use Rattle.serde_json.specs.View.{items_view}
use Rattle.serde_json.specs.Data.{Data}
use Rattle.settings_text.specs.Kinds.{each}
use Rattle.settings_text.specs.Mappings.{rule_of}
use Rattle.settings_text.specs.Place.{item_place}
use Rattle.settings_text.specs.Rules.{Rule}
use Rattle.settings_text.specs.declared.fault.SettingsFault.{SettingsFault}
use Rattle.settings_text.proofs.InTurn.{with_front, goes_on, ends, is_done}
use Rattle.settings_text.proofs.Mapped.{refused_alone}
use Rattle.settings_text.proofs.mappings.add_each.Goals as goal

pub returns-in_err-rule : goal.returns-in_err-rule
returns-in_err-rule c =
    let p = err_from_is_err_and c.from_residual.result c.from_residual.ensures.1 in
    let vs = c.deref-value-items.result.now in
    let read : ℕ → Data → Result Rule SettingsFault = λ n. rule_of c.args.severity.number (item_place c.args.key.now n) in
    rw (p.1, p.2, ← c.deref-value-items.ensures.value)
    (refused_alone c.in_err-rule.field-0.0 c.args.rules.now.items (each read 0 (items_view vs))
    (ends c.in_err-rule.field-0.0 read vs c.loop-index.rules.items c.loop-index.index c.value-item.result (with_front c.args.rules.now.items (each read 0 (items_view vs))) c.loop-index-test.true c.value-item.is c.in_err-rule.ensures c.loop-index.invariant))

pub loop-index-preserved : goal.loop-index-preserved
loop-index-preserved c =
    let vs = c.deref-value-items.result.now in
    let read : ℕ → Data → Result Rule SettingsFault = λ n. rule_of c.args.severity.number (item_place c.args.key.now n) in
    rw c.in_ok-push.ensures.items
    (goes_on read vs c.loop-index.rules.items c.loop-index.index c.value-item.result c.in_ok-rule.rule (with_front c.args.rules.now.items (each read 0 (items_view vs))) c.loop-index-test.true c.value-item.is c.in_ok-rule.ensures c.loop-index.invariant)

pub returns : goal.returns
returns c =
    let vs = c.deref-value-items.result.now in
    let read : ℕ → Data → Result Rule SettingsFault = λ n. rule_of c.args.severity.number (item_place c.args.key.now n) in
    rw (← c.deref-value-items.ensures.value)
    (is_done read vs c.loop-index.rules.items c.loop-index.index (with_front c.args.rules.now.items (each read 0 (items_view vs))) c.loop-index-test.false c.loop-index.invariant)
