use Rattle.std.proofs.Common.{◌≡◌, List, subst}
use Rattle.std.proofs.lemmas.Result.{err_from_is_err_and}
use Rattle.serde_json.proofs.Views.{Entry}
use Rattle.serde_json.specs.View.{members_view}
use Rattle.settings_text.specs.Mappings as mappings
use Rattle.settings_text.proofs.InTurn.{with_front}
use Rattle.settings_text.proofs.Mapped.{goes_by, stops_at, all_read}
use Rattle.settings_text.proofs.mappings.rules.Goals as goal

pub returns-in_err-add_named : goal.returns-in_err-add_named
returns-in_err-add_named c =
    let p = err_from_is_err_and c.from_residual.result c.from_residual.ensures.1 in
    rw (p.1, p.2)
    (stops_at c.args.key.now c.as_str.result.now (c.in-Some.name.now, c.in-Some.value.now) c.loop-name.name-iterator c.next.new.self (mappings.rules c.args.key.now (members_view c.args.members.now.entries)) c.in-Some.ensures.steps c.as_str.ensures.value
    c.loop-name.rules.items c.loop-name.invariant c.in_err-add_named.field-0.0 c.in_err-add_named.ensures)

pub loop-name-preserved : goal.loop-name-preserved
loop-name-preserved c =
    goes_by c.args.key.now c.as_str.result.now (c.in-Some.name.now, c.in-Some.value.now) c.loop-name.name-iterator c.next.new.self (mappings.rules c.args.key.now (members_view c.args.members.now.entries)) c.in-Some.ensures.steps c.as_str.ensures.value
    c.loop-name.rules.items c.loop-name.invariant c.add_named.new.rules.items c.in_ok-add_named.ensures

pub returns : goal.returns
returns c =
    all_read c.args.key.now c.loop-name.rules.items (mappings.rules c.args.key.now (members_view c.args.members.now.entries))
    (subst (λ (l : List Entry). with_front c.loop-name.rules.items (mappings.rules c.args.key.now (members_view l)) ≡ mappings.rules c.args.key.now (members_view c.args.members.now.entries)) c.in-None.ensures.steps.0 c.loop-name.invariant)
