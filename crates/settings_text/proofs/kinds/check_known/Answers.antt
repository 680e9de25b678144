use Rattle.std.proofs.Common.{sym, ◌∙◌}
use Rattle.serde_json.specs.View.{members_view}
use Rattle.settings_text.specs.Kinds.{known}
use Rattle.settings_text.proofs.InTurn.{stays, refused}
use Rattle.settings_text.proofs.kinds.check_known.Goals as goal

pub returns-then-not-has : goal.returns-then-not-has
returns-then-not-has g c = λ _.
    rw c.in_ok-place.ensures
    (rw c.as_str-then-not-has.ensures.value
    (rw (← c.as_str.ensures.value)
    (refused (g.K.Words.test c.args.keys.now) c.args.at.now c.as_str.result.now (c.in-Some.name.now, c.in-Some._value.now) c.loop-name.name-iterator c.next.new.self
    (known (g.K.Words.test c.args.keys.now) c.args.at.now (members_view c.args.members.now.entries))
    c.in-Some.ensures.steps c.as_str.ensures.value (sym c.has.ensures ∙ c.if-not-has.true) c.loop-name.invariant)))

pub loop-name-preserved : goal.loop-name-preserved
loop-name-preserved g c =
    stays (g.K.Words.test c.args.keys.now) c.args.at.now c.as_str.result.now (c.in-Some.name.now, c.in-Some._value.now) c.loop-name.name-iterator c.next.new.self
    (known (g.K.Words.test c.args.keys.now) c.args.at.now (members_view c.args.members.now.entries))
    c.in-Some.ensures.steps c.as_str.ensures.value (sym c.has.ensures ∙ c.if-not-has.false) c.loop-name.invariant
