use Rattle.std.proofs.Common.{◌∷◌, [], ap, sym, subst, refl, ◌∙◌}
use Rattle.recombine.specs.Group.{Group}
use Rattle.recombine.specs.Sources.{AreOfOthers}
use Rattle.recombine.specs.Steps.{ended_by_mark}
use Rattle.recombine.specs.Stepped.{seen}
use Rattle.recombine.specs.Table.{IsPlace, held_seen, item_seen}
use Rattle.recombine.proofs.StepLemmas.{mark_unmarked, mark_none, mark_at, others_left, sent_none, sent_some}
use Rattle.recombine.proofs.joining.Recombine.begin.Goals as goal

pub returns-then-not-is_first-clause-groups : goal.returns-then-not-is_first-clause-groups
returns-then-not-is_first-clause-groups c =
    sym (mark_unmarked c.args.self.now (item_seen c.args.x.now) c.args.groups.now (sym c.is_first.ensures ∙ c.if-not-is_first.true)).0

pub returns-then-not-is_first-clause-sent : goal.returns-then-not-is_first-clause-sent
returns-then-not-is_first-clause-sent c =
    sent_none c.args.self.now (seen c.args.out.now.items) (seen c.args.out.now.items) (ended_by_mark c.args.self.now c.args.groups.now (item_seen c.args.x.now))
    (mark_unmarked c.args.self.now (item_seen c.args.x.now) c.args.groups.now (sym c.is_first.ensures ∙ c.if-not-is_first.true)).1 refl

pub returns-in_default-clause-groups : goal.returns-in_default-clause-groups
returns-in_default-clause-groups c =
    sym (mark_none c.args.self.now (item_seen c.args.x.now) c.args.groups.now (sym c.is_first.ensures ∙ c.if-not-is_first.false) (subst (IsPlace c.args.x.now.source c.args.groups.now) c.in_default.is c.requires)).0

pub returns-in_default-clause-sent : goal.returns-in_default-clause-sent
returns-in_default-clause-sent c =
    sent_none c.args.self.now (seen c.args.out.now.items) (seen c.args.out.now.items) (ended_by_mark c.args.self.now c.args.groups.now (item_seen c.args.x.now))
    (mark_none c.args.self.now (item_seen c.args.x.now) c.args.groups.now (sym c.is_first.ensures ∙ c.if-not-is_first.false) (subst (IsPlace c.args.x.now.source c.args.groups.now) c.in_default.is c.requires)).1 refl

pub returns-clause-groups : goal.returns-clause-groups
returns-clause-groups c =
    let a = subst (IsPlace c.args.x.now.source c.args.groups.now) c.in-Some.is c.requires in
    c.remove-group.ensures.left a.before a.behind a.group a.parts a.place_is
    ∙ sym (mark_at c.args.self.now (item_seen c.args.x.now) c.args.groups.now c.in-Some.place (sym c.is_first.ensures ∙ c.if-not-is_first.false) a).0

pub returns-clause-sent : goal.returns-clause-sent
returns-clause-sent c =
    let a = subst (IsPlace c.args.x.now.source c.args.groups.now) c.in-Some.is c.requires in
    sent_some c.args.self.now (seen c.args.out.now.items) (seen c.send.new.out.items) (ended_by_mark c.args.self.now c.args.groups.now (item_seen c.args.x.now)) (held_seen c.remove-group.result ∷ [])
    ((mark_at c.args.self.now (item_seen c.args.x.now) c.args.groups.now c.in-Some.place (sym c.is_first.ensures ∙ c.if-not-is_first.false) a).1
    ∙ ap (λ (g : Group). g ∷ []) (c.remove-group.ensures.taken a.before a.behind a.group a.parts a.place_is)) c.in_ok-send.ensures

pub returns-clause-place : goal.returns-clause-place
returns-clause-place c =
    let a = subst (IsPlace c.args.x.now.source c.args.groups.now) c.in-Some.is c.requires in
    subst (AreOfOthers c.args.x.now.source) (sym (c.remove-group.ensures.left a.before a.behind a.group a.parts a.place_is)) (others_left c.args.x.now.source c.args.groups.now c.in-Some.place a)
