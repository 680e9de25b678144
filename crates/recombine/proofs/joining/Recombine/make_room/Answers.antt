use Rattle.std.proofs.Common.{sym, subst, refl, ◌∙◌, inl, inr}
use Rattle.recombine.specs.Sources.{AreOfOthers}
use Rattle.recombine.specs.Steps.{ended_by_room}
use Rattle.recombine.specs.Stepped.{seen}
use Rattle.recombine.specs.Table.{item_seen}
use Rattle.recombine.proofs.StepLemmas.{room_left, no_room, sent_none, sent_some}
use Rattle.recombine.proofs.joining.Recombine.make_room.Goals as goal

pub returns-then-not-has_no_room-clause-groups : goal.returns-then-not-has_no_room-clause-groups
returns-then-not-has_no_room-clause-groups c =
    sym (room_left c.args.self.now (item_seen c.args.x.now) c.args.groups.now (sym c.has_no_room.ensures ∙ c.if-not-has_no_room.true)).0

pub returns-then-not-has_no_room-clause-sent : goal.returns-then-not-has_no_room-clause-sent
returns-then-not-has_no_room-clause-sent c =
    sent_none c.args.self.now (seen c.args.out.now.items) (seen c.args.out.now.items) (ended_by_room c.args.self.now c.args.groups.now (item_seen c.args.x.now))
    (room_left c.args.self.now (item_seen c.args.x.now) c.args.groups.now (sym c.has_no_room.ensures ∙ c.if-not-has_no_room.true)).1 refl

pub returns-then-not-has_no_room-clause-room : goal.returns-then-not-has_no_room-clause-room
returns-then-not-has_no_room-clause-room c = inr (sym c.has_no_room.ensures ∙ c.if-not-has_no_room.true)

pub returns-clause-groups : goal.returns-clause-groups
returns-clause-groups c = c.in_ok-close.ensures.left ∙ sym (no_room c.args.self.now (item_seen c.args.x.now) c.args.groups.now (sym c.has_no_room.ensures ∙ c.if-not-has_no_room.false)).0

pub returns-clause-sent : goal.returns-clause-sent
returns-clause-sent c =
    sent_some c.args.self.now (seen c.args.out.now.items) (seen c.close.new.out.items) (ended_by_room c.args.self.now c.args.groups.now (item_seen c.args.x.now)) c.args.groups.now
    (no_room c.args.self.now (item_seen c.args.x.now) c.args.groups.now (sym c.has_no_room.ensures ∙ c.if-not-has_no_room.false)).1 c.in_ok-close.ensures.sent

pub returns-clause-place : goal.returns-clause-place
returns-clause-place c = subst (AreOfOthers c.args.x.now.source) (sym c.in_ok-close.ensures.left) tt

pub returns-clause-room : goal.returns-clause-room
returns-clause-room c = inl c.in_ok-close.ensures.left
