use Rattle.std.proofs.Common.{◌++◌, ◌∷◌, [], true, false, ℕ, List, length, arith, ap, sym, refl, ◌∙◌}
use Rattle.std.proofs.lemmas.List.{append-nil}
use Rattle.entry_model.specs.LogRecord.{log_record}
use Rattle.recombine.specs.Steps.{opened, joined, ended_by_end}
use Rattle.recombine.specs.Stepped.{seen}
use Rattle.recombine.specs.Table.{group_seen, item_seen}
use Rattle.recombine.specs.declared.group.OpenGroup.{OpenGroup}
use Rattle.recombine.proofs.StepLemmas.{end_alone, has_place_left, short_text, on_ok, on_ok_then, sent_none, sent_some}
use Rattle.recombine.proofs.joining.Recombine.start.Goals as goal

pub returns-then-is_done-clause-groups : goal.returns-then-is_done-clause-groups
returns-then-is_done-clause-groups c =
    on_ok c.send_with.result _
    (sym ((end_alone c.args.self.now (item_seen c.args.x) c.args.groups.now c.requires.new true (sym c.is_done.ensures.value ∙ c.if-is_done.true)).0 ∙ append-nil c.args.groups.now))

pub returns-then-is_done-clause-sent : goal.returns-then-is_done-clause-sent
returns-then-is_done-clause-sent c =
    on_ok_then c.send_with.result _ _
    (λ sent. sent_some c.args.self.now (seen c.args.out.now.items) (seen c.send_with.new.out.items)
    (ended_by_end c.args.self.now (joined c.args.self.now c.args.groups.now (item_seen c.args.x)) (item_seen c.args.x)) (opened (item_seen c.args.x) ∷ [])
    (end_alone c.args.self.now (item_seen c.args.x) c.args.groups.now c.requires.new true (sym c.is_done.ensures.value ∙ c.if-is_done.true)).1 sent) c.send_with.ensures

pub push-requires-clause-few : goal.push-requires-clause-few
push-requires-clause-few c = (has_place_left c.args.self.now (item_seen c.args.x) c.args.groups.now c.requires.new c.requires.room).0

pub push-requires-clause-fits : goal.push-requires-clause-fits
push-requires-clause-fits c =
    omega (
      arith,
      (has_place_left c.args.self.now (item_seen c.args.x) c.args.groups.now c.requires.new c.requires.room).1,
      short_text c.args.self.now (item_seen c.args.x) 1 (sym c.is_done.ensures.value ∙ c.if-is_done.false),
      ap length (c.in_ok-from_str.ensures.ok ∙ c.as_str.ensures),
    )

pub returns-clause-groups : goal.returns-clause-groups
returns-clause-groups c =
    on_ok_then c.push.result _ _
    (λ put. put
    ∙ ap (λ (o : OpenGroup). c.args.groups.now ++ group_seen o ∷ []) c.in_ok-new.ensures.ok
    ∙ ap (λ (t : List ℕ). c.args.groups.now ++ record { source = c.args.x.source; entries = 1; text = t; base = log_record c.args.x.entry } ∷ []) (c.in_ok-from_str.ensures.ok ∙ c.as_str.ensures)
    ∙ sym (end_alone c.args.self.now (item_seen c.args.x) c.args.groups.now c.requires.new false (sym c.is_done.ensures.value ∙ c.if-is_done.false)).0) c.push.ensures

pub returns-clause-sent : goal.returns-clause-sent
returns-clause-sent c =
    on_ok c.push.result _
    (sent_none c.args.self.now (seen c.args.out.now.items) (seen c.args.out.now.items)
    (ended_by_end c.args.self.now (joined c.args.self.now c.args.groups.now (item_seen c.args.x)) (item_seen c.args.x))
    (end_alone c.args.self.now (item_seen c.args.x) c.args.groups.now c.requires.new false (sym c.is_done.ensures.value ∙ c.if-is_done.false)).1 refl)
