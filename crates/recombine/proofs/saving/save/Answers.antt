use Rattle.std.proofs.Common.{◌++◌, ℕ, List, take, ap, ◌∙◌, sym, subst, arith}
use Rattle.std.specs.Prelude.{flat_map}
use Rattle.std.proofs.lemmas.List.{flat_map_more}
use Rattle.recombine.specs.declared.group.OpenGroup.{OpenGroup}
use Rattle.recombine.specs.Group.{Group}
use Rattle.recombine.specs.Rules.{KeepsRules}
use Rattle.recombine.specs.Spelling.{group_spelling}
use Rattle.recombine.specs.Table.{groups_seen, group_seen, held_seen, IsOpen}
use Rattle.recombine.proofs.SpellingLemmas.{EachKeeps, each_push, each_all, keep_all}
use Rattle.recombine.proofs.TableLemmas.{open_item, seen_next}
use Rattle.recombine.proofs.saving.save.Goals as goal

pub put_group-requires : goal.put_group-requires
put_group-requires c =
    subst (λ (o : OpenGroup). IsOpen (group_seen o)) (sym c.deref.ensures)
    (open_item c.in_order-group-items.result.now c.args.groups.now c.loop-group.group-index c.group-item.result c.in_order-group-items.ensures.seen c.in_order-group-items.ensures.are_open c.loop-group-test.true c.group-item.is)

pub loop-group-preserved : goal.loop-group-preserved
loop-group-preserved c =
    let next = seen_next c.in_order-group-items.result.now c.loop-group.group-index c.group-item.result c.loop-group-test.true c.group-item.is in
    record {
      put = c.in_ok-put_group.ensures.ok ∙ ap (λ (o : OpenGroup). c.loop-group.out.items ++ group_spelling (group_seen o)) c.deref.ensures
          ∙ ap (λ (l : List ℕ). l ++ group_spelling (held_seen c.group-item.result)) c.loop-group.invariant.put
          ∙ flat_map_more group_spelling c.put_u32.new.out.items (groups_seen (take c.loop-group.group-index c.in_order-group-items.result.now)) (held_seen c.group-item.result)
          ∙ ap (λ (gs : List Group). c.put_u32.new.out.items ++ flat_map group_spelling gs) (sym next);
      keep = subst EachKeeps (sym next) (each_push (groups_seen (take c.loop-group.group-index c.in_order-group-items.result.now)) (held_seen c.group-item.result) c.loop-group.invariant.keep (subst (λ (o : OpenGroup). KeepsRules (group_seen o)) c.deref.ensures c.in_ok-put_group.ensures.lawful));
    }

pub returns-clause-lawful : goal.returns-clause-lawful
returns-clause-lawful c = record {
  few = omega (arith, c.len.ensures.value, c.len.ensures.few);
  each = keep_all c.args.groups.now c.in_order-group-items.ensures.are_open
      (each_all c.in_order-group-items.result.now c.args.groups.now c.loop-group.group-index c.loop-group-test.false c.in_order-group-items.ensures.seen c.loop-group.invariant.keep);
}
