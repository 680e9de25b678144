use Rattle.std.proofs.Common.{◌-◌, List, ℕ, length, ap, sym, subst, ◌∙◌, arith}
use Rattle.std.specs.Prelude.{remove, string_bytes}
use Rattle.recombine.specs.declared.group.OpenGroup.{OpenGroup}
use Rattle.recombine.specs.Table.{Held, groups_seen, IsTable, without}
use Rattle.recombine.proofs.TableLemmas.{table_remove, changes_remove, seen_range, seen_changes}
use Rattle.recombine.proofs.groups.Groups.remove.Goals as goal

pub overflow_sub-self : goal.overflow_sub-self
overflow_sub-self c =
    let t = table_remove c.self.inside.marks.items c.self.inside.in_order.items c.self.inside.bytes c.args.place c.remove-group.result c.self.invariant
    (seen_range c.self.inside.in_order.items c.args.self.now c.args.place c.self.view_is c.requires.in_range) c.remove-group.ensures.value in
    omega (arith, t.0, ap length (c.as_str.ensures.value ∙ ap (λ (o : OpenGroup). string_bytes o.text) c.deref.ensures))

pub invariant_of-self : goal.invariant_of-self
invariant_of-self c =
    let t = table_remove c.self.inside.marks.items c.self.inside.in_order.items c.self.inside.bytes c.args.place c.remove-group.result c.self.invariant
    (seen_range c.self.inside.in_order.items c.args.self.now c.args.place c.self.view_is c.requires.in_range) c.remove-group.ensures.value in
    subst (λ (gs : List Held). IsTable (groups_seen gs) (c.self.inside.bytes - length c.as_str.result.now) c.remove-mark.new.self.items) (sym c.remove-group.ensures.items)
    (subst (λ (n : ℕ). IsTable (groups_seen (remove c.self.inside.in_order.items c.args.place)) (c.self.inside.bytes - n) c.remove-mark.new.self.items) (sym (ap length (c.as_str.ensures.value ∙ ap (λ (o : OpenGroup). string_bytes o.text) c.deref.ensures)))
    (subst (λ (l : List ℕ). IsTable (groups_seen (remove c.self.inside.in_order.items c.args.place)) (c.self.inside.bytes - length (string_bytes c.remove-group.result.value.text)) l) (sym c.remove-mark.ensures.items) t.1))

pub returns : goal.returns
returns c =
    let r = changes_remove c.self.inside.in_order.items c.args.place c.remove-group.result
    (seen_range c.self.inside.in_order.items c.args.self.now c.args.place c.self.view_is c.requires.in_range) c.remove-group.ensures.value in
    record {
      left = seen_changes c.self.inside.in_order.items c.args.self.now c.args.place without (groups_seen c.remove-group.new.self.items) c.self.view_is (rw c.remove-group.ensures.items r.0);
      taken = λ before behind group parts count. sym (r.1 before behind group (c.self.view_is ∙ parts) count);
    }
