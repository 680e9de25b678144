use Rattle.std.proofs.Common.{◌≤◌, ◌∙◌, ap, sym, subst}
use Rattle.recombine.specs.Limits.{batch_limit}
use Rattle.recombine.specs.declared.group.OpenGroup.{OpenGroup}
use Rattle.recombine.specs.Group.{Group}
use Rattle.recombine.proofs.TableLemmas.{group_at, entries_most, seen_range}
use Rattle.recombine.proofs.groups.Groups.entries_at.Goals as goal

pub returns-clause-value : goal.returns-clause-value
returns-clause-value c = λ before behind group parts count.
    ap (λ (g : Group). g.entries) (group_at c.self.inside.in_order.items c.args.self.now c.args.place c.index.result.now c.self.view_is c.requires c.index.ensures before behind group parts count)
    ∙ sym (ap (λ (o : OpenGroup). o.entries) c.deref.ensures)

pub returns-clause-most : goal.returns-clause-most
returns-clause-most c =
    subst (λ (o : OpenGroup). o.entries ≤ batch_limit) (sym c.deref.ensures)
    (entries_most c.self.inside.marks.items c.self.inside.in_order.items c.self.inside.bytes c.args.place c.index.result.now c.self.invariant (seen_range c.self.inside.in_order.items c.args.self.now c.args.place c.self.view_is c.requires) c.index.ensures)
