use Rattle.std.proofs.Common.{refl}
use Rattle.recombine.specs.Table.{with_entries}
use Rattle.recombine.proofs.TableLemmas.{table_held, changes_held, seen_range, seen_changes}
use Rattle.recombine.proofs.groups.Groups.set_entries.Goals as goal

pub invariant_of-self : goal.invariant_of-self
invariant_of-self c =
    let g = c.deref_mut.result.now in
    table_held c.self.inside.marks.items c.self.inside.in_order.items c.self.inside.bytes c.self.inside.bytes c.args.place c.index_mut-group.result.now g (record g { entries = c.args.entries }) c.self.invariant
    (seen_range c.self.inside.in_order.items c.args.self.now c.args.place c.self.view_is c.requires.in_range) c.index_mut-group.ensures.value c.deref_mut.ensures.value refl
    (λ o. record { some = c.requires.some; most = c.requires.most; shallow = o.shallow }) refl

pub returns : goal.returns
returns c =
    let g = c.deref_mut.result.now in
    seen_changes c.self.inside.in_order.items c.args.self.now c.args.place (with_entries c.args.entries) _ c.self.view_is
    (changes_held c.self.inside.in_order.items c.args.place c.index_mut-group.result.now g (record g { entries = c.args.entries }) (with_entries c.args.entries)
    (seen_range c.self.inside.in_order.items c.args.self.now c.args.place c.self.view_is c.requires.in_range) c.index_mut-group.ensures.value c.deref_mut.ensures.value refl)
