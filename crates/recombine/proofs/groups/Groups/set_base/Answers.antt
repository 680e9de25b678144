use Rattle.std.proofs.Common.{◌∷◌, [], string_bytes, ap, sym, subst, refl}
use Rattle.entry_model.specs.Lawful.{NestsWithin}
use Rattle.entry_model.specs.LogRecord.{log_record}
use Rattle.entry_model.specs.declared.entry.Entry.{Entry}
use Rattle.state_codec.specs.Limits.{levels}
use Rattle.recombine.specs.Table.{with_base}
use Rattle.recombine.proofs.TableLemmas.{table_held, changes_held, seen_range, seen_changes}
use Rattle.recombine.proofs.groups.Groups.set_base.Goals as goal

pub invariant_of-self : goal.invariant_of-self
invariant_of-self c =
    let g = c.deref_mut.result.now in
    table_held c.self.inside.marks.items c.self.inside.in_order.items c.self.inside.bytes c.self.inside.bytes c.args.place c.index_mut-group.result.now g (record g { base = c.replace.new.dest }) c.self.invariant
    (seen_range c.self.inside.in_order.items c.args.self.now c.args.place c.self.view_is c.requires.in_range) c.index_mut-group.ensures.value c.deref_mut.ensures.value refl
    (λ o. record { some = o.some; most = o.most; shallow = subst (λ (e : Entry). NestsWithin levels (log_record e)) (sym c.replace.ensures.after) c.requires.shallow }) refl

pub returns : goal.returns
returns c =
    let g = c.deref_mut.result.now in
    seen_changes c.self.inside.in_order.items c.args.self.now c.args.place (with_base c.args.base) _ c.self.view_is
    (changes_held c.self.inside.in_order.items c.args.place c.index_mut-group.result.now g (record g { base = c.replace.new.dest }) (with_base c.args.base)
    (seen_range c.self.inside.in_order.items c.args.self.now c.args.place c.self.view_is c.requires.in_range) c.index_mut-group.ensures.value c.deref_mut.ensures.value
    (ap (λ (e : Entry). record { source = g.source; entries = g.entries; text = string_bytes g.text; base = log_record e } ∷ []) (sym c.replace.ensures.after)))
