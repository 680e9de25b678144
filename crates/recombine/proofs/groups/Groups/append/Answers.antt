use Rattle.std.proofs.Common.{◌+◌, ◌∷◌, [], length, length-append, string_bytes, arith, List, ℕ, ap, sym, refl}
use Rattle.recombine.specs.Table.{group_seen, with_piece}
use Rattle.recombine.proofs.TableLemmas.{table_held, changes_held, seen_range, seen_changes}
use Rattle.recombine.proofs.groups.Groups.append.Goals as goal

pub invariant_of-self : goal.invariant_of-self
invariant_of-self c =
    let g = c.deref_mut.result.now in
    table_held c.self.inside.marks.items c.self.inside.in_order.items c.self.inside.bytes c.self.inside.bytes c.args.place c.index_mut-group.result.now g (record g { text = c.push_str.new.self }) c.self.invariant
    (seen_range c.self.inside.in_order.items c.args.self.now c.args.place c.self.view_is c.requires.in_range) c.index_mut-group.ensures.value c.deref_mut.ensures.value refl
    (λ o. record { some = o.some; most = o.most; shallow = o.shallow }) (ap (λ (t : List ℕ). c.self.inside.bytes + length t) (sym c.in_err-push_str.ensures.bytes))

pub invariant_of-self-2 : goal.invariant_of-self-2
invariant_of-self-2 c =
    let g = c.deref_mut.result.now in
    table_held c.self.inside.marks.items c.self.inside.in_order.items c.self.inside.bytes (c.self.inside.bytes + length c.args.piece.now) c.args.place c.index_mut-group.result.now g (record g { text = c.push_str.new.self }) c.self.invariant
    (seen_range c.self.inside.in_order.items c.args.self.now c.args.place c.self.view_is c.requires.in_range) c.index_mut-group.ensures.value c.deref_mut.ensures.value refl
    (λ o. record { some = o.some; most = o.most; shallow = o.shallow })
    (omega (arith, ap length c.in_ok-push_str.ensures.bytes, length-append (string_bytes g.text) c.args.piece.now))

pub returns : goal.returns
returns c =
    let g = c.deref_mut.result.now in
    record {
      ok = seen_changes c.self.inside.in_order.items c.args.self.now c.args.place (with_piece c.args.piece.now) _ c.self.view_is
          (changes_held c.self.inside.in_order.items c.args.place c.index_mut-group.result.now g (record g { text = c.push_str.new.self }) (with_piece c.args.piece.now)
          (seen_range c.self.inside.in_order.items c.args.self.now c.args.place c.self.view_is c.requires.in_range) c.index_mut-group.ensures.value c.deref_mut.ensures.value
          (ap (λ (t : List ℕ). record { source = g.source; entries = g.entries; text = t; base = (group_seen g).base } ∷ []) (sym c.in_ok-push_str.ensures.bytes)));
    }
