use Rattle.recombine.proofs.TableLemmas.{placed}
use Rattle.std.proofs.Common.{subst, List, ◌∙◌, sym, ap}
use Rattle.recombine.specs.Table.{Held, groups_seen, IsFound, marks_of}
use Rattle.recombine.proofs.groups.Groups.place_of.Goals as goal

pub place_in-requires : goal.place_in-requires
place_in-requires c = c.as_slice-2.ensures.value ∙ c.self.invariant.marked ∙ ap (λ (gs : List Held). marks_of (groups_seen gs)) (sym c.as_slice.ensures.value)

pub returns : goal.returns
returns c =
    placed c.args.source.now c.self.inside.marks.items c.self.inside.in_order.items c.self.inside.bytes c.args.self.now c.self.invariant c.self.view_is c.place_in.result
    (subst (λ (gs : List Held). IsFound c.args.source.now gs c.place_in.result) c.as_slice.ensures.value c.place_in.ensures)
