use Rattle.std.proofs.Common.{rules, tests, sym, ap, ◌∙◌, not, ◌==◌, map}
use Rattle.std.proofs.lemmas.Fn.{filter_same}
use Rattle.mem_world.specs.TreeHandles.{pair_open}
use Rattle.mem_world.proofs.TreeStoring.{filter_map}
use Rattle.mem_world.proofs.tree.handles.close.Goals as goal

pub returns : goal.returns
returns c =
    ap (λ kept. map pair_open kept) (filter_same _ (λ one. not (one.handle == c.args.handle)) _ (λ x b q k. search (rules, tests)) c.args.handles.now.items c.retain.new.self.items c.retain.ensures.filtered)
    ∙ sym (filter_map pair_open (λ pair. not (pair.0 == c.args.handle)) c.args.handles.now.items)
