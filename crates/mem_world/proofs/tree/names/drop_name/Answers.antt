use Rattle.std.proofs.Common.{rules, tests, sym, ap, ◌∙◌, not, ◌==◌, map}
use Rattle.std.proofs.lemmas.Fn.{filter_same}
use Rattle.mem_world.specs.TreeNames.{name_of}
use Rattle.mem_world.proofs.TreeStoring.{filter_map}
use Rattle.mem_world.proofs.tree.names.drop_name.Goals as goal

pub returns-clause-names : goal.returns-clause-names
returns-clause-names c =
    ap (λ kept. map name_of kept) (filter_same _ (λ n. not (n.file == c.args.file)) _ (λ x b q k. search (rules, tests)) c.args.names.now.items c.retain.new.self.items c.retain.ensures.filtered)
    ∙ sym (filter_map name_of (λ n. not (n.1 == c.args.file)) c.args.names.now.items)
