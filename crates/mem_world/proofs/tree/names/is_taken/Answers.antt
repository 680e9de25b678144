use Rattle.std.proofs.Common.{rules, tests}
use Rattle.std.proofs.lemmas.Iterator.Consumers.{YieldsList-from_deque}
use Rattle.std.proofs.lemmas.Iterator.Search.{any_from_yields_List}
use Rattle.outside.specs.Lawful.{clashes}
use Rattle.mem_world.proofs.TreeStoring.{any_map}
use Rattle.mem_world.proofs.tree.names.is_taken.Goals as goal

pub returns : goal.returns
returns c =
    rw any_map (any_from_yields_List (λ name. clashes c.args.path.now name.path) _ _ c.any.result c.any.ensures.ran (YieldsList-from_deque c.args.names.now.items c.iter.ensures.rest) (λ x b q k. search (rules, tests)))
