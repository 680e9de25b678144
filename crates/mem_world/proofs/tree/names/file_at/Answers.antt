use Rattle.std.proofs.Common.{rules, tests}
use Rattle.std.proofs.lemmas.Iterator.Consumers.{YieldsList-from_deque}
use Rattle.std.proofs.lemmas.Iterator.Search.{find_from_yields_List}
use Rattle.std.specs.Str.{bytes_eq}
use Rattle.mem_world.proofs.TreeStoring.{find_map}
use Rattle.mem_world.proofs.tree.names.file_at.Goals as goal

pub returns-in-Some : goal.returns-in-Some
returns-in-Some c =
    let found = find_from_yields_List (λ name. bytes_eq name.path c.args.path.now) _ _ c.find.result c.find.ensures.ran (YieldsList-from_deque c.args.names.now.items c.iter.ensures.rest) (λ x b q k. search (rules, tests)) in
    rw (find_map, ← found, c.in-Some.is)

pub returns-in-None : goal.returns-in-None
returns-in-None c =
    let found = find_from_yields_List (λ name. bytes_eq name.path c.args.path.now) _ _ c.find.result c.find.ensures.ran (YieldsList-from_deque c.args.names.now.items c.iter.ensures.rest) (λ x b q k. search (rules, tests)) in
    rw (find_map, ← found, c.in-None.is)
