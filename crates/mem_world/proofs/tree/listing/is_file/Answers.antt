use Rattle.std.proofs.Common.{rules, tests, List, ℕ, sym, ◌∙◌}
use Rattle.std.proofs.lemmas.Iterator.Consumers.{YieldsList-from_deque}
use Rattle.std.proofs.lemmas.Iterator.Search.{any_from_yields_List}
use Rattle.std.specs.Str.{bytes_eq}
use Rattle.outside.specs.Listing.{path_within}
use Rattle.mem_world.specs.TreeNames.{name_of, names_of}
use Rattle.mem_world.proofs.TreeStoring.{any_map}
use Rattle.mem_world.proofs.TreeListings.{file_test}
use Rattle.mem_world.proofs.tree.listing.is_file.Goals as goal

pub returns : goal.returns
returns c =
    any_from_yields_List (λ name. bytes_eq name.path (path_within c.args.folder.now c.args.name.now)) _ _ c.any.result c.any.ensures.ran (YieldsList-from_deque c.args.names.now.items c.iter.ensures.rest) (λ x b q k. search (rules, tests))
    ∙ sym (any_map name_of (λ (n : List ℕ × ℕ). bytes_eq n.0 (path_within c.args.folder.now c.args.name.now)) c.args.names.now.items)
    ∙ file_test (names_of c.args.names.now.items) (path_within c.args.folder.now c.args.name.now)
