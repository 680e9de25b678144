use Rattle.std.proofs.Common.{◌==◌, rules}
use Rattle.std.proofs.lemmas.Iterator.Search.{all_from_yields_List}
use Rattle.std.proofs.lemmas.Iterator.Splits.{YieldsList-from_slice_split}
use Rattle.outside.specs.Path.{is_component}
use Rattle.mem_world.proofs.TreePaths.{components_split}
use Rattle.mem_world.proofs.tree.paths.is_path.Goals as goal

pub returns : goal.returns
returns c =
    rw (components_split, ← c.relative.ensures) (all_from_yields_List is_component _ _ c.all.result c.all.ensures.ran (YieldsList-from_slice_split _ (λ b. b == 47) c.relative.result.now c.split.ensures.rest c.split.ensures.done c.split.ensures.closure (λ x b q k. search rules)) (λ x b q k. search rules))
