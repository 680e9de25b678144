use Rattle.std.proofs.Common.{sym, ◌∙◌}
use Rattle.tree_walk.proofs.FolderLemmas.{depth_slashes}
use Rattle.tree_walk.proofs.path.depth.Goals as goal

pub returns-then-is_absolute : goal.returns-then-is_absolute
returns-then-is_absolute c =
    (depth_slashes c.args.folder.now c.count_slashes-slashes.result (sym c.is_empty.ensures ∙ c.if-is_empty.false) (sym c.eq.ensures ∙ c.if-eq.false) (rw c.as_bytes.ensures.value at c.count_slashes-slashes.ensures)).0
    (sym c.is_absolute.ensures ∙ c.if-is_absolute.true)

pub returns-else-is_absolute : goal.returns-else-is_absolute
returns-else-is_absolute c =
    (depth_slashes c.args.folder.now c.count_slashes-slashes.result (sym c.is_empty.ensures ∙ c.if-is_empty.false) (sym c.eq.ensures ∙ c.if-eq.false) (rw c.as_bytes.ensures.value at c.count_slashes-slashes.ensures)).1
    (sym c.is_absolute.ensures ∙ c.if-is_absolute.false)
