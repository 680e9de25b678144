use Rattle.std.proofs.Common.{◌∙◌, sym}
use Rattle.tree_walk.proofs.FolderLemmas.{within_nothing, within_root}
use Rattle.tree_walk.proofs.path.separator.Goals as goal
use Rattle.tree_walk.proofs.path.separator.Goals.{then-is_empty-via-then-is_empty, then-is_empty-via-else-is_empty+then-eq}

pub returns-then-is_empty : goal.returns-then-is_empty
returns-then-is_empty c name = elim c.then-is_empty.branch [
  | then-is_empty-via-then-is_empty w ↦ within_nothing c.args.folder.now name (sym c.is_empty.ensures ∙ w.if-is_empty.true)
  | then-is_empty-via-else-is_empty+then-eq w ↦ within_root c.args.folder.now name (sym w.eq.ensures ∙ w.if-eq.true)
]
