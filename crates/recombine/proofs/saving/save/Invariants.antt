use Rattle.std.proofs.Common.{◌≡◌, ◌++◌, take}
use Rattle.std.specs.Prelude.{flat_map}
use Rattle.recombine.specs.Spelling.{group_spelling}
use Rattle.recombine.specs.Table.{groups_seen}
use Rattle.recombine.proofs.SpellingLemmas.{EachKeeps}
use Rattle.recombine.proofs.saving.save.Given as goal

abbrev pub invariant-loop-group : goal.invariant-loop-group
invariant-loop-group l = record {
  put : l.out.items ≡ l.initial.out.items ++ flat_map group_spelling (groups_seen (take l.group-index l.group-items));
  keep : EachKeeps (groups_seen (take l.group-index l.group-items));
}
