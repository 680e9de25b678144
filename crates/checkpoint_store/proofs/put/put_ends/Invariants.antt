use Rattle.std.proofs.Common.{◌≡◌, ◌++◌, drop}
use Rattle.std.specs.List.{flat_map}
use Rattle.checkpoint_store.specs.Spelling.{end_spelling}
use Rattle.checkpoint_store.proofs.put.put_ends.Given as goal

abbrev pub invariant-loop-end : goal.invariant-loop-end
invariant-loop-end l = l.out.items ++ flat_map end_spelling (drop l.end-index l.ends) ≡ l.initial.out.items ++ flat_map end_spelling l.ends
