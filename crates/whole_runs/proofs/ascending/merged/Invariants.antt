use Rattle.std.proofs.Common.{◌≡◌, ◌+◌, ◌++◌, length}
use Rattle.graph_core.specs.Runs.{IsAscending}
use Rattle.graph_core.specs.Traces.{by_address}
use Rattle.whole_runs.proofs.ascending.merged.Given as goal

-- what was taken and what is left are together the whole
abbrev pub invariant-merging : goal.invariant-merging
invariant-merging g l = record {
  front : IsAscending l.front.items;
  back : IsAscending l.back.items;
  whole : l.all.items ++ by_address (l.front.items ++ l.back.items) ≡ by_address (l.initial.front.items ++ l.initial.back.items);
}

abbrev pub decreases-merging : goal.decreases-merging
decreases-merging g l = length l.front.items + length l.back.items
