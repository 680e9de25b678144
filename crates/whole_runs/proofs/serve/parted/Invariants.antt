use Rattle.std.proofs.Common.{◌≡◌}
use Rattle.graph_core.specs.Traces.{calls_to}
use Rattle.whole_runs.specs.Inner.Serving.{calls_not_to}
use Rattle.whole_runs.proofs.serve.parted.Given as goal

abbrev pub invariant-loop-call : goal.invariant-loop-call
invariant-loop-call g l = record {
  own : l.own.items ≡ calls_to l.to l.yielded;
  rest : l.others.items ≡ calls_not_to l.to l.yielded;
}
