use Rattle.std.proofs.Common.{◌≡◌, ◌++◌, length}
use Rattle.otlp_json.specs.Escaped.{escaped}
use Rattle.otlp_json.specs.HasFront.{HasFront}
use Rattle.otlp_json.proofs.string.append_escapes.Given as goal

abbrev pub invariant-loop-at : goal.invariant-loop-at
invariant-loop-at l = record {
  front : HasFront l.fn.out.items l.out.items;
  so_far : l.out.items ++ escaped l.rest ≡ l.fn.out.items ++ escaped l.text;
}

abbrev pub decreases-loop-at : goal.decreases-loop-at
decreases-loop-at l = length l.rest
