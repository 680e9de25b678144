use Rattle.std.proofs.Common.{◌≡◌, ◌+◌, ◌≤◌, ◌++◌, length, take}
use Rattle.otlp_json.specs.OutputLines.{output_lines}
use Rattle.pipeline.proofs.feed.append_lines.Given as goal

abbrev pub invariant-loop-record : goal.invariant-loop-record
invariant-loop-record l = record {
  lines : l.lines ≡ l.fn.lines + l.record-index;
  written : l.out.items ≡ l.fn.out.items ++ output_lines l.scope (l.fn.lines + 1) l.observed (take l.record-index l.made);
  within : l.lines + length l.fn.out.items ≤ l.fn.lines + length l.out.items;
}
