use Rattle.std.proofs.Common.{◌≡◌, ◌+◌, ◌-◌, ◌≤◌, [], length, drop}
use Rattle.pipeline.specs.Origin.{Origin}
use Rattle.pipeline.specs.Parts.{settings_of, network, HaveKinds}
use Rattle.pipeline.specs.Searched.{IsSearched}
use Rattle.pipeline.specs.Sources.{IsSource}
use Rattle.pipeline.specs.Tokens.{rule_of}
use Rattle.pipeline.proofs.Feeding.{FeedsOn}
use Rattle.pipeline.proofs.Pipeline.feed_by.Given as goal

-- what was fed, and what is left
abbrev pub invariant-loop-buffers : goal.invariant-loop-buffers
invariant-loop-buffers l = record {
  within : l.at ≤ length l.stretch.piece.bytes.now;
  searched : IsSearched (settings_of l.self) (drop l.at l.stretch.piece.bytes.now) l.searched;
  feeds : (origin : Origin) → IsSource l.self origin l.source → FeedsOn (settings_of l.self) (network l.self) (rule_of (settings_of l.self) l.stretch.cutting) origin l.stretch.piece.bytes.now (drop l.at l.stretch.piece.bytes.now) l.at l.fn.state l.state l.fn.out.items l.out.items;
  records : l.state.records ≤ l.fn.state.records + l.at;
  lines : l.state.lines + length l.fn.out.items ≤ l.fn.state.lines + length l.out.items;
  kinds : HaveKinds l.self l.state.states.items;
  states : length l.state.states.items ≡ length l.fn.state.states.items;
  empty : l.buffers.emitted.items ≡ [];
}

abbrev pub decreases-loop-buffers : goal.decreases-loop-buffers
decreases-loop-buffers l = length l.stretch.piece.bytes.now - l.at
