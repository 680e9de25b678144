use Rattle.std.proofs.Common.{length}
use Rattle.file_tracker.specs.Fronts.{fronts_of}
use Rattle.file_tracker.specs.Order.{ArePlaces, AscendsBefore}
use Rattle.file_tracker.proofs.index.settle.Given as goal

abbrev pub invariant-loop-index : goal.invariant-loop-index
invariant-loop-index l = ArePlaces (length l.rows) l.order × AscendsBefore l.place l.index (fronts_of l.rows) l.order
