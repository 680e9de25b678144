use Rattle.std.proofs.Common.{◌≡◌}
use Rattle.out_segments.specs.MemStore.{log_of}
use Rattle.out_segments.proofs.MemSteps.{part_put_moves, puts_log}
use Rattle.out_segments.proofs.memory.MemParts.put.Goals as goal

pub returns-clause-crash : goal.returns-clause-crash
returns-clause-crash c =
    let bytes = c.in_ok-bytes.bytes in
    let same : bytes.items ≡ c.args.bytes.now = c.in_ok-bytes.ensures.items_if_clones_equal (λ x y e. e) in
    part_put_moves c.args.file bytes c.args.bytes.now c.record.result c.args.self.now _ same c.record.ensures.ok

pub returns-clause-puts : goal.returns-clause-puts
returns-clause-puts c =
    let bytes = c.in_ok-bytes.bytes in
    let same : bytes.items ≡ c.args.bytes.now = c.in_ok-bytes.ensures.items_if_clones_equal (λ x y e. e) in
    puts_log c.args.file bytes c.args.bytes.now c.record.result (log_of c.args.self.now.store) (log_of c.record.new.self) same c.record.ensures.ok
