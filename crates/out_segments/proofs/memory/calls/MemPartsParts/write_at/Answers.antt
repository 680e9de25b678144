use Rattle.std.proofs.Common.{◌≡◌, length, refl}
use Rattle.out_segments.specs.MemImages.{itself}
use Rattle.out_segments.proofs.MemSteps.{idle_moves, part_write_moves, write_begun, write_written, writes_by}
use Rattle.out_segments.proofs.memory.calls.MemPartsParts.write_at.Goals as goal

pub returns-in_default-clause-crash : goal.returns-in_default-clause-crash
returns-in_default-clause-crash c = idle_moves itself c.args.file c.args.offset (length c.args.bytes.now) c.args.self.now _ refl

pub returns-clause-crash : goal.returns-clause-crash
returns-clause-crash c =
    let bytes = c.in-Ok.bytes in
    let same : bytes.items ≡ c.args.bytes.now = c.in-Ok.ensures.items_if_clones_equal (λ x y e. e) in
    part_write_moves c.args.file c.args.offset bytes c.args.bytes.now c.call.result c.args.self.now c.call.new.self same c.call.ensures.calls

pub returns-clause-begun : goal.returns-clause-begun
returns-clause-begun c =
    let bytes = c.in-Ok.bytes in
    let same : bytes.items ≡ c.args.bytes.now = c.in-Ok.ensures.items_if_clones_equal (λ x y e. e) in
    write_begun c.args.file c.args.offset bytes c.args.bytes.now c.call.result c.args.self.now c.call.new.self same c.call.ensures.calls

pub returns-clause-written : goal.returns-clause-written
returns-clause-written c =
    let bytes = c.in-Ok.bytes in
    let same : bytes.items ≡ c.args.bytes.now = c.in-Ok.ensures.items_if_clones_equal (λ x y e. e) in
    write_written c.args.file c.args.offset bytes c.args.bytes.now c.call.result c.args.self.now c.call.new.self same c.requires.begins c.call.ensures.calls

pub returns-clause-calls : goal.returns-clause-calls
returns-clause-calls c =
    let bytes = c.in-Ok.bytes in
    let same : bytes.items ≡ c.args.bytes.now = c.in-Ok.ensures.items_if_clones_equal (λ x y e. e) in
    writes_by c.args.file c.args.offset bytes c.args.bytes.now c.call.result c.args.self.now c.call.new.self same c.call.ensures.calls
