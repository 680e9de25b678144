use Rattle.std.proofs.Common.{◌≤◌, length, arith}
use Rattle.mem_world.specs.TreeContents.{place_in}
use Rattle.mem_world.proofs.TreePlaces.{cut_bytes, nothing_cut, same_rooms}
use Rattle.mem_world.proofs.tree.contents.cut.Goals as goal

pub returns-then-place-held-clause-bytes : goal.returns-then-place-held-clause-bytes
returns-then-place-held-clause-bytes c =
    let here = rw c.as_slice-held.ensures.value at c.place_of-place.ensures in
    let within = rw c.as_slice-held.ensures.value at c.if-place-held.true in
    cut_bytes c.args.contents.now.items c.args.file c.place_of-place.result c.args.size c.index_mut.result.now c.cut_one.new.content here within c.index_mut.ensures.value c.cut_one.ensures.file c.cut_one.ensures.bytes

pub returns-then-place-held-clause-rooms : goal.returns-then-place-held-clause-rooms
returns-then-place-held-clause-rooms c =
    let here = rw c.as_slice-held.ensures.value at c.place_of-place.ensures in
    let within = rw c.as_slice-held.ensures.value at c.if-place-held.true in
    same_rooms c.args.contents.now.items c.args.file c.place_of-place.result c.index_mut.result.now c.cut_one.new.content here within c.index_mut.ensures.value c.cut_one.ensures.file c.cut_one.ensures.room

pub returns-else-place-held-clause-bytes : goal.returns-else-place-held-clause-bytes
returns-else-place-held-clause-bytes c =
    let here = rw c.as_slice-held.ensures.value at c.place_of-place.ensures in
    let without = rw c.as_slice-held.ensures.value at c.if-place-held.false in
    let past : length c.args.contents.now.items ≤ place_in c.args.contents.now.items c.args.file = omega (arith, here, without) in
    nothing_cut c.args.contents.now.items c.args.file c.args.size past
