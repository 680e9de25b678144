use Rattle.std.proofs.Common.{◌≤◌, length, arith, ◌==◌}
use Rattle.mem_world.specs.TreeContents.{bytes_in, place_in, room_at}
use Rattle.mem_world.proofs.TreePlaces.{filled_bytes, filled_rooms, room_found, room_missing, nothing_filled, nothing_taken}
use Rattle.mem_world.proofs.tree.contents.fill.Goals as goal

pub fill_one-requires-clause-room : goal.fill_one-requires-clause-room
fill_one-requires-clause-room c =
    let here = rw c.as_slice-held.ensures.value at c.place_of-place.ensures in
    let within = rw c.as_slice-held.ensures.value at c.if-place-held.true in
    let found = room_found c.args.contents.now.items c.args.file c.place_of-place.result c.index_mut.result.now here within c.index_mut.ensures.value in
    omega (arith, found, c.requires.room)

pub returns-then-place-held-clause-bytes : goal.returns-then-place-held-clause-bytes
returns-then-place-held-clause-bytes c =
    let here = rw c.as_slice-held.ensures.value at c.place_of-place.ensures in
    let within = rw c.as_slice-held.ensures.value at c.if-place-held.true in
    filled_bytes c.args.contents.now.items c.args.file c.place_of-place.result c.index_mut.result.now c.fill_one.new.content c.args.more.now here within c.index_mut.ensures.value c.fill_one.ensures.file c.fill_one.ensures.bytes

pub returns-then-place-held-clause-rooms : goal.returns-then-place-held-clause-rooms
returns-then-place-held-clause-rooms c =
    let here = rw c.as_slice-held.ensures.value at c.place_of-place.ensures in
    let within = rw c.as_slice-held.ensures.value at c.if-place-held.true in
    filled_rooms c.args.contents.now.items c.args.file c.place_of-place.result c.index_mut.result.now c.fill_one.new.content c.args.more.now here within c.index_mut.ensures.value c.fill_one.ensures.file c.fill_one.ensures.room

pub returns-else-place-held-clause-bytes : goal.returns-else-place-held-clause-bytes
returns-else-place-held-clause-bytes c =
    let here = rw c.as_slice-held.ensures.value at c.place_of-place.ensures in
    let without = rw c.as_slice-held.ensures.value at c.if-place-held.false in
    let past : length c.args.contents.now.items ≤ place_in c.args.contents.now.items c.args.file = omega (arith, here, without) in
    let none : length c.args.more.now ≤ 0 = omega (arith, room_missing c.args.contents.now.items c.args.file past, c.requires.room) in
    λ other. nothing_filled c.args.more.now (bytes_in c.args.contents.now.items other) (c.args.file == other) none

pub returns-else-place-held-clause-rooms : goal.returns-else-place-held-clause-rooms
returns-else-place-held-clause-rooms c =
    let here = rw c.as_slice-held.ensures.value at c.place_of-place.ensures in
    let without = rw c.as_slice-held.ensures.value at c.if-place-held.false in
    let past : length c.args.contents.now.items ≤ place_in c.args.contents.now.items c.args.file = omega (arith, here, without) in
    let none : length c.args.more.now ≤ 0 = omega (arith, room_missing c.args.contents.now.items c.args.file past, c.requires.room) in
    λ other. nothing_taken c.args.more.now (room_at c.args.contents.now.items other) (c.args.file == other) none
