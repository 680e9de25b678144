use Rattle.std.proofs.Common.{◌≤◌, length, get_or, sym, ◌∙◌, arith}
use Rattle.mem_world.specs.TreeContents.{place_in}
use Rattle.mem_world.proofs.TreePlaces.{bytes_found, bytes_missing, read_again}
use Rattle.mem_world.proofs.tree.contents.bytes_of.Goals as goal

pub returns-then-place-contents-clause-bytes : goal.returns-then-place-contents-clause-bytes
returns-then-place-contents-clause-bytes c =
    let within = c.if-place-contents.true in
    c.as_slice.ensures.value ∙ sym (bytes_found c.args.contents.now c.args.file c.place_of-place.result (get_or c.args.contents.now c.place_of-place.result c.index-contents-place.result) c.place_of-place.ensures within (read_again c.args.contents.now c.place_of-place.result c.index-contents-place.result within))

pub returns-else-place-contents-clause-bytes : goal.returns-else-place-contents-clause-bytes
returns-else-place-contents-clause-bytes c =
    let past : length c.args.contents.now ≤ place_in c.args.contents.now c.args.file = omega (arith, c.place_of-place.ensures) in
    sym (bytes_missing c.args.contents.now c.args.file past)
