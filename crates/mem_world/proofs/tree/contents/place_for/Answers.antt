use Rattle.std.proofs.Common.{◌≡◌, length, refl, sym, ◌∙◌, arith}
use Rattle.std.proofs.lemmas.List.{length_push}
use Rattle.mem_world.proofs.TreePlaces.{bytes_push, room_push, place_push, place_within}
use Rattle.mem_world.proofs.tree.contents.place_for.Goals as goal

pub returns-in_ok-push-clause-bytes : goal.returns-in_ok-push-clause-bytes
returns-in_ok-push-clause-bytes c =
    rw c.in_ok-push.ensures.items (λ other. bytes_push c.args.contents.now.items _ other c.new.ensures.items)

pub returns-in_ok-push-clause-rooms : goal.returns-in_ok-push-clause-rooms
returns-in_ok-push-clause-rooms c =
    rw c.in_ok-push.ensures.items (λ other. room_push c.args.contents.now.items _ other refl)

pub returns-in_ok-push-clause-place : goal.returns-in_ok-push-clause-place
returns-in_ok-push-clause-place c =
    let here = rw c.as_slice-held.ensures.value at c.place_of-place.ensures in
    let past = rw c.as_slice-held.ensures.value at c.if-place-held.true in
    let end : c.place_of-place.result ≡ length c.args.contents.now.items = omega (arith, here, past, place_within c.args.contents.now.items c.args.file) in
    rw c.in_ok-push.ensures.items (end ∙ sym (place_push c.args.contents.now.items c.args.file _ (omega (arith, here, past)) refl))

pub returns-in_ok-push-clause-there : goal.returns-in_ok-push-clause-there
returns-in_ok-push-clause-there c =
    let here = rw c.as_slice-held.ensures.value at c.place_of-place.ensures in
    rw (c.in_ok-push.ensures.items, length_push) (omega (arith, here, place_within c.args.contents.now.items c.args.file))
