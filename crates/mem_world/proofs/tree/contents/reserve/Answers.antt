use Rattle.std.proofs.Common.{◌∙◌}
use Rattle.std.proofs.lemmas.Result.{err_from_is_err_and}
use Rattle.mem_world.proofs.TreePlaces.{same_bytes, same_rooms, raised_rooms}
use Rattle.mem_world.proofs.tree.contents.reserve.Goals as goal

pub returns-in_err-reserve_one-clause-bytes : goal.returns-in_err-reserve_one-clause-bytes
returns-in_err-reserve_one-clause-bytes c =
    λ other. same_bytes c.place_for.new.contents.items c.args.file c.in_ok-place.place c.index_mut.result.now c.reserve_one.new.content c.in_ok-place.ensures.place c.in_ok-place.ensures.there c.index_mut.ensures.value c.reserve_one.ensures.file c.reserve_one.ensures.bytes other ∙ c.place_for.ensures.bytes other

pub returns-in_err-reserve_one-clause-err : goal.returns-in_err-reserve_one-clause-err
returns-in_err-reserve_one-clause-err c =
    let p = err_from_is_err_and c.from_residual-in_err-reserve_one.result c.from_residual-in_err-reserve_one.ensures.1 in
    rw p.1 (λ other. same_rooms c.place_for.new.contents.items c.args.file c.in_ok-place.place c.index_mut.result.now c.reserve_one.new.content c.in_ok-place.ensures.place c.in_ok-place.ensures.there c.index_mut.ensures.value c.reserve_one.ensures.file c.in_err-reserve_one.ensures.err other ∙ c.place_for.ensures.rooms other)

pub returns-clause-bytes : goal.returns-clause-bytes
returns-clause-bytes c =
    λ other. same_bytes c.place_for.new.contents.items c.args.file c.in_ok-place.place c.index_mut.result.now c.reserve_one.new.content c.in_ok-place.ensures.place c.in_ok-place.ensures.there c.index_mut.ensures.value c.reserve_one.ensures.file c.reserve_one.ensures.bytes other ∙ c.place_for.ensures.bytes other

pub returns-clause-ok : goal.returns-clause-ok
returns-clause-ok c =
    λ other. rw (← c.place_for.ensures.rooms other) (raised_rooms c.place_for.new.contents.items c.args.file c.in_ok-place.place c.index_mut.result.now c.reserve_one.new.content c.args.more.now c.in_ok-place.ensures.place c.in_ok-place.ensures.there c.index_mut.ensures.value c.reserve_one.ensures.file c.in_ok-reserve_one.ensures.ok other)
