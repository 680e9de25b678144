use Rattle.std.proofs.Common.{◌/◌, ◌%◌, IsTrue, length, subst, sym, ap, arith}
use Rattle.std.proofs.lemmas.Nat.{div-add-mod'}
use Rattle.out_segments.proofs.Changing.{changes_then, changes_by}
use Rattle.out_segments.proofs.Outputs.{output_begins, kept_then}
use Rattle.out_segments.proofs.Writes.{torn_part, holds_part, torn_kept, place_fits}
use Rattle.out_segments.proofs.writing.write_part.Goals as goal

pub write_within-requires-clause-begins : goal.write_within-requires-clause-begins
write_within-requires-clause-begins g c now_told =
    let told = subst IsTrue c.make_room.ensures.changes.terms.tells now_told in
    let image = g.P.Parts.meaning.images.seen c.make_room.new.parts in
    let kept = c.make_room.ensures.changes.begun told in
    output_begins c.args.size (c.args.at / c.args.size) (place_fits c.args.size c.args.at (length c.args.bytes.now) c.requires.size c.requires.some c.requires.ends) image (c.args.at % c.args.size)
    (omega (arith, c.requires.inside))
    (omega (arith, div-add-mod' c.args.at c.args.size, c.requires.begins told, ap length kept.here))

pub returns-in_err-write_within-clause-changes : goal.returns-in_err-write_within-clause-changes
returns-in_err-write_within-clause-changes g c =
    let fits = place_fits c.args.size c.args.at (length c.args.bytes.now) c.requires.size c.requires.some c.requires.ends in
    changes_then c.make_room.ensures.changes
    (changes_by (g.met.P.Parts.shown c.make_room.new.parts) c.write_within.ensures.changes (λ x y left at. torn_part c.args.size c.args.at (length c.args.bytes.now) c.requires.size.some fits c.requires.inside x y (c.in_ok-make_room.ensures.room.each x left) at))
    (λ x y kept. torn_kept c.args.size (c.args.at / c.args.size) c.args.at (length c.args.bytes.now) x y kept)
    (λ x y z kept torn. kept_then kept torn)

pub returns-clause-changes : goal.returns-clause-changes
returns-clause-changes g c =
    let fits = place_fits c.args.size c.args.at (length c.args.bytes.now) c.requires.size c.requires.some c.requires.ends in
    changes_then c.make_room.ensures.changes
    (changes_by (g.met.P.Parts.shown c.make_room.new.parts) c.write_within.ensures.changes (λ x y left at. torn_part c.args.size c.args.at (length c.args.bytes.now) c.requires.size.some fits c.requires.inside x y (c.in_ok-make_room.ensures.room.each x left) at))
    (λ x y kept. torn_kept c.args.size (c.args.at / c.args.size) c.args.at (length c.args.bytes.now) x y kept)
    (λ x y z kept torn. kept_then kept torn)

pub returns-clause-written : goal.returns-clause-written
returns-clause-written g c told =
    let fits = place_fits c.args.size c.args.at (length c.args.bytes.now) c.requires.size c.requires.some c.requires.ends in
    let seen = g.P.Parts.meaning.images.seen in
    let now_told = subst IsTrue (sym c.make_room.ensures.changes.terms.tells) told in
    let kept = c.make_room.ensures.changes.begun told in
    let room = c.in_ok-make_room.ensures.room.each (seen c.make_room.new.parts) (g.met.P.Parts.shown c.make_room.new.parts now_told) in
    kept_then kept
    (holds_part c.args.size c.args.at c.args.bytes.now (seen c.make_room.new.parts) (seen c.write_within.new.parts) c.requires.size.some fits c.requires.inside
    (omega (arith, c.requires.begins told, ap length kept.here)) room (c.in_ok-write_within.ensures.written now_told))
