use Rattle.std.proofs.Common.{ℕ, ◌+◌, List, length, arith}
use Rattle.outside.proofs.Passing.{passes_by}
use Rattle.outside.proofs.Tearing.{at_file_weaker, at_file_then}
use Rattle.slot_store.proofs.Counts.{not_fewer, done_err, done_more_then, written_err, written_then}
use Rattle.slot_store.proofs.Leaving.{leaves_on, passes_on}
use Rattle.slot_store.proofs.Tears.{stays_closed, torn_body, body_behind, torn_gate, gate_opened}
use Rattle.outside.specs.Image.{Image, AtFile, Torn, Holds}
use Rattle.outside.specs.declared.disk.DiskFile.{DiskFile}
use Rattle.slot_store.specs.Frame.{IsClosedAt, Opens}
use Rattle.slot_store.proofs.frame.write.Goals as goal

-- the body is there, and the gate was begun
gate_begun : (file : DiskFile) (place : ℕ) (body : List ℕ) (x y z : Image DiskFile) → IsClosedAt place (x file) → AtFile file (Holds (place + 1) body) x y → AtFile file (Torn place 1) y z → AtFile file (Opens place body) x z
gate_begun file place body x y z closed one two =
    at_file_then one two (λ holds torn. torn_gate place body (x file) (y file) (z file) closed (body_behind place body (x file) (y file) closed holds) torn)

pub returns-in_err-write_synced-clause-seen : goal.returns-in_err-write_synced-clause-seen
returns-in_err-write_synced-clause-seen g c told =
    let seen = g.D.Disk.meaning.images.seen in
    at_file_weaker (c.write_synced.ensures.begun told)
    (torn_body c.args.place c.args.body.now (seen c.args.disk.now c.args.file) (seen c.write_synced.new.disk c.args.file) (c.requires.closed.each (seen c.args.disk.now) (g.met.D.Disk.shown c.args.disk.now told)))

pub returns-in_err-write_synced-clause-crash : goal.returns-in_err-write_synced-clause-crash
returns-in_err-write_synced-clause-crash g c =
    passes_by c.write_synced.ensures.crash (λ x y left at. at_file_weaker at (torn_body c.args.place c.args.body.now (x c.args.file) (y c.args.file) (c.requires.closed.each x left)))

pub returns-in_err-write_synced-2-clause-seen : goal.returns-in_err-write_synced-2-clause-seen
returns-in_err-write_synced-2-clause-seen g c told =
    let seen = g.D.Disk.meaning.images.seen in
    gate_begun c.args.file c.args.place c.args.body.now (seen c.args.disk.now) (seen c.write_synced.new.disk) (seen c.write_synced-2.new.disk)
    (c.requires.closed.each (seen c.args.disk.now) (g.met.D.Disk.shown c.args.disk.now told))
    (c.in_ok-write_synced.ensures.seen told) (c.write_synced-2.ensures.begun (rw c.write_synced.ensures.terms.tells told))

pub returns-in_err-write_synced-2-clause-crash : goal.returns-in_err-write_synced-2-clause-crash
returns-in_err-write_synced-2-clause-crash g c =
    passes_on
    (passes_by c.write_synced.ensures.crash (λ x y left at. at_file_weaker at (torn_body c.args.place c.args.body.now (x c.args.file) (y c.args.file) (c.requires.closed.each x left))))
    c.in_ok-write_synced.ensures.written c.write_synced-2.ensures.crash
    (λ x y at. at)
    (λ x y z left one two. gate_begun c.args.file c.args.place c.args.body.now x y z (c.requires.closed.each x left) one two)

pub returns-in_err-write_synced-2-clause-done : goal.returns-in_err-write_synced-2-clause-done
returns-in_err-write_synced-2-clause-done g c =
    let some = c.in_err-write_synced-2.ensures.done in
    done_err c.from_residual-in_err-write_synced-2.result 4 (2 + some.0) _ _ c.from_residual-in_err-write_synced-2.ensures.0 (omega (arith, some.1)) (done_more_then 2 some.0 _ _ _ c.in_ok-write_synced.ensures.done some.2)

pub returns-in_err-write_synced-2-clause-counted : goal.returns-in_err-write_synced-2-clause-counted
returns-in_err-write_synced-2-clause-counted g c =
    let size = length c.args.body.now in
    written_err c.from_residual-in_err-write_synced-2.result c.args.file (size + 1) (size + 1) _ _ c.from_residual-in_err-write_synced-2.ensures.0 (omega arith)
    (written_then c.args.file size 1 _ _ _ c.write_synced.ensures.counted c.write_synced-2.ensures.counted)

pub returns-clause-opened : goal.returns-clause-opened
returns-clause-opened g c =
    leaves_on c.in_ok-write_synced.ensures.written c.in_ok-write_synced-2.ensures.written c.requires.closed
    (λ x y z closed one two. at_file_then one two (λ first second. gate_opened c.args.place c.args.body.now (x c.args.file) (y c.args.file) (z c.args.file) closed (body_behind c.args.place c.args.body.now (x c.args.file) (y c.args.file) closed first) second))

pub returns-clause-seen : goal.returns-clause-seen
returns-clause-seen g c told =
    let seen = g.D.Disk.meaning.images.seen in
    gate_begun c.args.file c.args.place c.args.body.now (seen c.args.disk.now) (seen c.write_synced.new.disk) (seen c.write_synced-2.new.disk)
    (c.requires.closed.each (seen c.args.disk.now) (g.met.D.Disk.shown c.args.disk.now told))
    (c.in_ok-write_synced.ensures.seen told) (c.write_synced-2.ensures.begun (rw c.write_synced.ensures.terms.tells told))

pub returns-clause-crash : goal.returns-clause-crash
returns-clause-crash g c =
    passes_on
    (passes_by c.write_synced.ensures.crash (λ x y left at. at_file_weaker at (torn_body c.args.place c.args.body.now (x c.args.file) (y c.args.file) (c.requires.closed.each x left))))
    c.in_ok-write_synced.ensures.written c.write_synced-2.ensures.crash
    (λ x y at. at)
    (λ x y z left one two. gate_begun c.args.file c.args.place c.args.body.now x y z (c.requires.closed.each x left) one two)

pub returns-clause-done : goal.returns-clause-done
returns-clause-done g c = done_more_then 2 2 _ _ _ c.in_ok-write_synced.ensures.done c.in_ok-write_synced-2.ensures.done

pub returns-clause-counted : goal.returns-clause-counted
returns-clause-counted g c = written_then c.args.file (length c.args.body.now) 1 _ _ _ c.write_synced.ensures.counted c.write_synced-2.ensures.counted

pub returns-in_err-write_synced-clause-early : goal.returns-in_err-write_synced-clause-early
returns-in_err-write_synced-clause-early g c fewer =
    passes_by c.write_synced.ensures.crash (λ x y left at. at_file_weaker at (stays_closed c.args.place c.args.body.now (x c.args.file) (y c.args.file) (c.requires.closed.each x left)))

pub returns-in_err-write_synced-2-clause-early : goal.returns-in_err-write_synced-2-clause-early
returns-in_err-write_synced-2-clause-early g c fewer =
    let some = c.in_err-write_synced-2.ensures.done in
    absurd (not_fewer 2 some.0 _ _ _ c.in_ok-write_synced.ensures.done some.2 fewer)

pub returns-clause-early : goal.returns-clause-early
returns-clause-early g c fewer =
    absurd (not_fewer 2 2 _ _ _ c.in_ok-write_synced.ensures.done c.in_ok-write_synced-2.ensures.done fewer)
