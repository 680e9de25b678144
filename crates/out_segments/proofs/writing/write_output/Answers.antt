use Rattle.std.proofs.Common.{◌+◌, ◌-◌, IsTrue, length, take, drop, subst, sym, arith, ◌∙◌}
use Rattle.out_segments.proofs.Changing.{changes_then}
use Rattle.out_segments.proofs.Writes.{torn_more, holds_more, piece_within}
use Rattle.out_segments.proofs.writing.write_output.Goals as goal

pub returns-in_err-write_part-clause-changes : goal.returns-in_err-write_part-clause-changes
returns-in_err-write_part-clause-changes g c =
    let bytes = c.args.bytes.now in
    let written = c.loop-written.written in
    let last = written + c.min-count.result in
    let piece = take (last - written) (drop written bytes) in
    changes_then c.loop-written.invariant.changes c.write_part.ensures.changes
    (λ x y torn. torn)
    (λ x y z a b. torn_more c.args.size c.args.offset (length bytes) (c.args.offset + written) (length piece) x y z (omega arith) (omega (arith, piece_within bytes written (last - written) c.loop-written.invariant.within)) c.requires.size.some a b)

pub loop-written-preserved : goal.loop-written-preserved
loop-written-preserved g c =
    let so_far = c.loop-written.invariant in
    let bytes = c.args.bytes.now in
    let written = c.loop-written.written in
    let last = written + c.min-count.result in
    let piece = take (last - written) (drop written bytes) in
    let seen = g.P.Parts.meaning.images.seen in
    record {
      within = omega (arith, c.min-count.ensures, so_far.within);
      cause = c.in_ok-write_part.ensures.cause ∙ so_far.cause;
      front = λ told. holds_more c.args.size c.args.offset written last bytes (seen c.args.parts.now) (seen c.loop-written.parts) (seen c.write_part.new.parts) so_far.within (omega arith) c.requires.size.some (so_far.front told) (c.in_ok-write_part.ensures.written (subst IsTrue (sym so_far.changes.terms.tells) told));
      changes = changes_then so_far.changes c.write_part.ensures.changes
          (λ x y torn. torn)
          (λ x y z a b. torn_more c.args.size c.args.offset (length bytes) (c.args.offset + written) (length piece) x y z (omega arith) (omega (arith, piece_within bytes written (last - written) so_far.within)) c.requires.size.some a b);
    }
