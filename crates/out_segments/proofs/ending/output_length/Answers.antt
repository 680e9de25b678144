use Rattle.std.proofs.Common.{◌≡◌, IsTrue, length, subst, sym, ap, arith}
use Rattle.outside.specs.Image.{Image}
use Rattle.out_segments.specs.declared.parts.PartFile.{PartFile}
use Rattle.out_segments.specs.declared.parts.PartFile.TheVariants.{Part}
use Rattle.out_segments.proofs.Outputs.{output_ends, output_reached}
use Rattle.out_segments.proofs.Ends.{short_then, output_whole}
use Rattle.out_segments.proofs.ending.output_length.Goals as goal

pub returns-then-last-size-clause-length : goal.returns-then-last-size-clause-length
returns-then-last-size-clause-length g c told =
    let seen = g.P.Parts.meaning.images.seen in
    let read = c.loop-full.invariant.only_read in
    let is = c.in_ok-last.ensures.length (subst IsTrue (sym read.terms.tells) told) in
    let short = short_then c.args.size c.loop-full.full c.in_ok-last.last (seen c.loop-full.parts) (seen c.args.parts.now) read.seen is (omega (arith, c.if-last-size.true)) in
    let same : length (seen c.loop-full.parts (Part c.loop-full.full)) ≡ length (seen c.args.parts.now (Part c.loop-full.full)) = ap (λ (image : Image PartFile). length (image (Part c.loop-full.full))) read.seen in
    omega (arith, is, same, output_ends c.args.size c.loop-full.full (omega (arith, c.loop-full-test.true)) (seen c.args.parts.now) short (output_reached c.args.size c.loop-full.full (seen c.args.parts.now) (omega (arith, c.loop-full.invariant.within)) (c.loop-full.invariant.full told)))

pub returns-clause-length : goal.returns-clause-length
returns-clause-length g c told = output_whole c.args.size c.loop-full.full (g.P.Parts.meaning.images.seen c.args.parts.now) (omega (arith, c.loop-full-test.false)) c.loop-full.invariant.within (c.loop-full.invariant.full told)
