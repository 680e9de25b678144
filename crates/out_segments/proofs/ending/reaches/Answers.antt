use Rattle.std.proofs.Common.{◌≡◌, IsTrue, false, true, refl, subst, sym, arith}
use Rattle.out_segments.proofs.Outputs.{output_reached, output_unreached}
use Rattle.out_segments.proofs.Ends.{short_then}
use Rattle.out_segments.proofs.ending.reaches.Goals as goal

pub returns-then-last-size-clause-reached : goal.returns-then-last-size-clause-reached
returns-then-last-size-clause-reached g c told =
    let seen = g.P.Parts.meaning.images.seen in
    let read = c.loop-number.invariant.only_read in
    let short = short_then c.args.size c.loop-number.number c.in_ok-last.last (seen c.loop-number.parts) (seen c.args.parts.now) read.seen (c.in_ok-last.ensures.length (subst IsTrue (sym read.terms.tells) told)) (omega (arith, c.if-last-size.true)) in (
      λ no. absurd (let e : false ≡ true = no in cc),
      λ long. absurd (omega (arith, long, output_unreached c.args.size c.args.place c.loop-number.number (seen c.args.parts.now) (omega (arith, c.ranges.place.fits)) (omega (arith, c.loop-number-test.true)) short)),
    )

pub returns-clause-reached : goal.returns-clause-reached
returns-clause-reached g c told =
    let seen = g.P.Parts.meaning.images.seen in (
      λ _. output_reached c.args.size c.args.place (seen c.args.parts.now) (omega (arith, c.ranges.place.fits)) (λ number early. c.loop-number.invariant.full told number (omega (arith, early, c.loop-number-test.false))),
      λ _. refl,
    )
