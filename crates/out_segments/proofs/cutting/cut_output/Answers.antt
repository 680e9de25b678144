use Rattle.std.proofs.Common.{◌/◌, IsTrue, arith, subst, sym}
use Rattle.out_segments.proofs.Outputs.{output_most}
use Rattle.out_segments.proofs.Cuts.{cut_behind, emptied_past, emptied_behind}
use Rattle.out_segments.proofs.cutting.cut_output.Goals as goal

pub returns-in_default-clause-cut : goal.returns-in_default-clause-cut
returns-in_default-clause-cut g c told =
    let image = g.P.Parts.meaning.images.seen c.args.parts.now in
    cut_behind c.args.size c.args.length image (omega (arith, output_most c.args.size image, c.in_default.ensures.none))

pub returns-in_default-clause-emptied : goal.returns-in_default-clause-emptied
returns-in_default-clause-emptied g c told =
    let image = g.P.Parts.meaning.images.seen c.args.parts.now in
    emptied_past c.args.size c.args.length image image c.requires.size.some c.in_default.ensures.none

pub returns-clause-emptied : goal.returns-clause-emptied
returns-clause-emptied g c told =
    let seen = g.P.Parts.meaning.images.seen in
    let cut = c.in_ok-cut_last.ensures.others told in
    let now = subst IsTrue (sym c.cut_last.ensures.changes.terms.tells) told in
    emptied_behind c.in-Some.place (c.args.length / c.args.size) (seen c.args.parts.now) (seen c.cut_last.new.parts) (seen c.cut_later.new.parts) c.in-Some.ensures.some cut (c.in_ok-cut_later.ensures.emptied now)
