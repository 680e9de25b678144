use Rattle.std.proofs.Common.{◌≡◌, ◌+◌, ◌*◌, IsTrue, arith, subst, sym, ap, ◌∙◌}
use Rattle.outside.specs.Image.{Image, AtFile, IsCut}
use Rattle.out_segments.specs.Inner.AtOutput.{AtOutput}
use Rattle.out_segments.specs.declared.parts.PartFile.{PartFile}
use Rattle.out_segments.specs.declared.parts.PartFile.TheVariants.{Part}
use Rattle.out_segments.proofs.Outputs.{output_begins}
use Rattle.out_segments.proofs.Changing.{changes_by, then_read}
use Rattle.out_segments.proofs.Cuts.{may_cut, is_cut, short_cut}
use Rattle.out_segments.proofs.cutting.cut_last.Goals as goal

pub cut_part-requires : goal.cut_part-requires
cut_part-requires g c told = output_begins c.args.size c.args.place (omega (arith, c.ranges.place.fits)) (g.P.Parts.meaning.images.seen c.args.parts.now) c.args.inside (omega (arith, c.requires.inside)) (c.requires.within told)

pub returns-in_err-cut_part-clause-changes : goal.returns-in_err-cut_part-clause-changes
returns-in_err-cut_part-clause-changes g c = changes_by (g.met.P.Parts.shown c.args.parts.now) c.cut_part.ensures.changes (λ x y left at. may_cut c.args.size c.args.place c.args.inside c.requires.size.some (omega (arith, c.ranges.place.fits)) c.requires.inside x y at)

pub returns-in_err-sync_part-clause-changes : goal.returns-in_err-sync_part-clause-changes
returns-in_err-sync_part-clause-changes g c = then_read (changes_by (g.met.P.Parts.shown c.args.parts.now) c.cut_part.ensures.changes (λ x y left at. may_cut c.args.size c.args.place c.args.inside c.requires.size.some (omega (arith, c.ranges.place.fits)) c.requires.inside x y at)) c.sync_part.ensures.only_read

pub returns-clause-changes : goal.returns-clause-changes
returns-clause-changes g c = then_read (changes_by (g.met.P.Parts.shown c.args.parts.now) c.cut_part.ensures.changes (λ x y left at. may_cut c.args.size c.args.place c.args.inside c.requires.size.some (omega (arith, c.ranges.place.fits)) c.requires.inside x y at)) c.sync_part.ensures.only_read

pub returns-clause-cut : goal.returns-clause-cut
returns-clause-cut g c told =
    let seen = g.P.Parts.meaning.images.seen in
    let cut = is_cut c.args.size c.args.place c.args.inside c.requires.size.some (omega (arith, c.ranges.place.fits)) c.requires.inside (seen c.args.parts.now) (seen c.cut_part.new.parts) (c.in_ok-cut_part.ensures.cut told) in
    let Q : Image PartFile → Type 0 = λ image. AtOutput c.args.size c.args.place (IsCut (c.args.place * c.args.size + c.args.inside)) (seen c.args.parts.now) image in
    subst Q (sym c.sync_part.ensures.only_read.seen) cut

pub returns-clause-short : goal.returns-clause-short
returns-clause-short g c = record {
  each = λ image left.
      let seen = g.P.Parts.meaning.images.seen in
      let told = subst IsTrue (c.cut_part.ensures.changes.terms.tells) (subst IsTrue (c.sync_part.ensures.only_read.terms.tells) (g.met.P.Parts.told c.sync_part.new.parts image left)) in
      let same = c.in_ok-sync_part.ensures.durable image left in
      let at : seen c.sync_part.new.parts (Part c.args.place) ≡ seen c.cut_part.new.parts (Part c.args.place) = ap (λ (i : Image PartFile). i (Part c.args.place)) c.sync_part.ensures.only_read.seen in
      short_cut c.args.size c.args.inside (seen c.args.parts.now (Part c.args.place)) (seen c.cut_part.new.parts (Part c.args.place)) (image (Part c.args.place)) c.requires.inside (c.in_ok-cut_part.ensures.cut told).here (same ∙ at);
}

pub returns-clause-others : goal.returns-clause-others
returns-clause-others g c told =
    let seen = g.P.Parts.meaning.images.seen in
    let Q : Image PartFile → Type 0 = λ image. AtFile (Part c.args.place) (IsCut c.args.inside) (seen c.args.parts.now) image in
    subst Q (sym c.sync_part.ensures.only_read.seen) (c.in_ok-cut_part.ensures.cut told)
