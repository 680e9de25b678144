use Rattle.std.proofs.Common.{IsTrue, arith, subst, sym}
use Rattle.out_segments.specs.declared.parts.PartFile.TheVariants.{Part}
use Rattle.out_segments.proofs.Changing.{changes_by, read_then, read_changes, left_by, left_read}
use Rattle.out_segments.proofs.Cuts.{kept_behind, short_still, kept, may_cut_fits, cut_read_none, cut_read_then}
use Rattle.out_segments.proofs.cutting.empty_part.Goals as goal

pub returns-in_err-length_of-clause-changes : goal.returns-in_err-length_of-clause-changes
returns-in_err-length_of-clause-changes g c = read_changes c.length_of.ensures.only_read (kept c.args.size c.args.place)

pub returns-in_err-length_of-clause-short : goal.returns-in_err-length_of-clause-short
returns-in_err-length_of-clause-short g c = left_read c.requires.short c.length_of.ensures.only_read

pub returns-in_err-cut_part-clause-changes : goal.returns-in_err-cut_part-clause-changes
returns-in_err-cut_part-clause-changes g c =
    let short = left_read c.requires.short c.length_of.ensures.only_read in
    read_then c.length_of.ensures.only_read
    (changes_by (g.met.P.Parts.shown c.length_of.new.parts) c.cut_part.ensures.changes (λ x y left at. kept_behind c.args.size c.args.place c.args.number c.requires.behind (omega (arith, c.ranges.number.fits)) x y (may_cut_fits c.args.size 0 (x (Part c.args.number)) (y (Part c.args.number))) (short.each x left) at))
    (kept c.args.size c.args.place)

pub returns-in_err-cut_part-clause-short : goal.returns-in_err-cut_part-clause-short
returns-in_err-cut_part-clause-short g c = left_by (left_read c.requires.short c.length_of.ensures.only_read) c.cut_part.ensures.changes.crash (λ x y short at. short_still c.args.size c.args.place c.args.number c.requires.behind (omega (arith, c.ranges.number.fits)) x y short at)

pub returns-clause-changes : goal.returns-clause-changes
returns-clause-changes g c =
    let short = left_read c.requires.short c.length_of.ensures.only_read in
    read_then c.length_of.ensures.only_read
    (changes_by (g.met.P.Parts.shown c.length_of.new.parts) c.cut_part.ensures.changes (λ x y left at. kept_behind c.args.size c.args.place c.args.number c.requires.behind (omega (arith, c.ranges.number.fits)) x y (may_cut_fits c.args.size 0 (x (Part c.args.number)) (y (Part c.args.number))) (short.each x left) at))
    (kept c.args.size c.args.place)

pub returns-clause-short : goal.returns-clause-short
returns-clause-short g c = left_by (left_read c.requires.short c.length_of.ensures.only_read) c.cut_part.ensures.changes.crash (λ x y short at. short_still c.args.size c.args.place c.args.number c.requires.behind (omega (arith, c.ranges.number.fits)) x y short at)

pub returns-in_err-length_of-clause-others : goal.returns-in_err-length_of-clause-others
returns-in_err-length_of-clause-others g c told = cut_read_none c.args.number _ _ c.length_of.ensures.only_read.seen

pub returns-in_err-cut_part-clause-others : goal.returns-in_err-cut_part-clause-others
returns-in_err-cut_part-clause-others g c told = cut_read_then c.args.number _ _ _ c.length_of.ensures.only_read.seen (c.cut_part.ensures.changes.begun (subst IsTrue (sym c.length_of.ensures.only_read.terms.tells) told))

pub returns-clause-others : goal.returns-clause-others
returns-clause-others g c told = cut_read_then c.args.number _ _ _ c.length_of.ensures.only_read.seen (c.cut_part.ensures.changes.begun (subst IsTrue (sym c.length_of.ensures.only_read.terms.tells) told))
