use Rattle.std.proofs.Common.{◌+◌, ◌∙◌, IsTrue, arith, refl, subst, sym}
use Rattle.out_segments.proofs.Changing.{changes_none, changes_then}
use Rattle.out_segments.proofs.Cuts.{emptied_none, emptied_more, emptied_up, emptied_whole, kept}
use Rattle.out_segments.proofs.Outputs.{kept_then}
use Rattle.out_segments.proofs.cutting.cut_later.Goals as goal

pub loop-number-init : goal.loop-number-init
loop-number-init g c = record {
  behind = omega arith;
  changes = changes_none c.args.parts.now (kept c.args.size c.args.place);
  emptied = λ told. emptied_none c.args.place (g.P.Parts.meaning.images.seen c.args.parts.now);
  short = c.requires.short;
  cause = refl;
}

pub loop-number-preserved : goal.loop-number-preserved
loop-number-preserved g c =
    let so_far = c.loop-number.invariant in
    let seen = g.P.Parts.meaning.images.seen in
    record {
      behind = omega (arith, so_far.behind);
      changes = changes_then so_far.changes c.empty_part.ensures.changes (λ x y kept. kept) (λ x y z a b. kept_then a b);
      emptied = λ told.
          let now = subst IsTrue (sym so_far.changes.terms.tells) told in
          emptied_more c.args.place c.loop-number.number (seen c.args.parts.now) (seen c.loop-number.parts) (seen c.empty_part.new.parts) (so_far.emptied told) (c.in_ok-had_bytes.ensures.empty now) (c.empty_part.ensures.others now);
      short = c.empty_part.ensures.short;
      cause = c.in_ok-had_bytes.ensures.cause ∙ so_far.cause;
    }

pub returns-then-not-had_bytes-clause-emptied : goal.returns-then-not-had_bytes-clause-emptied
returns-then-not-had_bytes-clause-emptied g c told =
    let so_far = c.loop-number.invariant in
    let seen = g.P.Parts.meaning.images.seen in
    let now = subst IsTrue (sym so_far.changes.terms.tells) told in
    let number = c.loop-number.number in
    let emptied = so_far.emptied told in
    emptied_up c.args.place (number + 1) (seen c.args.parts.now) (seen c.empty_part.new.parts) (omega (arith, so_far.behind))
    (sym (emptied.later (number + 1) (omega arith)) ∙ c.in_ok-had_bytes.ensures.was_empty c.if-not-had_bytes.true now)
    (emptied_more c.args.place number (seen c.args.parts.now) (seen c.loop-number.parts) (seen c.empty_part.new.parts) emptied (c.in_ok-had_bytes.ensures.empty now) (c.empty_part.ensures.others now))

pub returns-clause-emptied : goal.returns-clause-emptied
returns-clause-emptied g c told = emptied_whole c.args.place c.loop-number.number _ _ (omega (arith, c.loop-number-test.false)) (c.loop-number.invariant.emptied told)

pub returns-in_err-had_bytes-clause-changes : goal.returns-in_err-had_bytes-clause-changes
returns-in_err-had_bytes-clause-changes g c = changes_then c.loop-number.invariant.changes c.empty_part.ensures.changes (λ x y kept. kept) (λ x y z a b. kept_then a b)

pub returns-then-not-had_bytes-clause-changes : goal.returns-then-not-had_bytes-clause-changes
returns-then-not-had_bytes-clause-changes g c = changes_then c.loop-number.invariant.changes c.empty_part.ensures.changes (λ x y kept. kept) (λ x y z a b. kept_then a b)
