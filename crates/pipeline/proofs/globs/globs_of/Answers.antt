use Rattle.std.proofs.Common.{◌∷◌, [], ap, subst, sym, length, length-append, arith, refl}
use Rattle.std.specs.Str.{chars}
use Rattle.glob_match.specs.GlobFaults.{IsReadFault}
use Rattle.glob_match.specs.declared.glob.GlobFault.TheVariants.{Syntax}
use Rattle.pipeline.specs.Globs.{IsPatternOf}
use Rattle.pipeline.proofs.Building.{spec_at, one_more_pair}
use Rattle.pipeline.proofs.GlobsRead.{read_before, told_fault}
use Rattle.pipeline.proofs.globs.globs_of.Goals as goal

pub returns-in-Err-Syntax-clause-fault : goal.returns-in-Err-Syntax-clause-fault
returns-in-Err-Syntax-clause-fault c =
    let texts = c.args.texts.now in
    let text = c.index-texts-place.result in (
      refl,
      record {
        text = text;
        there = spec_at texts c.loop-place.place text c.loop-place-test.true c.index-texts-place.is;
        wrong = subst (λ at. IsReadFault (chars text) (Syntax at)) (sym c.in-Err-Syntax.at-is)
            (told_fault text c.as_str.result.now c.in-Err-Syntax.field-0 c.in-Err-Syntax.at c.as_str.ensures c.in-Err-Syntax.field-0-is c.in-Err-Syntax.ensures.fault);
        before = read_before texts c.loop-place.globs.items c.loop-place.place c.loop-place.invariant.many c.loop-place.invariant.each;
      },
    )

pub loop-place-preserved : goal.loop-place-preserved
loop-place-preserved c =
    let texts = c.args.texts.now in
    let text = c.index-texts-place.result in
    let globs = c.loop-place.globs.items in
    record {
      many = omega (arith, ap length c.in_ok-push-in-Ok.ensures.items, length-append globs (c.in-Ok.glob ∷ []), c.loop-place.invariant.many);
      each = one_more_pair IsPatternOf texts globs c.push.new.self.items text c.in-Ok.glob c.loop-place.place c.loop-place.invariant.many c.loop-place.invariant.each
          (spec_at texts c.loop-place.place text c.loop-place-test.true c.index-texts-place.is) (rw c.as_str.ensures at c.in-Ok.ensures.ok) c.in_ok-push-in-Ok.ensures.items;
    }
