use Rattle.std.proofs.Common.{◌++◌, ◌∷◌, [], ◌∙◌, Vec, ℕ, List, ap, arith, length, length-append}
use Rattle.std.specs.declared.alloc.Global.{Global}
use Rattle.out_segments.specs.MemContents.{part_bytes}
use Rattle.out_segments.proofs.MemContents.{part_push}
use Rattle.out_segments.proofs.memory.contents.hold_part.Goals as goal

pub loop-alloc-preserved : goal.loop-alloc-preserved
loop-alloc-preserved c =
    let so_far = c.loop-alloc.invariant in
    record {
      same = λ other. ap (λ (parts : List (Vec ℕ Global)). part_bytes parts other) c.in_ok-push.ensures.items ∙ part_push c.loop-alloc.parts.items c.new.result other c.new.ensures.items ∙ so_far.same other;
      few = λ within. omega (arith, c.loop-alloc-test.true, c.ranges.number.fits, ap length c.in_ok-push.ensures.items, length-append c.loop-alloc.parts.items (c.new.result ∷ []));
      kept = omega (arith, so_far.kept, ap length c.in_ok-push.ensures.items, length-append c.loop-alloc.parts.items (c.new.result ∷ []));
    }
