use Rattle.std.proofs.Common.{◌≡◌, ◌-◌, ◌+◌, ◌<◌, length, true, false, arith, ◌∙◌}
use Rattle.std.specs.Prelude.{Ok}
use Rattle.outside.proofs.Telling.{told_same, told_then, told_weaker}
use Rattle.outside.specs.Reading.{Reads}
use Rattle.slot_store.proofs.Filling.{length_filled}
use Rattle.folder_audit.specs.Inner.ReadsRange.{AreBytes, EndsBefore}
use Rattle.folder_audit.specs.Inner.Tried.{UnlessRose}
use Rattle.folder_audit.proofs.ReadLemmas.{SoFar, all_read, cut_short, ends_before, goes_none, goes_then, none_so_far, read_failed, read_goes, read_on}
use Rattle.folder_audit.proofs.reading.read_range.Goals as goal

pub loop-filled-init : goal.loop-filled-init
loop-filled-init g c =
    let trees = g.T.Tree.meaning in
    record {
      within = omega arith;
      long = omega arith;
      goes_on = goes_none trees c.args.tree.now;
      far = told_same (SoFar c.args.handle.0 c.args.from c.args.buffer.now 0) (trees.world c.args.tree.now) (none_so_far c.args.handle.0 c.args.from c.args.buffer.now);
    }

pub loop-filled-preserved : goal.loop-filled-preserved
loop-filled-preserved g c =
    let trees = g.T.Tree.meaning in
    let inv = c.loop-filled.invariant in
    let buffer = c.loop-filled.buffer in
    let filled = c.loop-filled.filled in
    let piece = c.read_at.new.buf in
    let count = c.in-Ok.count in
    let long : length piece ≡ length buffer - filled = omega (arith, c.read_at.auto.buf) in
    let same = length_filled buffer piece filled inv.within long in
    record {
      within = omega (arith, same, long, inv.within, c.in-Ok.ensures.within);
      long = same ∙ inv.long;
      goes_on = goes_then trees c.args.tree.now c.loop-filled.tree c.read_at.new.self inv.goes_on
          (read_goes trees c.args.handle.0 (c.args.from + filled) piece c.read_at.result c.loop-filled.tree c.read_at.new.self c.read_at.ensures.history c.read_at.ensures.cause);
      far = told_then (SoFar c.args.handle.0 c.args.from buffer filled) (Reads c.args.handle.0 (c.args.from + filled) piece (Ok count)) _ (trees.world c.args.tree.now) (trees.world c.loop-filled.tree) (trees.world c.read_at.new.self)
          (λ x y z far reads. read_on c.args.handle.0 c.args.from buffer piece filled count x y z inv.within long c.in-Ok.ensures.within far reads same) inv.far c.in-Ok.ensures.history;
    }

pub returns-in-Ok-eq0-clause-range : goal.returns-in-Ok-eq0-clause-range
returns-in-Ok-eq0-clause-range g c =
    let trees = g.T.Tree.meaning in
    let inv = c.loop-filled.invariant in
    let buffer = c.loop-filled.buffer in
    let filled = c.loop-filled.filled in
    let piece = c.read_at.new.buf in
    let given = rw c.in-Ok-eq0.field-0-test at c.in-Ok-eq0.ensures in
    let less : filled < length buffer = omega (arith, c.loop-filled-test.true, inv.long) in
    let long : length piece ≡ length buffer - filled = omega (arith, c.read_at.auto.buf) in
    let same = length_filled buffer piece filled inv.within long in
    cut_short trees (goes_then trees c.args.tree.now c.loop-filled.tree c.read_at.new.self inv.goes_on
    (read_goes trees c.args.handle.0 (c.args.from + filled) piece c.read_at.result c.loop-filled.tree c.read_at.new.self c.read_at.ensures.history c.read_at.ensures.cause))
    (ends_before trees c.args.handle.0 c.args.from buffer piece filled _ c.args.tree.now c.loop-filled.tree c.read_at.new.self same less inv.far (omega (arith, long, less)) given.history)

pub returns-in-Err-clause-range : goal.returns-in-Err-clause-range
returns-in-Err-clause-range g c =
    let trees = g.T.Tree.meaning in
    let inv = c.loop-filled.invariant in
    let goes = goes_then trees c.args.tree.now c.loop-filled.tree c.read_at.new.self inv.goes_on
    (read_goes trees c.args.handle.0 (c.args.from + c.loop-filled.filled) c.read_at.new.buf c.read_at.result c.loop-filled.tree c.read_at.new.self c.read_at.ensures.history c.read_at.ensures.cause) in
    cut_short trees goes (read_failed trees _ c.args.tree.now c.loop-filled.tree c.read_at.new.self inv.goes_on c.in-Err.ensures.cause goes)

pub returns-clause-range : goal.returns-clause-range
returns-clause-range g c =
    let trees = g.T.Tree.meaning in
    let inv = c.loop-filled.invariant in
    record {
      goes_on = inv.goes_on;
      given = λ is. told_weaker (SoFar c.args.handle.0 c.args.from c.loop-filled.buffer c.loop-filled.filled) (AreBytes c.args.handle.0 c.args.from c.loop-filled.buffer) (trees.world c.args.tree.now) (trees.world c.loop-filled.tree)
          (λ x y far. all_read c.args.handle.0 c.args.from c.loop-filled.buffer c.loop-filled.filled x y (omega (arith, inv.within, inv.long)) far) inv.far;
      failed = λ is. absurd {A = UnlessRose trees (EndsBefore c.args.handle.0 (c.args.from + length c.loop-filled.buffer)) c.args.tree.now c.loop-filled.tree} (let never : true ≡ false = is in cc);
    }
