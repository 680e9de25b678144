use Rattle.std.proofs.Common.{sym, ◌≡◌, ◌+◌, ◌-◌, ◌++◌, List, ℕ, [], IsTrue, length, take, refl, ap, subst, ◌∙◌, arith, length-append, length-drop}
use Rattle.std.proofs.lemmas.List.{length-take-le}
use Rattle.std.proofs.lemmas.Result.{err_from_is_err_and}
use Rattle.std.specs.Prelude.{Err}
use Rattle.op_kinds.specs.StateTexts.{state_text}
use Rattle.pipeline.specs.Parts.{settings_of}
use Rattle.pipeline.specs.Searched.{IsSearched}
use Rattle.pipeline.proofs.Cutting.{nothing_searched}
use Rattle.standing.specs.AreRules.{AreRules}
use Rattle.standing.specs.Rows.{Row}
use Rattle.standing.specs.Tokens.{used}
use Rattle.file_pass.specs.Fed.{IsReading, feeding_row, rules_in}
use Rattle.file_pass.specs.Moment.{feeding_at, meanings, moment}
use Rattle.file_pass.specs.declared.ending.Ending.TheVariants.{Whole}
use Rattle.file_pass.specs.declared.fault.PassFault.TheVariants.{OutputFull}
use Rattle.file_pass.proofs.DiskLemmas.{ends_then, keeps_disk_none, keeps_disk_then}
use Rattle.file_pass.proofs.GoingOn.{fills_up, reading_begins, reading_on, reads_on}
use Rattle.file_pass.proofs.TreeLemmas.{keeps_tree_none, keeps_tree_on, keeps_tree_within}
use Rattle.file_pass.proofs.feeding.read_on.Goals as goal

pub loop-from-init : goal.loop-from-init
loop-from-init g c =
    let trees = g.T.Tree.meaning in
    let disks = g.D.Disk.meaning in
    let text = c.args.setup.now.settings.now in
    let states = c.args.feeding.now.state.states.items in
    let laws : AreRules (rules_in c.args.setup.now) = c.a_pipeline_is_rules.ensures text c.requires.setup.0 in
    let good : IsTrue ((rules_in c.args.setup.now).is_state (feeding_row c.args.feeding.now).state) = c.a_row_tells_its_state.ensures.restored text (state_text states) states (record { kinds = c.requires.sane.states; told = refl }) in
    let offset : ℕ = c.args.feeding.now.offset in
    record {
      reading = reading_begins (meanings trees disks) c.args.setup.now laws (feeding_at c.args.feeding.now c.args.end.now (moment c.args.tree.now c.args.disk.now)) good (omega (arith, c.requires.begins)) c.requires.none;
      searched = λ more. subst (λ (n : ℕ). IsSearched (settings_of c.args.setup.now.pipeline.now) (c.args.feeding.now.carried.items ++ more) n) (sym c.requires.anew)
          (nothing_searched (settings_of c.args.setup.now.pipeline.now) (c.args.feeding.now.carried.items ++ more));
      sane = c.requires.sane;
      offset = omega (arith, ap length c.requires.none);
      later = omega arith;
      ends = c.requires.ends;
      keeps_tree = keeps_tree_within trees (length c.args.buffer.now) 0 (offset - offset) c.args.tree.now c.args.tree.now (omega arith) (keeps_tree_none trees (length c.args.buffer.now) c.args.tree.now);
      keeps_disk = keeps_disk_none disks c.args.end.now c.args.disk.now;
      stood = refl;
      long = refl;
    }

pub returns-then-not-is_whole-clause-ok : goal.returns-then-not-is_whole-clause-ok
returns-then-not-is_whole-clause-ok g c =
    let trees = g.T.Tree.meaning in
    let disks = g.D.Disk.meaning in
    let inv = c.loop-from.invariant in
    let text = c.args.setup.now.settings.now in
    let states = c.args.feeding.now.state.states.items in
    let laws : AreRules (rules_in c.args.setup.now) = c.a_pipeline_is_rules.ensures text c.requires.setup.0 in
    let good : IsTrue ((rules_in c.args.setup.now).is_state (feeding_row c.args.feeding.now).state) = c.a_row_tells_its_state.ensures.restored text (state_text states) states (record { kinds = c.requires.sane.states; told = refl }) in
    let not_whole : c.read_piece-count.result.1 ≡ Whole → ⊥ = c.is_whole.ensures.no c.if-not-is_whole.true in
    let buffer = c.read_piece-count.new.buffer in
    let none : take c.read_piece-count.result.0 buffer ≡ [] = ap (λ (n : ℕ). take n buffer) (c.read_piece-count.ensures.none not_whole) in
    reads_on (meanings trees disks) c.args.setup.now laws (feeding_at c.args.feeding.now c.args.end.now (moment c.args.tree.now c.args.disk.now)) (feeding_at c.loop-from.feeding c.loop-from.end (moment c.loop-from.tree c.loop-from.disk))
    (feeding_at c.loop-from.feeding c.loop-from.end (moment c.read_piece-count.new.tree c.loop-from.disk)) c.loop-from.from c.last_of-last.result (take c.read_piece-count.result.0 buffer)
    inv.keeps_disk.terms.tells good inv.reading c.read_piece-count.result.1 none c.last_of-last.ensures (λ is. absurd (not_whole is)) (λ _. c.loop-from-test.true) (omega (arith, c.loop-from-test.true)) c.read_piece-count.ensures.tree.world c.read_piece-count.ensures.tree.cause

pub returns-then-not-is_whole-clause-tree : goal.returns-then-not-is_whole-clause-tree
returns-then-not-is_whole-clause-tree g c =
    let inv = c.loop-from.invariant in
    keeps_tree_on g.T.Tree.meaning _ _ _ _ _ c.args.tree.now c.loop-from.tree c.read_piece-count.new.tree inv.keeps_tree c.read_piece-count.ensures.tree.keeps
    (omega (arith, c.read_piece-count.ensures.within.1, c.last_of-last.ensures, inv.reading.from_is)) (omega (arith, inv.long))

pub returns-in_err-extend_from_slice-clause-tree : goal.returns-in_err-extend_from_slice-clause-tree
returns-in_err-extend_from_slice-clause-tree g c =
    let inv = c.loop-from.invariant in
    keeps_tree_on g.T.Tree.meaning _ _ _ _ _ c.args.tree.now c.loop-from.tree c.read_piece-count.new.tree inv.keeps_tree c.read_piece-count.ensures.tree.keeps
    (omega (arith, c.read_piece-count.ensures.within.1, c.last_of-last.ensures, inv.reading.from_is)) (omega (arith, inv.long))

pub returns-in_err-feed_carried-clause-tree : goal.returns-in_err-feed_carried-clause-tree
returns-in_err-feed_carried-clause-tree g c =
    let inv = c.loop-from.invariant in
    keeps_tree_on g.T.Tree.meaning _ _ _ _ _ c.args.tree.now c.loop-from.tree c.read_piece-count.new.tree inv.keeps_tree c.read_piece-count.ensures.tree.keeps
    (omega (arith, c.read_piece-count.ensures.within.1, c.last_of-last.ensures, inv.reading.from_is)) (omega (arith, inv.long))

pub returns-in_err-feed_carried-clause-disk : goal.returns-in_err-feed_carried-clause-disk
returns-in_err-feed_carried-clause-disk g c =
    let inv = c.loop-from.invariant in
    keeps_disk_then g.D.Disk.meaning c.args.end.now c.loop-from.end c.args.disk.now c.loop-from.disk c.feed_carried.new.disk inv.later inv.keeps_disk c.in_err-feed_carried.ensures.disk

pub returns-in_err-feed_carried-clause-full : goal.returns-in_err-feed_carried-clause-full
returns-in_err-feed_carried-clause-full g c = λ size is.
    let trees = g.T.Tree.meaning in
    let disks = g.D.Disk.meaning in
    let inv = c.loop-from.invariant in
    let text = c.args.setup.now.settings.now in
    let states = c.args.feeding.now.state.states.items in
    let laws : AreRules (rules_in c.args.setup.now) = c.a_pipeline_is_rules.ensures text c.requires.setup.0 in
    let good : IsTrue ((rules_in c.args.setup.now).is_state (feeding_row c.args.feeding.now).state) = c.a_row_tells_its_state.ensures.restored text (state_text states) states (record { kinds = c.requires.sane.states; told = refl }) in
    let buffer = c.read_piece-count.new.buffer in
    let piece : List ℕ = take c.read_piece-count.result.0 buffer in
    let count_is : length piece ≡ c.read_piece-count.result.0 = length-take-le c.read_piece-count.result.0 buffer c.read_piece-count.ensures.within.0 in
    let made = err_from_is_err_and c.from_residual-in_err-feed_carried.result c.from_residual-in_err-feed_carried.ensures.1 in
    let fault : c.in_err-feed_carried.field-0.0 ≡ OutputFull size = cc (made.1, made.2, is) in
    let whole = c.is_whole.ensures.yes c.if-not-is_whole.false in
    let read = rw whole at c.read_piece-count.ensures.tree in
    fills_up (meanings trees disks) c.args.setup.now laws (feeding_at c.args.feeding.now c.args.end.now (moment c.args.tree.now c.args.disk.now)) (feeding_at c.loop-from.feeding c.loop-from.end (moment c.loop-from.tree c.loop-from.disk))
    (feeding_at c.loop-from.feeding c.loop-from.end (moment c.read_piece-count.new.tree c.loop-from.disk)) c.loop-from.from c.last_of-last.result piece
    inv.keeps_disk.terms.tells good inv.reading size (omega (arith, count_is, c.read_piece-count.ensures.within.1)) c.last_of-last.ensures read.world read.cause
    (rw c.in_ok-extend_from_slice.ensures.items at (c.in_err-feed_carried.ensures.full size (ap Err fault)))

pub loop-from-preserved : goal.loop-from-preserved
loop-from-preserved g c =
    let trees = g.T.Tree.meaning in
    let disks = g.D.Disk.meaning in
    let inv = c.loop-from.invariant in
    let text = c.args.setup.now.settings.now in
    let rules = rules_in c.args.setup.now in
    let states = c.args.feeding.now.state.states.items in
    let laws : AreRules (rules_in c.args.setup.now) = c.a_pipeline_is_rules.ensures text c.requires.setup.0 in
    let good : IsTrue ((rules_in c.args.setup.now).is_state (feeding_row c.args.feeding.now).state) = c.a_row_tells_its_state.ensures.restored text (state_text states) states (record { kinds = c.requires.sane.states; told = refl }) in
    let count : ℕ = c.read_piece-count.result.0 in
    let buffer = c.read_piece-count.new.buffer in
    let piece : List ℕ = take count buffer in
    let bytes : List ℕ = c.loop-from.feeding.carried.items ++ piece in
    let count_is : length piece ≡ count = length-take-le count buffer c.read_piece-count.ensures.within.0 in
    let whole = c.is_whole.ensures.yes c.if-not-is_whole.false in
    let read = rw whole at c.read_piece-count.ensures.tree in
    let fed = rw c.in_ok-extend_from_slice.ensures.items at c.in_ok-feed_carried.ensures.fed in
    let rest = rw c.in_ok-extend_from_slice.ensures.items at c.in_ok-feed_carried.ensures.rest in
    let appends = rw c.in_ok-extend_from_slice.ensures.items at c.in_ok-feed_carried.ensures.ok in
    let tells = c.in_ok-feed_carried.ensures.disk.terms.tells in
    let now = feeding_at c.feed_carried.new.feeding c.feed_carried.new.end (moment c.read_piece-count.new.tree c.feed_carried.new.disk) in
    record {
      reading = subst (λ (n : ℕ). IsReading (meanings trees disks) c.args.setup.now (c.loop-from.from + n) (feeding_at c.args.feeding.now c.args.end.now (moment c.args.tree.now c.args.disk.now)) now) count_is
          (reading_on (meanings trees disks) c.args.setup.now laws (feeding_at c.args.feeding.now c.args.end.now (moment c.args.tree.now c.args.disk.now)) (feeding_at c.loop-from.feeding c.loop-from.end (moment c.loop-from.tree c.loop-from.disk)) now c.loop-from.from c.last_of-last.result piece
          inv.keeps_disk.terms.tells good inv.reading (omega (arith, count_is, c.read_piece-count.ensures.within.1)) c.last_of-last.ensures read.world read.cause fed rest c.feed_carried.ensures.flushed appends);
      searched = c.in_ok-feed_carried.ensures.searched;
      sane = c.in_ok-feed_carried.ensures.sane;
      offset = omega (arith, ap (λ (r : Row). r.offset) fed, ap length rest, length-drop (used rules bytes) bytes, laws.tokens.within bytes, length-append c.loop-from.feeding.carried.items piece, count_is, inv.offset);
      later = omega (arith, inv.later, appends.end_is);
      ends = ends_then disks _ c.loop-from.end c.feed_carried.new.end c.loop-from.disk c.feed_carried.new.disk tells appends inv.ends;
      keeps_tree = keeps_tree_on trees _ _ _ _ _ c.args.tree.now c.loop-from.tree c.read_piece-count.new.tree inv.keeps_tree read.keeps (omega (arith, inv.reading.from_is)) (omega (arith, inv.long));
      keeps_disk = keeps_disk_then disks c.args.end.now c.loop-from.end c.args.disk.now c.loop-from.disk c.feed_carried.new.disk inv.later inv.keeps_disk c.in_ok-feed_carried.ensures.disk;
      stood = c.in_ok-feed_carried.ensures.cause ∙ inv.stood;
      long = c.read_piece-count.ensures.long ∙ inv.long;
    }

pub feed_carried-requires-clause-searched : goal.feed_carried-requires-clause-searched
feed_carried-requires-clause-searched g c =
    rw c.in_ok-extend_from_slice.ensures.items (c.loop-from.invariant.searched (take c.read_piece-count.result.0 c.read_piece-count.new.buffer))
