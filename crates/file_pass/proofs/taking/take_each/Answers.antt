use Rattle.std.proofs.Common.{◌≡◌, ◌∙◌, take, sym, ap, subst, arith, refl, Err, List, ℕ}
use Rattle.std.proofs.lemmas.Grind.{common_steps}
use Rattle.std.proofs.lemmas.List.{take_all}
use Rattle.file_pass.specs.AllTaken.{TakesAll}
use Rattle.file_pass.specs.Fed.{rules_in}
use Rattle.file_pass.specs.Full.{lines_text}
use Rattle.file_pass.specs.Moment.{meanings, moment, taking_at}
use Rattle.file_pass.specs.declared.fault.PassFault.TheVariants.{OutputFull}
use Rattle.file_pass.specs.declared.taking.TheConstants.{BUFFER_SIZE}
use Rattle.file_pass.proofs.DiskLemmas.{keeps_disk_none, keeps_disk_then, ends_then}
use Rattle.file_pass.proofs.Joining.{tree_none, tree_then, takes_all_none, takes_all_more, takes_all_fill, one_more, firsts_more}
use Rattle.file_pass.proofs.Flagging.{growth_none, growth_then}
use Rattle.file_pass.proofs.taking.take_each.Goals as goal

pub loop-path-init : goal.loop-path-init
loop-path-init g c = record {
  taken = takes_all_none (meanings g.T.Tree.meaning g.D.Disk.meaning) c.args.setup.now (taking_at c.args.taking.now (moment c.args.tree.now c.args.disk.now)) c.stand.ensures;
  sane = c.requires.sane;
  flags = growth_none (rules_in c.args.setup.now) c.args.taking.now.tracker c.args.taking.now.changed.items;
  keeps_tree = tree_none g.T.Tree.meaning BUFFER_SIZE c.args.tree.now;
  keeps_disk = keeps_disk_none g.D.Disk.meaning c.args.taking.now.end c.args.disk.now;
  stood = refl;
  long = grind (arith, common_steps);
  ends = c.requires.ends;
}

pub take_path-requires-clause-included : goal.take_path-requires-clause-included
take_path-requires-clause-included g c = c.requires.included c.path-item.result (c.loop-path.path-index, c.loop-path-test.true, sym c.path-item.is)

pub take_path-requires-clause-short : goal.take_path-requires-clause-short
take_path-requires-clause-short g c = c.requires.short c.path-item.result (c.loop-path.path-index, c.loop-path-test.true, sym c.path-item.is)

pub returns-in_err-take_path-clause-full : goal.returns-in_err-take_path-clause-full
returns-in_err-take_path-clause-full g c = λ size is.
    let same : OutputFull size ≡ c.in_err-take_path.field-0.0 = rw is at c.from_residual-in_err-take_path.ensures.1 in
    takes_all_fill (meanings g.T.Tree.meaning g.D.Disk.meaning) c.args.setup.now (take c.loop-path.path-index c.args.paths.now) c.path-item.result c.args.paths.now (taking_at c.args.taking.now (moment c.args.tree.now c.args.disk.now)) (taking_at c.loop-path.taking (moment c.loop-path.tree c.loop-path.disk)) c.take_path.new.tree size
    c.loop-path.invariant.taken (firsts_more c.args.paths.now c.loop-path.path-index c.path-item.result c.loop-path-test.true c.path-item.is) (c.in_err-take_path.ensures.full size (ap Err (sym same)))

pub returns-in_err-take_path-clause-tree : goal.returns-in_err-take_path-clause-tree
returns-in_err-take_path-clause-tree g c = tree_then g.T.Tree.meaning BUFFER_SIZE c.args.tree.now c.loop-path.tree c.take_path.new.tree c.loop-path.invariant.keeps_tree c.take_path.ensures.tree

pub returns-in_err-take_path-clause-disk : goal.returns-in_err-take_path-clause-disk
returns-in_err-take_path-clause-disk g c =
    keeps_disk_then g.D.Disk.meaning c.args.taking.now.end c.loop-path.taking.end c.args.disk.now c.loop-path.disk c.take_path.new.disk (omega (arith, c.loop-path.invariant.taken.takes.appends.end_is)) c.loop-path.invariant.keeps_disk c.take_path.ensures.disk

pub loop-path-preserved : goal.loop-path-preserved
loop-path-preserved g c =
    let inv = c.loop-path.invariant in
    let one = one_more c.args.paths.now c.loop-path.path-index c.path-item.result c.loop-path-test.true c.path-item.is in
    let ok = c.in_ok-take_path.ensures.ok in
    record {
      taken = rw one (takes_all_more (meanings g.T.Tree.meaning g.D.Disk.meaning) c.args.setup.now (take c.loop-path.path-index c.args.paths.now) c.path-item.result (taking_at c.args.taking.now (moment c.args.tree.now c.args.disk.now)) (taking_at c.loop-path.taking (moment c.loop-path.tree c.loop-path.disk)) (taking_at c.take_path.new.taking (moment c.take_path.new.tree c.take_path.new.disk))
          inv.keeps_disk.terms.tells inv.taken ok);
      sane = c.in_ok-take_path.ensures.sane;
      flags = growth_then (rules_in c.args.setup.now) c.args.taking.now.tracker c.loop-path.taking.tracker c.take_path.new.taking.tracker c.args.taking.now.changed.items c.loop-path.taking.changed.items c.take_path.new.taking.changed.items inv.flags c.in_ok-take_path.ensures.flags;
      keeps_tree = tree_then g.T.Tree.meaning BUFFER_SIZE c.args.tree.now c.loop-path.tree c.take_path.new.tree inv.keeps_tree c.take_path.ensures.tree;
      keeps_disk = keeps_disk_then g.D.Disk.meaning c.args.taking.now.end c.loop-path.taking.end c.args.disk.now c.loop-path.disk c.take_path.new.disk (omega (arith, inv.taken.takes.appends.end_is)) inv.keeps_disk c.take_path.ensures.disk;
      stood = c.in_ok-take_path.ensures.cause ∙ inv.stood;
      long = grind (arith, common_steps);
      ends = ends_then g.D.Disk.meaning (lines_text ok.takes.added) c.loop-path.taking.end c.take_path.new.taking.end c.loop-path.disk c.take_path.new.disk c.take_path.ensures.disk.terms.tells ok.takes.appends inv.ends;
    }

pub returns-clause-ok : goal.returns-clause-ok
returns-clause-ok g c = subst (λ (paths : List (List ℕ)). TakesAll (meanings g.T.Tree.meaning g.D.Disk.meaning) c.args.setup.now paths (taking_at c.args.taking.now (moment c.args.tree.now c.args.disk.now)) (taking_at c.loop-path.taking (moment c.loop-path.tree c.loop-path.disk))) (take_all c.loop-path.path-index c.args.paths.now c.loop-path-test.false) c.loop-path.invariant.taken
