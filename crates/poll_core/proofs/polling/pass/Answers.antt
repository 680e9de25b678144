use Rattle.std.proofs.Common.{◌≡◌, ℕ, List, Err, sym, ap, subst, ◌∙◌}
use Rattle.std.specs.Prelude.{Contains}
use Rattle.file_pass.specs.AllTaken.{TakesAll}
use Rattle.file_pass.specs.Fed.{poll_of}
use Rattle.file_pass.specs.Full.{overflow}
use Rattle.file_pass.specs.Moment.{meanings, moment, taking_at}
use Rattle.file_pass.specs.Overflow.{AllFill}
use Rattle.file_pass.specs.declared.fault.PassFault.TheVariants.{OutputFull}
use Rattle.file_tracker.specs.declared.row.Row.{Row}
use Rattle.outside.specs.World.{Told}
use Rattle.poll_core.proofs.PassLemmas.{begun_sane, finds_by, included_by}
use Rattle.poll_core.proofs.PlanLemmas.{plan_then}
use Rattle.poll_core.proofs.polling.pass.Goals as goal

pub take_all-requires-clause-sane : goal.take_all-requires-clause-sane
take_all-requires-clause-sane g c =
    begun_sane c.args.setup.now c.args.rows c.args.kept c.in_ok-taking.taking c.in_ok-taking.ensures c.requires.rows c.requires.few c.requires.era c.requires.within

pub take_all-requires-clause-included : goal.take_all-requires-clause-included
take_all-requires-clause-included g c =
    included_by g.T.Tree.meaning c.args.setup.now c.in_ok-walk.walk c.args.tree.now c.paths.new.tree c.deref-2.result.now c.deref-2.ensures.value
    (finds_by g.T.Tree.meaning c.args.setup.now _ _ c.in_ok-walk.walk c.args.tree.now c.paths.new.tree c.include.ensures c.exclude.ensures c.in_ok-walk.ensures.ok)

pub take_all-requires-clause-short : goal.take_all-requires-clause-short
take_all-requires-clause-short g c = λ path there.
    c.in_ok-check_paths.ensures path (subst (λ (paths : List (List ℕ)). Contains paths path) (c.deref-2.ensures.value ∙ sym c.deref.ensures.value) there)

pub returns-in_err-take_all-clause-full : goal.returns-in_err-take_all-clause-full
returns-in_err-take_all-clause-full g c = λ size is.
    let trees = g.T.Tree.meaning in
    let setup = c.args.setup.now in
    let between = c.paths.new.tree in
    let begun = c.in_ok-taking.ensures in
    let same : OutputFull size ≡ c.in_err-take_all.field-0.0 = rw is at c.from_residual-in_err-take_all.ensures.1 in
    record {
      between = between;
      walk = c.in_ok-walk.walk;
      finds = finds_by trees setup _ _ c.in_ok-walk.walk c.args.tree.now between c.include.ensures c.exclude.ensures c.in_ok-walk.ensures.ok;
      fills =
          subst (λ (paths : List (List ℕ)). Told (AllFill (poll_of setup) (overflow setup.limit c.args.kept size) paths c.args.rows) (trees.world between) (trees.world c.take_all.new.tree)) c.deref-2.ensures.value
          (subst (λ (rows : List Row). Told (AllFill (poll_of setup) (overflow setup.limit c.args.kept size) c.deref-2.result.now rows) (trees.world between) (trees.world c.take_all.new.tree)) begun.rows_are
          (subst (λ (end : ℕ). Told (AllFill (poll_of setup) (overflow setup.limit end size) c.deref-2.result.now c.in_ok-taking.taking.tracker) (trees.world between) (trees.world c.take_all.new.tree)) begun.end_is
          (c.in_err-take_all.ensures.full size (ap Err (sym same)))));
    }

pub returns-in_err-take_all-clause-tree : goal.returns-in_err-take_all-clause-tree
returns-in_err-take_all-clause-tree g c = plan_then g.T.Tree.meaning c.in_ok-walk.ensures.lasts c.take_all.ensures.tree

pub returns-clause-ok : goal.returns-clause-ok
returns-clause-ok g c =
    let trees = g.T.Tree.meaning in
    let disks = g.D.Disk.meaning in
    let setup = c.args.setup.now in
    let between = c.paths.new.tree in
    record {
      between = between;
      begun = c.in_ok-taking.taking;
      is_begun = c.in_ok-taking.ensures;
      finds = finds_by trees setup _ _ c.in_ok-walk.walk c.args.tree.now between c.include.ensures c.exclude.ensures c.in_ok-walk.ensures.ok;
      takes = subst (λ (paths : List (List ℕ)). TakesAll (meanings trees disks) setup paths (taking_at c.in_ok-taking.taking (moment between c.args.disk.now)) (taking_at c.take_all.new.taking (moment c.take_all.new.tree c.take_all.new.disk))) c.deref-2.ensures.value c.in_ok-take_all.ensures.ok;
      walk_read = c.in_ok-walk.ensures.lasts.taken;
      nameless = c.take_all.ensures.tree.1.nameless;
      sane = c.in_ok-take_all.ensures.sane;
      flags = c.in_ok-take_all.ensures.flags;
    }

pub returns-clause-tree : goal.returns-clause-tree
returns-clause-tree g c = plan_then g.T.Tree.meaning c.in_ok-walk.ensures.lasts c.take_all.ensures.tree
