use Rattle.std.proofs.Common.{◌≡◌, ◌+◌, refl, arith, subst, ℕ}
use Rattle.std.proofs.lemmas.Result.{IfOk-weaker}
use Rattle.tree_walk.proofs.Lasting.{lasts_none, lasts_then}
use Rattle.tree_walk.proofs.Once.{listed_none, listed_next, listed_in_all}
use Rattle.tree_walk.proofs.Reaching.{reaches_none, reaches_next, finds_all}
use Rattle.tree_walk.specs.Inner.Reached.{Reaches}
use Rattle.tree_walk.specs.declared.findings.Findings.{Findings}
use Rattle.tree_walk.specs.Patterns.{patterns}
use Rattle.tree_walk.proofs.walk.paths.Goals as goal

pub loop-level-init : goal.loop-level-init
loop-level-init g c = record {
  reached = reaches_none g.T.Tree.meaning c.args.include.now c.args.exclude.now c.new-found.result c.args.tree.now c.new-found.ensures.paths c.new-found.ensures.folders c.new-found.ensures.failed;
  lasts = lasts_none g.T.Tree.meaning c.args.tree.now;
  lists = listed_none g.T.Tree.meaning c.args.include.now c.args.tree.now;
}

pub returns-in_err-list_level-clause-lasts : goal.returns-in_err-list_level-clause-lasts
returns-in_err-list_level-clause-lasts g c = lasts_then g.T.Tree.meaning c.args.tree.now c.loop-level.tree c.list_level.new.tree c.loop-level.invariant.lasts c.list_level.ensures.lasts

pub returns-in_err-starts-clause-lists : goal.returns-in_err-starts-clause-lists
returns-in_err-starts-clause-lists g c = listed_in_all g.T.Tree.meaning c.args.include.now 0 c.args.tree.now c.args.tree.now (omega arith) (listed_none g.T.Tree.meaning c.args.include.now c.args.tree.now)

pub returns-in_err-list_level-clause-lists : goal.returns-in_err-list_level-clause-lists
returns-in_err-list_level-clause-lists g c =
    listed_in_all g.T.Tree.meaning c.args.include.now (c.loop-level.level + 1) c.args.tree.now c.list_level.new.tree (omega arith)
    (listed_next g.T.Tree.meaning c.args.include.now c.args.exclude.now c.in_ok-starts.starts.items c.in_ok-starts.ensures.starts c.loop-level.level (omega arith) c.loop-level.found c.args.tree.now c.loop-level.tree c.list_level.new.tree
    c.loop-level.invariant.reached c.loop-level.invariant.lists (rw c.deref.ensures.value at c.list_level.ensures.lists))

pub returns-in_err-add_starts-clause-lists : goal.returns-in_err-add_starts-clause-lists
returns-in_err-add_starts-clause-lists g c = listed_in_all g.T.Tree.meaning c.args.include.now c.loop-level.level c.args.tree.now c.loop-level.tree (omega arith) c.loop-level.invariant.lists

pub returns-clause-lists : goal.returns-clause-lists
returns-clause-lists g c = listed_in_all g.T.Tree.meaning c.args.include.now c.loop-level.level c.args.tree.now c.loop-level.tree (omega arith) c.loop-level.invariant.lists

pub loop-level-preserved : goal.loop-level-preserved
loop-level-preserved g c = record {
  reached = reaches_next g.T.Tree.meaning c.args.include.now c.args.exclude.now c.in_ok-starts.ensures.leads c.in_ok-starts.starts.items c.in_ok-starts.ensures.starts c.loop-level.level (omega arith) c.loop-level.found c.list_level.new.found c.args.tree.now c.loop-level.tree c.list_level.new.tree
      (g.met.T.Tree.lawful c.list_level.new.tree) c.loop-level.invariant.reached (rw c.deref.ensures.value at c.in_ok-list_level.ensures.ok);
  lasts = lasts_then g.T.Tree.meaning c.args.tree.now c.loop-level.tree c.list_level.new.tree c.loop-level.invariant.lasts c.list_level.ensures.lasts;
  lists = listed_next g.T.Tree.meaning c.args.include.now c.args.exclude.now c.in_ok-starts.starts.items c.in_ok-starts.ensures.starts c.loop-level.level (omega arith) c.loop-level.found c.args.tree.now c.loop-level.tree c.list_level.new.tree
      c.loop-level.invariant.reached c.loop-level.invariant.lists (rw c.deref.ensures.value at c.list_level.ensures.lists);
}

pub returns-clause-ok : goal.returns-clause-ok
returns-clause-ok g c =
    let found : Findings = c.loop-level.found in
    let ready : Findings = record { paths = found.paths; folders = c.add_starts.new.folders; failed = found.failed } in
    let last : c.loop-level.level ≡ 33 = omega arith in
    let reached = subst (λ (level : ℕ). Reaches g.T.Tree.meaning (patterns c.args.include.now c.args.exclude.now) level found c.args.tree.now c.loop-level.tree) last c.loop-level.invariant.reached in
    IfOk-weaker c.finish.result _ _
    (λ walk finished.
    finds_all g.T.Tree.meaning c.args.include.now c.args.exclude.now c.in_ok-starts.ensures.leads c.in_ok-starts.starts.items c.in_ok-starts.ensures.starts found ready walk c.args.tree.now c.loop-level.tree reached
    (rw c.deref-2.ensures.value at c.in_ok-add_starts.ensures) refl refl finished)
    c.finish.ensures
