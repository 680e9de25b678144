use Rattle.std.proofs.Common.{◌≡◌, sym, ap, subst, refl, Err}
use Rattle.standing.specs.AreRules.{AreRules}
use Rattle.file_pass.specs.Fed.{rules_in}
use Rattle.file_pass.specs.Gain.{Counted, gain_of, with_taken}
use Rattle.file_pass.specs.Moment.{meanings, moment}
use Rattle.file_pass.specs.declared.counts.Counts.{Counts}
use Rattle.file_pass.specs.declared.fault.PassFault.TheVariants.{OutputFull}
use Rattle.file_pass.proofs.Joining.{counted_with, few_lines, sane_counted}
use Rattle.file_pass.proofs.taking.take_path.Goals as goal

pub with-taking-requires : goal.with-taking-requires
with-taking-requires g c =
    let laws : AreRules (rules_in c.args.setup.now) = c.a_pipeline_is_rules.ensures c.args.setup.now.settings.now c.requires.setup.0 in
    few_lines (meanings g.T.Tree.meaning g.D.Disk.meaning) c.args.setup.now laws c.args.taking.now c.open_path.new.taking c.requires.sane c.in_ok-found.ensures.sane c.in_ok-found.ensures.counts _ (with_taken c.in_ok-found.ensures.ok.bytes (gain_of c.in_ok-found.found)) (moment c.args.tree.now c.args.disk.now) (moment c.open_path.new.tree c.open_path.new.disk)
    c.in_ok-found.ensures.ok.takes c.requires.setup.1

pub returns-clause-ok : goal.returns-clause-ok
returns-clause-ok g c = record {
  gain = with_taken c.in_ok-found.ensures.ok.bytes (gain_of c.in_ok-found.found);
  counted = subst (λ (counts : Counts). Counted counts (with_taken c.in_ok-found.ensures.ok.bytes (gain_of c.in_ok-found.found)) c.with-taking.result) c.in_ok-found.ensures.counts
      (counted_with c.open_path.new.taking.counts c.with-taking.result (gain_of c.in_ok-found.found) c.in_ok-found.ensures.ok.bytes c.with-taking.ensures);
  takes = c.in_ok-found.ensures.ok.takes;
}

pub returns-clause-sane : goal.returns-clause-sane
returns-clause-sane g c =
    let laws : AreRules (rules_in c.args.setup.now) = c.a_pipeline_is_rules.ensures c.args.setup.now.settings.now c.requires.setup.0 in
    sane_counted (meanings g.T.Tree.meaning g.D.Disk.meaning) c.args.setup.now laws c.args.taking.now c.open_path.new.taking c.requires.sane c.in_ok-found.ensures.sane c.in_ok-found.ensures.counts _ (with_taken c.in_ok-found.ensures.ok.bytes (gain_of c.in_ok-found.found)) (moment c.args.tree.now c.args.disk.now) (moment c.open_path.new.tree c.open_path.new.disk)
    c.in_ok-found.ensures.ok.takes _ refl refl refl (counted_with c.open_path.new.taking.counts c.with-taking.result (gain_of c.in_ok-found.found) c.in_ok-found.ensures.ok.bytes c.with-taking.ensures)

pub returns-in_err-found-clause-full : goal.returns-in_err-found-clause-full
returns-in_err-found-clause-full g c = λ size is.
    let same : OutputFull size ≡ c.in_err-found.field-0.0 = rw is at c.from_residual.ensures.1 in
    c.in_err-found.ensures.full size (ap Err (sym same))
