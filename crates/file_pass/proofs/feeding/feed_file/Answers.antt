use Rattle.std.proofs.Common.{◌≡◌, ◌∙◌, ◌≤◌, sym, ap, arith, Err}
use Rattle.standing.specs.AreRules.{AreRules}
use Rattle.file_pass.specs.Fed.{rules_in}
use Rattle.file_pass.specs.Moment.{feeding_at, meanings, moment}
use Rattle.file_pass.specs.declared.fault.PassFault.TheVariants.{OutputFull}
use Rattle.file_pass.proofs.DiskLemmas.{ends_then, keeps_disk_then}
use Rattle.file_pass.proofs.FlushLemmas.{on_whole}
use Rattle.file_pass.proofs.Waiting.{fills_part, fills_looked, no_cuts, reads_looked, reads_plain, size_is}
use Rattle.file_pass.proofs.feeding.feed_file.Goals as goal

pub returns-in_err-ending-clause-full : goal.returns-in_err-ending-clause-full
returns-in_err-ending-clause-full g c = λ size is.
    let same : OutputFull size ≡ c.in_err-ending.field-0.0 = rw is at c.from_residual.ensures.1 in
    fills_part g.T.Tree.meaning c.args.setup.now size (feeding_at c.args.feeding.now c.args.end.now (moment c.args.tree.now c.args.disk.now)) c.read_on.new.tree (c.in_err-ending.ensures.full size (ap Err (sym same)))

pub look_on-requires-clause-asked : goal.look_on-requires-clause-asked
look_on-requires-clause-asked g c = (on_whole (rules_in c.args.setup.now) c.args.feeding.now.file.size c.in_ok-ending.ending c.args.feeding.now.offset (sym c.may_flush.ensures ∙ c.if-may_flush.true)).1

pub look_on-requires-clause-size : goal.look_on-requires-clause-size
look_on-requires-clause-size g c =
    let laws : AreRules (rules_in c.args.setup.now) = c.a_pipeline_is_rules.ensures c.args.setup.now.settings.now c.requires.setup.0 in
    omega (
      arith,
      c.requires.size,
      size_is (meanings g.T.Tree.meaning g.D.Disk.meaning) c.args.setup.now laws c.in_ok-ending.ending (feeding_at c.args.feeding.now c.args.end.now (moment c.args.tree.now c.args.disk.now)) (feeding_at c.read_on.new.feeding c.read_on.new.end (moment c.read_on.new.tree c.read_on.new.disk))
          c.in_ok-ending.ensures.ok (sym c.may_flush.ensures ∙ c.if-may_flush.true),
    )

pub look_on-requires-clause-none : goal.look_on-requires-clause-none
look_on-requires-clause-none g c =
    let laws : AreRules (rules_in c.args.setup.now) = c.a_pipeline_is_rules.ensures c.args.setup.now.settings.now c.requires.setup.0 in
    no_cuts (meanings g.T.Tree.meaning g.D.Disk.meaning) c.args.setup.now laws c.in_ok-ending.ending (feeding_at c.args.feeding.now c.args.end.now (moment c.args.tree.now c.args.disk.now)) (feeding_at c.read_on.new.feeding c.read_on.new.end (moment c.read_on.new.tree c.read_on.new.disk))
    c.in_ok-ending.ensures.ok

pub look_on-requires-clause-ends : goal.look_on-requires-clause-ends
look_on-requires-clause-ends g c =
    let has = c.in_ok-ending.ensures.ok in
    ends_then g.D.Disk.meaning _ c.args.end.now c.read_on.new.end c.args.disk.now c.read_on.new.disk c.read_on.ensures.disk.terms.tells has.appends c.requires.ends

pub returns-in_ok-look_on-clause-ok : goal.returns-in_ok-look_on-clause-ok
returns-in_ok-look_on-clause-ok g c =
    let laws : AreRules (rules_in c.args.setup.now) = c.a_pipeline_is_rules.ensures c.args.setup.now.settings.now c.requires.setup.0 in
    reads_looked (meanings g.T.Tree.meaning g.D.Disk.meaning) c.args.setup.now laws c.in_ok-ending.ending (feeding_at c.args.feeding.now c.args.end.now (moment c.args.tree.now c.args.disk.now)) (feeding_at c.read_on.new.feeding c.read_on.new.end (moment c.read_on.new.tree c.read_on.new.disk))
    c.in_ok-ending.ensures.ok (sym c.may_flush.ensures ∙ c.if-may_flush.true) c.look_on.new.feeding c.look_on.new.end c.look_on.new.disk c.read_on.ensures.disk.terms.tells
    c.in_ok-look_on.ensures.row c.in_ok-look_on.ensures.flushed c.in_ok-look_on.ensures.few c.in_ok-look_on.ensures.ok

pub returns-in_ok-look_on-clause-disk : goal.returns-in_ok-look_on-clause-disk
returns-in_ok-look_on-clause-disk g c =
    let later : c.args.end.now ≤ c.read_on.new.end = omega (arith, c.in_ok-ending.ensures.ok.appends.end_is) in
    keeps_disk_then g.D.Disk.meaning c.args.end.now c.read_on.new.end c.args.disk.now c.read_on.new.disk c.look_on.new.disk later c.read_on.ensures.disk c.look_on.ensures.disk

pub returns-in_err-look_on-clause-disk : goal.returns-in_err-look_on-clause-disk
returns-in_err-look_on-clause-disk g c =
    let later : c.args.end.now ≤ c.read_on.new.end = omega (arith, c.in_ok-ending.ensures.ok.appends.end_is) in
    keeps_disk_then g.D.Disk.meaning c.args.end.now c.read_on.new.end c.args.disk.now c.read_on.new.disk c.look_on.new.disk later c.read_on.ensures.disk c.look_on.ensures.disk

pub returns-in_err-look_on-clause-full : goal.returns-in_err-look_on-clause-full
returns-in_err-look_on-clause-full g c = λ size is.
    let laws : AreRules (rules_in c.args.setup.now) = c.a_pipeline_is_rules.ensures c.args.setup.now.settings.now c.requires.setup.0 in
    let same : OutputFull size ≡ c.in_err-look_on.field-0.0 = rw is at c.from_residual-in_err-look_on.ensures.1 in
    fills_looked (meanings g.T.Tree.meaning g.D.Disk.meaning) c.args.setup.now laws c.in_ok-ending.ending (feeding_at c.args.feeding.now c.args.end.now (moment c.args.tree.now c.args.disk.now)) (feeding_at c.read_on.new.feeding c.read_on.new.end (moment c.read_on.new.tree c.read_on.new.disk))
    c.in_ok-ending.ensures.ok (sym c.may_flush.ensures ∙ c.if-may_flush.true) size (c.in_err-look_on.ensures.full size (ap Err (sym same)))

pub returns-else-may_flush-clause-ok : goal.returns-else-may_flush-clause-ok
returns-else-may_flush-clause-ok g c =
    let laws : AreRules (rules_in c.args.setup.now) = c.a_pipeline_is_rules.ensures c.args.setup.now.settings.now c.requires.setup.0 in
    reads_plain (meanings g.T.Tree.meaning g.D.Disk.meaning) c.args.setup.now laws c.in_ok-ending.ending (feeding_at c.args.feeding.now c.args.end.now (moment c.args.tree.now c.args.disk.now)) (feeding_at c.read_on.new.feeding c.read_on.new.end (moment c.read_on.new.tree c.read_on.new.disk))
    c.in_ok-ending.ensures.ok c.requires.stood (sym c.may_flush.ensures ∙ c.if-may_flush.false)
