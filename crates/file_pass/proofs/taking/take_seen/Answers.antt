use Rattle.std.proofs.Common.{◌≡◌, ◌∙◌, ◌<◌, ℕ, sym, ap, subst, arith, refl, false, Err}
use Rattle.outside.proofs.Telling.{told_weaker}
use Rattle.outside.specs.World.{Told}
use Rattle.standing.specs.AreRules.{AreRules}
use Rattle.standing.specs.Limits.{is_compressed}
use Rattle.file_pass.specs.Fed.{poll_of, rules_in}
use Rattle.file_pass.specs.Full.{overflow}
use Rattle.file_pass.specs.Gain.{gain_of, with_taken}
use Rattle.file_pass.specs.LookTaken.{SeenTaken}
use Rattle.file_pass.specs.Moment.{meanings, moment, rows_at}
use Rattle.file_pass.specs.Overflow.{SeenFills}
use Rattle.file_pass.specs.Inner.RowTaken.{RowTaken}
use Rattle.file_pass.specs.declared.fault.PassFault.TheVariants.{OutputFull}
use Rattle.file_pass.proofs.Flagging.{growth_none, growth_then}
use Rattle.file_pass.proofs.Bridging.{seen_taken}
use Rattle.file_pass.proofs.Filling.{seen_fills}
use Rattle.file_pass.proofs.Finding.{settled_within}
use Rattle.file_pass.proofs.Joining.{finds_idle, takes_between}
use Rattle.file_pass.proofs.Opening.{seen_compressed, seen_full}
use Rattle.file_pass.proofs.taking.take_seen.Goals as goal

pub returns-then-starts_with-clause-ok : goal.returns-then-starts_with-clause-ok
returns-then-starts_with-clause-ok g c =
    let some : 0 < c.args.seen.now.file.size = omega (arith, c.requires.begins, c.requires.front.0) in
    finds_idle (meanings g.T.Tree.meaning g.D.Disk.meaning) _ _ (rows_at c.args.taking.now (moment c.args.tree.now c.args.disk.now)) c.args.taking.now.tracker c.args.taking.now.end refl refl refl
    (λ world. seen_compressed (poll_of c.args.setup.now) c.args.seen.now c.args.taking.now.tracker world (cc) some)

pub take_row-requires-clause-in_range : goal.take_row-requires-clause-in_range
take_row-requires-clause-in_range g c =
    settled_within c.args.setup.now c.args.seen.now c.args.taking.now.tracker c.in-Some.place c.settle.new.taking.tracker (rw c.in-Some.is at c.in_ok-place.ensures.settles)

pub returns-in_ok-found-in-Some-clause-ok : goal.returns-in_ok-found-in-Some-clause-ok
returns-in_ok-found-in-Some-clause-ok g c =
    let some : 0 < c.args.seen.now.file.size = omega (arith, c.requires.begins, c.requires.front.0) in
    let plain : is_compressed c.args.seen.now.front.now ≡ false = sym c.starts_with.ensures.value ∙ c.if-starts_with.false in
    let found = c.in_ok-found-in-Some.found in
    let finds = c.in_ok-found-in-Some.ensures.ok in
    record {
      bytes = finds.bytes;
      takes = takes_between (meanings g.T.Tree.meaning g.D.Disk.meaning) (RowTaken (poll_of c.args.setup.now) (record { file = c.args.seen.now.file; place = c.in-Some.place }) found) (SeenTaken (poll_of c.args.setup.now) c.args.seen.now) (with_taken finds.bytes (gain_of found)) finds.bytes
          c.args.taking.now.tracker c.args.taking.now.end c.args.tree.now c.take_row.new.tree (rows_at c.settle.new.taking (moment c.args.tree.now c.args.disk.now)) (rows_at c.take_row.new.taking (moment c.take_row.new.tree c.take_row.new.disk)) c.in_ok-place.ensures.end refl refl (omega arith) refl
          (λ added. told_weaker _ _ (g.T.Tree.meaning.world c.args.tree.now) (g.T.Tree.meaning.world c.take_row.new.tree)
          (λ x y row. seen_taken c.args.setup.now c.args.seen.now plain some c.args.taking.now.tracker c.settle.new.taking.tracker c.take_row.new.taking.tracker c.in-Some.place added found finds.bytes x y (rw c.in-Some.is at c.in_ok-place.ensures.settles) row)) finds.takes;
    }

pub returns-in_err-found-in-Some-clause-full : goal.returns-in_err-found-in-Some-clause-full
returns-in_err-found-in-Some-clause-full g c = λ size is.
    let some : 0 < c.args.seen.now.file.size = omega (arith, c.requires.begins, c.requires.front.0) in
    let plain : is_compressed c.args.seen.now.front.now ≡ false = sym c.starts_with.ensures.value ∙ c.if-starts_with.false in
    let laws : AreRules (rules_in c.args.setup.now) = c.a_pipeline_is_rules.ensures c.args.setup.now.settings.now c.requires.setup.0 in
    let same : OutputFull size ≡ c.in_err-found-in-Some.field-0.0 = rw is at c.from_residual-in_err-found-in-Some.ensures.1 in
    let trees = g.T.Tree.meaning in
    subst (λ (n : ℕ). Told (SeenFills (poll_of c.args.setup.now) (overflow c.args.setup.now.limit n size) c.args.seen.now c.args.taking.now.tracker) (trees.world c.args.tree.now) (trees.world c.take_row.new.tree)) c.in_ok-place.ensures.end
    (told_weaker _ _ (trees.world c.args.tree.now) (trees.world c.take_row.new.tree)
    (λ x y fills. seen_fills c.args.setup.now laws c.args.seen.now plain some c.args.taking.now.tracker c.settle.new.taking.tracker c.in-Some.place (overflow c.args.setup.now.limit c.settle.new.taking.end size) x y
    (λ row at. (c.in_ok-place.ensures.sane.rows c.in-Some.place row at).state) (rw c.in-Some.is at c.in_ok-place.ensures.settles) fills)
    (c.in_err-found-in-Some.ensures.full size (ap Err (sym same))))

pub returns-in-None-clause-ok : goal.returns-in-None-clause-ok
returns-in-None-clause-ok g c =
    let some : 0 < c.args.seen.now.file.size = omega (arith, c.requires.begins, c.requires.front.0) in
    let plain : is_compressed c.args.seen.now.front.now ≡ false = sym c.starts_with.ensures.value ∙ c.if-starts_with.false in
    finds_idle (meanings g.T.Tree.meaning g.D.Disk.meaning) _ _ (rows_at c.args.taking.now (moment c.args.tree.now c.args.disk.now)) c.settle.new.taking.tracker c.settle.new.taking.end c.in_ok-place.ensures.end refl refl
    (λ world. seen_full (poll_of c.args.setup.now) c.args.seen.now c.args.taking.now.tracker c.settle.new.taking.tracker world plain some (rw c.in-None.is at c.in_ok-place.ensures.settles))

pub returns-then-starts_with-clause-flags : goal.returns-then-starts_with-clause-flags
returns-then-starts_with-clause-flags g c = growth_none (rules_in c.args.setup.now) c.args.taking.now.tracker c.args.taking.now.changed.items

pub returns-in_ok-found-in-Some-clause-flags : goal.returns-in_ok-found-in-Some-clause-flags
returns-in_ok-found-in-Some-clause-flags g c =
    growth_then (rules_in c.args.setup.now) c.args.taking.now.tracker c.settle.new.taking.tracker c.take_row.new.taking.tracker c.args.taking.now.changed.items c.settle.new.taking.changed.items c.take_row.new.taking.changed.items c.in_ok-place.ensures.flags c.in_ok-found-in-Some.ensures.flags
