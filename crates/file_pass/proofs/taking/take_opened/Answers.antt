use Rattle.std.proofs.Common.{◌≡◌, ◌<◌, ◌≤◌, length, min, sym, ap, subst, arith, refl, Err}
use Rattle.std.proofs.lemmas.Grind.{common_steps}
use Rattle.file_pass.specs.Fed.{poll_of, rules_in}
use Rattle.file_pass.specs.Full.{overflow}
use Rattle.file_pass.specs.Moment.{meanings, moment, rows_at}
use Rattle.file_pass.specs.declared.ending.Ending.TheVariants.{Whole}
use Rattle.file_pass.specs.declared.fault.PassFault.TheVariants.{OutputFull}
use Rattle.file_pass.specs.declared.taking.TheConstants.{BUFFER_SIZE}
use Rattle.file_pass.proofs.Flagging.{growth_none}
use Rattle.file_pass.proofs.Joining.{finds_idle, tree_then, front_unread, front_takes, front_fills, front_tree}
use Rattle.file_pass.proofs.Opening.{open_nothing}
use Rattle.file_pass.proofs.taking.take_opened.Goals as goal

pub returns-then-file-eq0-clause-ok : goal.returns-then-file-eq0-clause-ok
returns-then-file-eq0-clause-ok g c =
    finds_idle (meanings g.T.Tree.meaning g.D.Disk.meaning) _ _ (rows_at c.args.taking.now (moment c.args.tree.now c.args.disk.now)) c.args.taking.now.tracker c.args.taking.now.end refl refl refl
    (λ world. open_nothing (poll_of c.args.setup.now) c.args.opened.now c.args.taking.now.tracker world c.if-file-eq0.true)

pub returns-then-not-is_whole-clause-ok : goal.returns-then-not-is_whole-clause-ok
returns-then-not-is_whole-clause-ok g c =
    let many : length c.read_front-ending.new.front ≡ min (rules_in c.args.setup.now).front_size c.args.opened.now.file.size = grind (arith, common_steps) in
    let some : 0 < c.args.opened.now.file.size = omega arith in
    front_unread (meanings g.T.Tree.meaning g.D.Disk.meaning) (poll_of c.args.setup.now) c.args.opened.now some (rows_at c.args.taking.now (moment c.args.tree.now c.args.disk.now)) c.read_front-ending.new.front _ c.read_front-ending.result.0 c.read_front-ending.result.1 c.read_front-ending.new.tree
    c.read_front-ending.ensures.tree c.read_front-ending.ensures.long many (c.is_whole.ensures.no c.if-not-is_whole.true) (omega (arith, many, c.read_front-ending.ensures.within))

pub returns-then-not-is_whole-clause-tree : goal.returns-then-not-is_whole-clause-tree
returns-then-not-is_whole-clause-tree g c =
    let many : length c.read_front-ending.new.front ≡ min (rules_in c.args.setup.now).front_size c.args.opened.now.file.size = grind (arith, common_steps) in
    let some : 0 < c.args.opened.now.file.size = omega arith in
    let narrow : length c.read_front-ending.new.front ≤ BUFFER_SIZE = omega (arith, many, c.requires.setup.0.fingerprint_size_to) in
    front_tree (meanings g.T.Tree.meaning g.D.Disk.meaning) (poll_of c.args.setup.now) c.args.opened.now some (rows_at c.args.taking.now (moment c.args.tree.now c.args.disk.now)) c.read_front-ending.new.front _ c.read_front-ending.result.0 c.read_front-ending.result.1 c.read_front-ending.new.tree
    c.read_front-ending.ensures.tree c.read_front-ending.ensures.long many BUFFER_SIZE (subst (λ n. n ≤ BUFFER_SIZE) c.read_front-ending.ensures.long narrow)

pub returns-in_err-found-clause-full : goal.returns-in_err-found-clause-full
returns-in_err-found-clause-full g c = λ size is.
    let many : length c.read_front-ending.new.front ≡ min (rules_in c.args.setup.now).front_size c.args.opened.now.file.size = grind (arith, common_steps) in
    let some : 0 < c.args.opened.now.file.size = omega arith in
    let same : OutputFull size ≡ c.in_err-found.field-0.0 = rw is at c.from_residual.ensures.1 in
    let whole : c.read_front-ending.result.1 ≡ Whole = c.is_whole.ensures.yes c.if-not-is_whole.false in
    front_fills (meanings g.T.Tree.meaning g.D.Disk.meaning) (poll_of c.args.setup.now) _ _ c.read_front-ending.result.0 c.read_front-ending.result.1 c.args.tree.now (rows_at c.args.taking.now (moment c.read_front-ending.new.tree c.args.disk.now))
    c.read_front-ending.ensures.tree c.read_front-ending.ensures.long many whole (c.read_front-ending.ensures.whole whole) (overflow c.args.setup.now.limit c.args.taking.now.end size) c.take_seen.new.tree (c.in_err-found.ensures.full size (ap Err (sym same)))

pub returns-in_err-found-clause-tree : goal.returns-in_err-found-clause-tree
returns-in_err-found-clause-tree g c =
    let many : length c.read_front-ending.new.front ≡ min (rules_in c.args.setup.now).front_size c.args.opened.now.file.size = grind (arith, common_steps) in
    let some : 0 < c.args.opened.now.file.size = omega arith in
    let narrow : length c.read_front-ending.new.front ≤ BUFFER_SIZE = omega (arith, many, c.requires.setup.0.fingerprint_size_to) in
    tree_then g.T.Tree.meaning BUFFER_SIZE c.args.tree.now c.read_front-ending.new.tree c.take_seen.new.tree
    (front_tree (meanings g.T.Tree.meaning g.D.Disk.meaning) (poll_of c.args.setup.now) c.args.opened.now some (rows_at c.args.taking.now (moment c.args.tree.now c.args.disk.now)) c.read_front-ending.new.front _ c.read_front-ending.result.0 c.read_front-ending.result.1 c.read_front-ending.new.tree
    c.read_front-ending.ensures.tree c.read_front-ending.ensures.long many BUFFER_SIZE (subst (λ n. n ≤ BUFFER_SIZE) c.read_front-ending.ensures.long narrow))
    c.take_seen.ensures.tree

pub returns-clause-ok : goal.returns-clause-ok
returns-clause-ok g c =
    let many : length c.read_front-ending.new.front ≡ min (rules_in c.args.setup.now).front_size c.args.opened.now.file.size = grind (arith, common_steps) in
    let some : 0 < c.args.opened.now.file.size = omega arith in
    let whole : c.read_front-ending.result.1 ≡ Whole = c.is_whole.ensures.yes c.if-not-is_whole.false in
    front_takes (meanings g.T.Tree.meaning g.D.Disk.meaning) (poll_of c.args.setup.now) _ _ c.read_front-ending.result.0 c.read_front-ending.result.1 c.args.tree.now (rows_at c.args.taking.now (moment c.read_front-ending.new.tree c.args.disk.now))
    c.read_front-ending.ensures.tree c.read_front-ending.ensures.long many whole (c.read_front-ending.ensures.whole whole) c.in_ok-found.found (rows_at c.take_seen.new.taking (moment c.take_seen.new.tree c.take_seen.new.disk))
    c.in_ok-found.ensures.ok

pub returns-clause-tree : goal.returns-clause-tree
returns-clause-tree g c =
    let many : length c.read_front-ending.new.front ≡ min (rules_in c.args.setup.now).front_size c.args.opened.now.file.size = grind (arith, common_steps) in
    let some : 0 < c.args.opened.now.file.size = omega arith in
    let narrow : length c.read_front-ending.new.front ≤ BUFFER_SIZE = omega (arith, many, c.requires.setup.0.fingerprint_size_to) in
    tree_then g.T.Tree.meaning BUFFER_SIZE c.args.tree.now c.read_front-ending.new.tree c.take_seen.new.tree
    (front_tree (meanings g.T.Tree.meaning g.D.Disk.meaning) (poll_of c.args.setup.now) c.args.opened.now some (rows_at c.args.taking.now (moment c.args.tree.now c.args.disk.now)) c.read_front-ending.new.front _ c.read_front-ending.result.0 c.read_front-ending.result.1 c.read_front-ending.new.tree
    c.read_front-ending.ensures.tree c.read_front-ending.ensures.long many BUFFER_SIZE (subst (λ n. n ≤ BUFFER_SIZE) c.read_front-ending.ensures.long narrow))
    c.take_seen.ensures.tree

pub returns-then-file-eq0-clause-flags : goal.returns-then-file-eq0-clause-flags
returns-then-file-eq0-clause-flags g c = growth_none (rules_in c.args.setup.now) c.args.taking.now.tracker c.args.taking.now.changed.items

pub returns-then-not-is_whole-clause-flags : goal.returns-then-not-is_whole-clause-flags
returns-then-not-is_whole-clause-flags g c = growth_none (rules_in c.args.setup.now) c.args.taking.now.tracker c.args.taking.now.changed.items
