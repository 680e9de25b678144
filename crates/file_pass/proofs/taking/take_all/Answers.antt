use Rattle.std.proofs.Common.{◌∙◌, Bool, length, drop, ap, arith, List}
use Rattle.file_pass.specs.Fed.{rules_in}
use Rattle.file_pass.proofs.Flagging.{growth_ends, looks_within, written_back}
use Rattle.file_pass.proofs.taking.take_all.Goals as goal

pub flag_looks-requires-clause-rows : goal.flag_looks-requires-clause-rows
flag_looks-requires-clause-rows g c =
    omega (arith, ap length c.in_ok-looks.ensures, looks_within (rules_in c.args.setup.now) c.args.taking.now.tracker, c.in_ok-take_each.ensures.flags.more)

pub flag_looks-requires-clause-flags : goal.flag_looks-requires-clause-flags
flag_looks-requires-clause-flags g c = ap length c.deref_mut.ensures.value ∙ c.in_ok-take_each.ensures.sane.flags

pub returns-clause-flags : goal.returns-clause-flags
returns-clause-flags g c =
    let given = c.take_each.new.taking.changed in
    let changed : List Bool = c.flag_looks.new.changed in
    let marks = rw (c.deref.ensures.value, c.deref_mut.ensures.value) at c.flag_looks.ensures in
    let back = written_back given.len changed (drop (length changed) given.items) (c.flag_looks.ensures.long ∙ c.deref_mut.ensures.len) in
    rw back (growth_ends (rules_in c.args.setup.now) c.args.taking.now.tracker c.take_each.new.taking.tracker c.args.taking.now.changed.items given.items changed c.in_ok-looks.looks.items c.in_ok-looks.ensures c.in_ok-take_each.ensures.flags marks)

pub returns-clause-sane : goal.returns-clause-sane
returns-clause-sane g c =
    let was = c.in_ok-take_each.ensures.sane in
    let given = c.take_each.new.taking.changed in
    let changed : List Bool = c.flag_looks.new.changed in
    let back = written_back given.len changed (drop (length changed) given.items) (c.flag_looks.ensures.long ∙ c.deref_mut.ensures.len) in
    record { rows = was.rows; few = was.few; era = was.era; flags = ap length back ∙ c.flag_looks.ensures.long ∙ ap length c.deref_mut.ensures.value ∙ was.flags; end_within = was.end_within; lines = was.lines }
