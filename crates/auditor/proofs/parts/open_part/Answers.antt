use Rattle.std.proofs.Common.{◌-◌, arith}
use Rattle.file_tracker.specs.declared.ends.End.{End}
use Rattle.pipeline.specs.Parts.{settings_of}
use Rattle.auditor.specs.Inner.Taken.{AreTaken, cuts_taken}
use Rattle.auditor.proofs.Running.{items_open, whole_open, whole_has_state}
use Rattle.auditor.proofs.parts.open_part.Goals as goal

pub returns-then-not-branch-clause-items : goal.returns-then-not-branch-clause-items
returns-then-not-branch-clause-items c = λ before long.
    let pipe = c.args.pipe.now in
    let row = c.args.row.now in
    let from = c.args.from in
    let to : End = record { offset = row.offset; records = row.records; lines = row.lines } in
    let taken : AreTaken (settings_of pipe) row.path from.records (cuts_taken (settings_of pipe) (to.offset - from.offset) c.behind-rest.result.now) c.in_ok-taken.taken =
    rw c.as_str.ensures at c.in_ok-taken.ensures in
    items_open pipe row.path before c.args.bytes.now row.start from to c.behind-rest.result.now c.in_ok-taken.taken long c.requires.start c.behind-rest.ensures taken
    c.in_ok-items.items.items c.in_ok-items.ensures.items

pub returns-then-not-branch-clause-whole : goal.returns-then-not-branch-clause-whole
returns-then-not-branch-clause-whole c = λ before long whole.
    let pipe = c.args.pipe.now in
    let row = c.args.row.now in
    let from = c.args.from in
    let taken : AreTaken (settings_of pipe) row.path from.records (cuts_taken (settings_of pipe) (row.offset - from.offset) c.behind-rest.result.now) c.in_ok-taken.taken =
    rw c.as_str.ensures at c.in_ok-taken.ensures in
    let other = rw (c.if-not-branch.true, c.as_slice.ensures) at c.in_ok-is_spelled.ensures in
    other (whole_has_state pipe row before c.args.bytes.now from c.behind-rest.result.now c.in_ok-taken.taken long c.requires.start c.behind-rest.ensures taken
    c.in_ok-items.state.states.items c.in_ok-items.ensures.states whole)

pub returns-clause-items : goal.returns-clause-items
returns-clause-items c = λ before long.
    let pipe = c.args.pipe.now in
    let row = c.args.row.now in
    let from = c.args.from in
    let to : End = record { offset = row.offset; records = row.records; lines = row.lines } in
    let taken : AreTaken (settings_of pipe) row.path from.records (cuts_taken (settings_of pipe) (to.offset - from.offset) c.behind-rest.result.now) c.in_ok-taken.taken =
    rw c.as_str.ensures at c.in_ok-taken.ensures in
    items_open pipe row.path before c.args.bytes.now row.start from to c.behind-rest.result.now c.in_ok-taken.taken long c.requires.start c.behind-rest.ensures taken
    c.in_ok-items.items.items c.in_ok-items.ensures.items

pub returns-clause-whole : goal.returns-clause-whole
returns-clause-whole c = λ before long.
    let pipe = c.args.pipe.now in
    let row = c.args.row.now in
    let from = c.args.from in
    let taken : AreTaken (settings_of pipe) row.path from.records (cuts_taken (settings_of pipe) (row.offset - from.offset) c.behind-rest.result.now) c.in_ok-taken.taken =
    rw c.as_str.ensures at c.in_ok-taken.ensures in
    let state = rw (c.if-not-branch.false, c.as_slice.ensures) at c.in_ok-is_spelled.ensures in
    whole_open pipe row before c.args.bytes.now from c.behind-rest.result.now c.in_ok-taken.taken long c.requires.start c.behind-rest.ensures taken
    c.in_ok-items.state.states.items c.in_ok-items.ensures.states state
    c.in_ok-items.items.items c.in_ok-items.ensures.items c.len.result (omega (arith, c.len.ensures, c.in_ok-items.items.ok.0)) c.are_between-is_whole.result c.are_between-is_whole.ensures
