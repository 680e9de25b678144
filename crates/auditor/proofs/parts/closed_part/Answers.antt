use Rattle.std.proofs.Common.{◌-◌, arith}
use Rattle.pipeline.specs.Parts.{settings_of}
use Rattle.auditor.specs.Inner.Taken.{AreTaken, cuts_taken}
use Rattle.auditor.proofs.Running.{RunsGoOn, items_closed, whole_closed}
use Rattle.auditor.proofs.parts.closed_part.Goals as goal

pub returns-clause-items : goal.returns-clause-items
returns-clause-items c = λ before long.
    let pipe = c.args.pipe.now in
    let row = c.args.row.now in
    let from = c.args.from in
    let to = c.args.to in
    let go_on : RunsGoOn pipe = rw c.graph.ensures at c.go_on.ensures.items in
    let taken : AreTaken (settings_of pipe) row.path from.records (cuts_taken (settings_of pipe) (to.offset - from.offset) c.behind-rest.result.now) c.in_ok-taken.taken =
    rw c.as_str.ensures at c.in_ok-taken.ensures in
    items_closed pipe row.path before c.args.bytes.now row.start from to c.behind-rest.result.now c.in_ok-taken.taken long c.requires.start c.behind-rest.ensures taken go_on
    c.in_ok-items.items.items c.in_ok-items.ensures.items

pub returns-clause-whole : goal.returns-clause-whole
returns-clause-whole c = λ before long.
    let pipe = c.args.pipe.now in
    let row = c.args.row.now in
    let from = c.args.from in
    let to = c.args.to in
    let go_on : RunsGoOn pipe = rw c.graph.ensures at c.go_on.ensures.items in
    let taken : AreTaken (settings_of pipe) row.path from.records (cuts_taken (settings_of pipe) (to.offset - from.offset) c.behind-rest.result.now) c.in_ok-taken.taken =
    rw c.as_str.ensures at c.in_ok-taken.ensures in
    whole_closed pipe row.path before c.args.bytes.now row.start from to c.behind-rest.result.now c.in_ok-taken.taken long c.requires.start c.behind-rest.ensures taken go_on
    c.in_ok-items.items.items c.in_ok-items.ensures.items c.len.result (omega (arith, c.len.ensures, c.in_ok-items.items.ok.0)) c.are_between-is_whole.result c.are_between-is_whole.ensures
