use Rattle.std.proofs.Common.{subst}
use Rattle.std.proofs.lemmas.Result.{IfOk-weaker}
use Rattle.pipeline.proofs.Rows.{RowLines}
use Rattle.pipeline.specs.RowStates.{IsStateOf, IsStateOfRow}
use Rattle.part_closing.proofs.ClosingLemmas.{gives_held}
use Rattle.part_closing.proofs.closing.close.Goals as goal
use Rattle.part_closing.specs.Closing.{rules_by}

pub restored-requires : goal.restored-requires
restored-requires c = rw (c.as_slice.ensures) c.requires.state

pub returns-clause-row : goal.returns-clause-row
returns-clause-row c =
    let laws : RowLines = record { none = c.lines_append.ensures.none; more = c.lines_append.ensures.more } in
    let closer = c.args.closer.now in
    let row = c.args.row.now in
    let state : IsStateOfRow closer.pipeline.now row c.in_ok-state.state = subst (λ bytes. IsStateOf closer.pipeline.now row.records row.lines bytes c.in_ok-state.state) c.as_slice.ensures c.in_ok-state.ensures.state in
    IfOk-weaker c.ended.result _ _
    (λ made is text next fresh.
    is (rules_by closer text) next fresh (gives_held laws closer.pipeline.now text closer.observed row c.in_ok-state.state c.close.new.state _ _ state c.in_ok-close.ensures.closed).lines)
    c.ended.ensures

pub returns-clause-lines : goal.returns-clause-lines
returns-clause-lines c =
    let laws : RowLines = record { none = c.lines_append.ensures.none; more = c.lines_append.ensures.more } in
    let closer = c.args.closer.now in
    let row = c.args.row.now in
    let state : IsStateOfRow closer.pipeline.now row c.in_ok-state.state = subst (λ bytes. IsStateOf closer.pipeline.now row.records row.lines bytes c.in_ok-state.state) c.as_slice.ensures c.in_ok-state.ensures.state in
    IfOk-weaker c.ended.result _ _
    (λ made is text. (gives_held laws closer.pipeline.now text closer.observed row c.in_ok-state.state c.close.new.state _ _ state c.in_ok-close.ensures.closed).written)
    c.ended.ensures
