use Rattle.std.proofs.Common.{◌≤◌, ◌∙◌, ◌+◌, ◌-◌, ◌<◌, sym, arith, subst, length}
use Rattle.json_text.specs.Machine.{Content, no_content}
use Rattle.json_text.specs.Reads.{Leads, AroundText, text_from, piece_from}
use Rattle.json_text.proofs.Places.{then_leads, then_refuses}
use Rattle.json_text.proofs.Steps.{plain_end_boundary, behind_ascii, run_leads, text_ends, text_refused, escape_leads}
use Rattle.json_text.proofs.strings.escaped_string.Goals as goal

pub range-requires-clause-end_boundary : goal.range-requires-clause-end_boundary
range-requires-clause-end_boundary c = plain_end_boundary c.args.text.now c.loop-content.place c.plain_end-end.result c.loop-content.invariant.boundary.0 c.plain_end-end.ensures

pub returns-then-stands : goal.returns-then-stands
returns-then-stands c =
    let inv = c.loop-content.invariant in
    text_ends c.args.text.now c.args.at c.loop-content.place c.plain_end-end.result c.push_plain.new.self
    (run_leads c.args.text.now c.args.at c.loop-content.place c.plain_end-end.result c.loop-content.content inv.leads inv.boundary.0 c.plain_end-end.ensures
    c.range.result.now c.push_plain.new.self c.range.ensures.value c.in_ok-push_plain.ensures)
    (sym c.stands.ensures ∙ c.if-stands.true) c.in_ok-finish.field-0 c.in_ok-finish.ensures

pub returns-then-not-stands : goal.returns-then-not-stands
returns-then-not-stands c =
    let inv = c.loop-content.invariant in
    text_refused c.args.text.now c.args.at c.loop-content.place c.plain_end-end.result c.push_plain.new.self
    (run_leads c.args.text.now c.args.at c.loop-content.place c.plain_end-end.result c.loop-content.content inv.leads inv.boundary.0 c.plain_end-end.ensures
    c.range.result.now c.push_plain.new.self c.range.ensures.value c.in_ok-push_plain.ensures)
    inv.boundary.0 c.plain_end-end.ensures (sym c.stands.ensures ∙ c.if-stands.false) (sym c.stands-in-loop-content.ensures ∙ c.if-not-stands.true)

pub returns-in-Err : goal.returns-in-Err
returns-in-Err c =
    let inv = c.loop-content.invariant in
    then_refuses {Around = AroundText} c.args.text.now c.args.at (c.plain_end-end.result + 1) (text_from no_content) (piece_from c.push_plain.new.self) c.in-Err.fault
    (escape_leads c.args.text.now c.args.at c.loop-content.place c.plain_end-end.result c.push_plain.new.self
    (run_leads c.args.text.now c.args.at c.loop-content.place c.plain_end-end.result c.loop-content.content inv.leads inv.boundary.0 c.plain_end-end.ensures
    c.range.result.now c.push_plain.new.self c.range.ensures.value c.in_ok-push_plain.ensures)
    (sym c.stands-in-loop-content.ensures ∙ c.if-not-stands.false))
    (c.in-Err.ensures.reads c.push_plain.new.self)

pub loop-content-smaller : goal.loop-content-smaller
loop-content-smaller c =
    let read = c.in-Ok.ensures.reads c.push_plain.new.self in
    let on : c.plain_end-end.result + 1 ≤ c.in-Ok.read.1 = read.0 in
    let most : c.in-Ok.read.1 ≤ length c.args.text.now = read.1 in
    let from : c.loop-content.place ≤ c.plain_end-end.result = let e = c.plain_end-end.ensures in omega arith in
    let smaller : length c.args.text.now - c.in-Ok.read.1 < length c.args.text.now - c.loop-content.place = omega arith in
    smaller

pub loop-content-preserved : goal.loop-content-preserved
loop-content-preserved c =
    let inv = c.loop-content.invariant in
    let read = c.in-Ok.ensures.reads c.push_plain.new.self in
    record {
      boundary = behind_ascii c.args.text.now c.in-Ok.read.1 c.utf8.text read.1 c.in-Ok.ensures.behind;
      leads =
          then_leads {Around = AroundText} c.args.text.now c.args.at (c.plain_end-end.result + 1) c.in-Ok.read.1 (text_from no_content) (piece_from c.push_plain.new.self) (text_from c.push.new.self)
          (escape_leads c.args.text.now c.args.at c.loop-content.place c.plain_end-end.result c.push_plain.new.self
          (run_leads c.args.text.now c.args.at c.loop-content.place c.plain_end-end.result c.loop-content.content inv.leads inv.boundary.0 c.plain_end-end.ensures
          c.range.result.now c.push_plain.new.self c.range.ensures.value c.in_ok-push_plain.ensures)
          (sym c.stands-in-loop-content.ensures ∙ c.if-not-stands.false))
          (subst (λ (m : Content). Leads {Around = AroundText} c.args.text.now (c.plain_end-end.result + 1) (piece_from c.push_plain.new.self) c.in-Ok.read.1 (text_from m)) (sym c.in_ok-push.ensures) read);
    }
