use Rattle.std.proofs.Common.{◌≡◌, subst, rules}
use Rattle.kept_lines.specs.Made.{IsMade}
use Rattle.otlp_json.specs.IsOf64Bits.{IsTime}
use Rattle.standing.specs.Times.{IsNotBefore}
use Rattle.auditor.specs.Inner.Compared.{made_of}
use Rattle.auditor.proofs.Agreeing.{made_once}
use Rattle.auditor.proofs.compared.next_time.Goals as goal

pub returns-then-not-is_not_before : goal.returns-then-not-is_not_before
returns-then-not-is_not_before c = λ time next.
    let made = made_of c.args.item.now in
    let small : IsTime c.in-Some.time = search rules in
    let found : IsMade c.args.id c.args.number made.stamped made.entry c.in-Some.time c.args.line.now = rw c.entry-entry.ensures at (rw c.in-Some.is at c.in_ok-time.ensures) in
    let same : time ≡ c.in-Some.time =
    made_once c.line_tells_its_time.ensures c.args.id c.args.number made.stamped made.entry c.args.line.now time c.in-Some.time next.is_time small next.is_made found in
    c.if-not-is_not_before.ensures (subst (IsNotBefore c.args.last) same next.not_before)
