use Rattle.file_pass.specs.Full.{line_of}
use Rattle.otlp_json.specs.IsOneLine.{IsOneLine}
use Rattle.part_closing.proofs.ClosingLemmas.{some_bytes}
use Rattle.poll_core.proofs.PollLines.{first_past}
use Rattle.poll_core.proofs.session.Session.check_room.Goals as goal
use Rattle.poll_core.specs.SessionParts.{kept_of, limit_of}
use Rattle.standing.specs.Marks.{Mark}

pub returns-in-Some-clause-none : goal.returns-in-Some-clause-none
returns-in-Some-clause-none c = λ marks is.
    let one_line : (mark : Mark) → IsOneLine (line_of mark) = λ mark. c.line_is_one_line.ensures.one mark.id mark.number mark.observed mark.entry in
    first_past (some_bytes one_line) (limit_of c.args.self.now) (kept_of c.args.self.now) marks c.in-Some.length (rw c.max-limit.ensures at (c.in-Some.ensures.some marks is))
