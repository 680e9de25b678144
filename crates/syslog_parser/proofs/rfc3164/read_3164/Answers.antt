use Rattle.std.proofs.Common.{List, ℕ, ℤ, ◌∙◌, ap, subst}
use Rattle.std.proofs.lemmas.Int.{to_z-of_z}
use mir.Syntax.{w32}
use Rattle.entry_model.specs.Seen.{seen}
use Rattle.syslog_parser.specs.Inner.Senders.{tail_of}
use Rattle.syslog_parser.specs.Stamps.{IsDate}
use Rattle.syslog_parser.proofs.Tops.{sender_within, sender_faulty, tells_3164}
use Rattle.syslog_parser.proofs.rfc3164.read_3164.Goals as goal

pub returns-in_default-read_date-clause-fault : goal.returns-in_default-read_date-clause-fault
returns-in_default-read_date-clause-fault c = record {
  priority = c.in-Some.priority;
  rest = c.in-Some.dated.now;
  priority_is = c.in-Some.ensures.some;
  none =
      subst (λ (z : ℤ). (time : ℕ) (more : List ℕ) → IsDate c.args.year z c.in-Some.dated.now time more → ⊥) (to_z-of_z w32 c.args.location c.ranges.location)
      c.in_default-read_date.ensures.none;
}

pub overflow_sub-at : goal.overflow_sub-at
overflow_sub-at c =
    sender_within c.args.year c.args.location c.args.text.now c.in-Some.dated.now c.in-Some-read_date.named.now c.in-Some.priority c.in-Some-read_date.instant c.in-Some.ensures.some
    (subst (λ (z : ℤ). IsDate c.args.year z c.in-Some.dated.now c.in-Some-read_date.instant c.in-Some-read_date.named.now) (to_z-of_z w32 c.args.location c.ranges.location) c.in-Some-read_date.ensures.some)
    c.in-Err.left c.in-Err.ensures.fault

pub returns-in-Err-clause-fault : goal.returns-in-Err-clause-fault
returns-in-Err-clause-fault c =
    sender_faulty c.args.year c.args.location c.args.text.now c.in-Some.dated.now c.in-Some-read_date.named.now c.in-Some.priority c.in-Some-read_date.instant c.in-Some.ensures.some
    (subst (λ (z : ℤ). IsDate c.args.year z c.in-Some.dated.now c.in-Some-read_date.instant c.in-Some-read_date.named.now) (to_z-of_z w32 c.args.location c.ranges.location) c.in-Some-read_date.ensures.some)
    c.in-Err.left c.in-Err.ensures.fault

pub returns-clause-ok : goal.returns-clause-ok
returns-clause-ok c =
    tells_3164 c.args.year c.args.location c.args.text.now c.in-Some.dated.now c.in-Some-read_date.named.now c.in-Some.priority c.in-Some-read_date.instant c.in-Some.ensures.some
    (subst (λ (z : ℤ). IsDate c.args.year z c.in-Some.dated.now c.in-Some-read_date.instant c.in-Some-read_date.named.now) (to_z-of_z w32 c.args.location c.ranges.location) c.in-Some-read_date.ensures.some)
    (tail_of c.in-Ok.sender) (seen c.new-fields.result.entries) (seen c.put_priority.new.members.entries) (seen c.in_ok-finish.field-0.entries)
    c.in-Ok.ensures.ok (ap seen c.new-fields.ensures) c.in_ok-put_priority.ensures (ap seen c.in_ok-finish.ensures ∙ c.in_ok-put_sender.ensures)
