use Rattle.std.proofs.Common.{◌≡◌, true, rules}
use Rattle.time_layout.specs.Iso.{has_marks}
use Rattle.time_layout.proofs.PlainTimes.{plain_read}
use Rattle.time_layout.proofs.iso.read_plain.Goals as goal

pub returns-clause-reads : goal.returns-clause-reads
returns-clause-reads c =
    let marks : has_marks c.args.text.now ≡ true = search rules in
    rw c.from.ensures (plain_read c.args.text.now c.in_ok-year.year c.in_ok-month.month c.in_ok-day.day c.in_ok-hour.hour c.in_ok-minute.minute c.in_ok-second.second
    marks c.in_ok-year.ensures c.in_ok-month.ensures.is c.in_ok-day.ensures.is c.in_ok-hour.ensures.is c.in_ok-minute.ensures.is c.in_ok-second.ensures.is)
