use Rattle.std.proofs.Common.{◌≡◌, rules}
use Rattle.time_layout.proofs.PlainTimes.{pairs_read}
use Rattle.time_layout.proofs.iso.year_at_front.Goals as goal

pub returns : goal.returns
returns c =
    let front : c.from.result ≡ c.in_ok-century.century = search rules in
    let behind : c.from-2.result ≡ c.in_ok-year.year = search rules in
    rw (front, behind) (pairs_read c.in_ok-century.century c.in_ok-year.year c.args.text.now c.requires c.in_ok-century.ensures.is c.in_ok-year.ensures.is
    c.in_ok-century.ensures.bounded c.in_ok-year.ensures.bounded)
