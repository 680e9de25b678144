use Rattle.std.proofs.Common.{◌∙◌, ap, sym, arith}
use Rattle.std.proofs.lemmas.List.Sums.{prefix_len-le-length}
use Rattle.std.proofs.lemmas.Simd.{leading_from_mask_l, trailing_mask_l}
use lib.Count.{count_trailing_zeros}
use Rattle.otlp_json.specs.Escaped.{needs_escape}
use Rattle.otlp_json.proofs.Plain.{plain}
use Rattle.otlp_json.proofs.lanes.plain_of_16.Goals as goal

pub returns-then-found-eq0-clause-run : goal.returns-then-found-eq0-clause-run
returns-then-found-eq0-clause-run c =
    let lanes = c.args.lanes in
    sym (leading_from_mask_l needs_escape lanes (sym c.escaped_of-found.ensures ∙ c.if-found-eq0.true) ∙ c.fits-lanes.0)

pub returns-clause-run : goal.returns-clause-run
returns-clause-run c =
    let lanes = c.args.lanes in
    let long = c.fits-lanes.0 in
    let is = c.escaped_of-found.ensures in
    let some = c.if-found-eq0.false in
    ap (count_trailing_zeros 64) is ∙ trailing_mask_l needs_escape 64 lanes (omega arith) (omega arith)

pub returns-clause-fits : goal.returns-clause-fits
returns-clause-fits c =
    let run = returns-clause-run c in
    let long = c.fits-lanes.0 in
    omega (arith, run, prefix_len-le-length plain c.args.lanes)
