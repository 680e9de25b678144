use Rattle.std.proofs.Common.{arith}
use Rattle.std.proofs.lemmas.Simd.{zip2_splat, zip2_of_maps}
use lib.Bits.{bit_or}
use Rattle.otlp_json.proofs.Plain.{equals, below, escaped_lanes}
use Rattle.otlp_json.proofs.lanes.escaped_of.Goals as goal

pub returns : goal.returns
returns g c =
    let lanes = c.args.lanes in
    let long = c.fits-lanes.0 in
    escaped_lanes lanes _ (omega arith)
    (zip2_of_maps bit_or _ _ lanes (zip2_of_maps bit_or _ _ lanes (zip2_splat equals lanes g.row.N 34 long) (zip2_splat equals lanes g.row.N 92 long)) (zip2_splat below lanes g.row.N 32 long))
