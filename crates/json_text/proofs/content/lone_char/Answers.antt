use Rattle.std.proofs.Common.{◌∙◌, ◌<◌, ap, encode_utf8, arith}
use Rattle.json_text.proofs.Steps.{lone_char}
use Rattle.json_text.proofs.content.lone_char.Goals as goal

pub returns : goal.returns
returns c =
    let small : c.args.unit < 65536 = let f = c.ranges.unit.fits in omega arith in
    ap encode_utf8 c.unwrap_or.ensures ∙ lone_char c.args.unit c.from_u32.result small c.from_u32.ensures.value c.from_u32.ensures.cases
