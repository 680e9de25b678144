use Rattle.std.proofs.Common.{◌∙◌, ap, encode_utf8}
use Rattle.json_text.proofs.Steps.{pair_char}
use Rattle.json_text.proofs.content.pair_char.Goals as goal

pub returns : goal.returns
returns c =
    ap encode_utf8 c.unwrap_or.ensures ∙ pair_char c.args.high c.args.low c.from_u32.result c.requires c.from_u32.ensures.value c.from_u32.ensures.succeeds
