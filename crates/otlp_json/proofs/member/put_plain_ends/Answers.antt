use Rattle.std.proofs.Common.{◌++◌, ◌∙◌, sym, ap, take, arith}
use Rattle.otlp_json.proofs.Escapes.{plain_to_the_end}
use Rattle.otlp_json.proofs.member.put_plain_ends.Goals as goal

pub returns-clause-bytes : goal.returns-clause-bytes
returns-clause-bytes g c =
    let plain = plain_to_the_end c.args.text.now (omega (arith, c.plain_length_by_ends.ensures)) in
    c.put_ends.ensures.bytes ∙ ap (λ bytes. take c.args.made c.args.block.now ++ bytes) (sym plain)
