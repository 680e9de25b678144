use Rattle.std.proofs.Common.{◌++◌, ◌∙◌, sym, ap, take}
use Rattle.otlp_json.proofs.Escapes.{no_escapes}
use Rattle.otlp_json.proofs.member.put_plain_run.Goals as goal

pub returns-in-None-clause-bytes : goal.returns-in-None-clause-bytes
returns-in-None-clause-bytes c =
    let text = c.args.text.now in
    c.put_lanes.ensures.bytes ∙ ap (λ bytes. take c.args.made c.args.block.now ++ bytes) (sym (no_escapes text (sym c.in-None.ensures)))
