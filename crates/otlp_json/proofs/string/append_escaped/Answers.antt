use Rattle.std.proofs.Common.{◌++◌, ap, sym}
use Rattle.otlp_json.proofs.Appended.{last_extended}
use Rattle.otlp_json.proofs.Escapes.{no_escapes}
use Rattle.otlp_json.proofs.string.append_escaped.Goals as goal

pub returns-in-None-clause-ok : goal.returns-in-None-clause-ok
returns-in-None-clause-ok c =
    let text = c.args.text.now in
    let now = c.args.out.now.items in
    last_extended c.extend_from_slice.result now c.extend_from_slice.new.self.items text _ c.extend_from_slice.ensures.items (ap (λ bytes. now ++ bytes) (sym (no_escapes text (sym c.in-None.ensures))))
