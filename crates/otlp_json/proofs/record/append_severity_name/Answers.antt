use Rattle.std.proofs.Common.{◌≡◌, true, false, codes}
use Rattle.std.proofs.lemmas.List.{append_assoc}
use Rattle.otlp_json.proofs.Appended.{last_extended}
use Rattle.otlp_json.proofs.Members.{named}
use Rattle.otlp_json.proofs.record.append_severity_name.Goals as goal

pub returns-clause-ok : goal.returns-clause-ok
returns-clause-ok c =
    let last = c.extend_from_slice-2 in
    let shown = c.if-is_empty.ensures in
    rw (named c.args.name.now (λ none. let clash : false ≡ true = rw none at shown in cc))
    (last_extended last.result c.append_escaped.new.out.items last.new.self.items (codes "\"") _ last.ensures.items
    (rw (c.in_ok-append_escaped.ensures.ok, c.in_ok-extend_from_slice.ensures.items, c.as_bytes.ensures.value) (simp append_assoc)))
