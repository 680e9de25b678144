use Rattle.std.proofs.Common.{ne_eqb, decimal}
use Rattle.std.proofs.lemmas.List.{append_assoc}
use Rattle.otlp_json.proofs.Appended.{last_appended}
use Rattle.otlp_json.proofs.record.append_severity_number.Goals as goal

pub returns-clause-ok : goal.returns-clause-ok
returns-clause-ok c =
    let last = c.append_decimal in
    last_appended last.result c.extend_from_slice.new.self.items last.new.out.items (decimal c.from.result) _ last.ensures.ok
    (rw (c.in_ok-extend_from_slice.ensures.items, c.from.ensures, ne_eqb c.args.severity 0 c.if-severity-eq0.false) (simp append_assoc))
