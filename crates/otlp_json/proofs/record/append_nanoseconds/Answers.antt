use Rattle.std.proofs.Common.{codes}
use Rattle.std.proofs.lemmas.List.{append_assoc}
use Rattle.otlp_json.proofs.Appended.{last_extended}
use Rattle.otlp_json.proofs.record.append_nanoseconds.Goals as goal

pub returns-clause-ok : goal.returns-clause-ok
returns-clause-ok c =
    let last = c.extend_from_slice-2 in
    rw c.in-Some.is
    (last_extended last.result c.append_decimal.new.out.items last.new.self.items (codes "\"") _ last.ensures.items
    (rw (c.in_ok-append_decimal.ensures.ok, c.in_ok-extend_from_slice.ensures.items) (simp append_assoc)))
