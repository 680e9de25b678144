use Rattle.std.proofs.Common.{codes, refl}
use Rattle.std.proofs.lemmas.List.{append_assoc}
use Rattle.otlp_json.specs.Scope.{resource_text}
use Rattle.otlp_json.proofs.Appended.{last_extended}
use Rattle.otlp_json.proofs.append_resource.Goals as goal

pub returns-then-has_none-clause-ok : goal.returns-then-has_none-clause-ok
unfolding resource_text
returns-then-has_none-clause-ok c =
    let last = c.extend_from_slice in
    rw (c.if-has_none.ensures refl)
    (last_extended last.result c.args.out.now.items last.new.self.items
    (codes "{\"resourceLogs\":[{\"resource\":{\"attributes\":[]},\"scopeLogs\":[{\"logRecords\":[{\"attributes\":") _ last.ensures.items refl)

pub returns-clause-ok : goal.returns-clause-ok
unfolding resource_text
returns-clause-ok c =
    let last = c.extend_from_slice-3 in
    last_extended last.result c.append_attributes.new.out.items last.new.self.items (codes "]},\"scopeLogs\":[{\"logRecords\":[{\"attributes\":") _ last.ensures.items
    (rw (c.in_ok-append_attributes.ensures.ok, c.in_ok-extend_from_slice.ensures.items) (simp append_assoc))
