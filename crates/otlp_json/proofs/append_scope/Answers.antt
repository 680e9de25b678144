use Rattle.std.proofs.Common.{codes}
use Rattle.std.proofs.lemmas.List.{append_assoc}
use Rattle.otlp_json.specs.Scope.{scope_text}
use Rattle.otlp_json.proofs.Appended.{last_extended}
use Rattle.otlp_json.proofs.append_scope.Goals as goal

pub returns-clause-ok : goal.returns-clause-ok
unfolding scope_text
returns-clause-ok c =
    let last = c.extend_from_slice-2 in
    last_extended last.result c.append_decimal.new.out.items last.new.self.items (codes "\"}},{\"key\":\"agent.line\",\"value\":{\"intValue\":\"") _ last.ensures.items
    (rw (c.in_ok-append_decimal.ensures.ok, c.in_ok-extend_from_slice.ensures.items, c.from.ensures) (simp append_assoc))
