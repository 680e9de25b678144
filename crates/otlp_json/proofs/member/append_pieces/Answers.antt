use Rattle.std.proofs.Common.{codes}
use Rattle.std.proofs.lemmas.List.{append_assoc}
use Rattle.otlp_json.proofs.Appended.{last_extended}
use Rattle.otlp_json.proofs.member.append_pieces.Goals as goal

pub returns-clause-ok : goal.returns-clause-ok
returns-clause-ok c =
    let last = c.extend_from_slice-3 in
    last_extended last.result c.append_escaped-2.new.out.items last.new.self.items (codes "\"}}") _ last.ensures.items
    (rw (c.in_ok-append_escaped-2.ensures.ok, c.in_ok-extend_from_slice-2.ensures.items, c.in_ok-append_escaped.ensures.ok, c.in_ok-extend_from_slice.ensures.items) (simp append_assoc))
