use Rattle.std.proofs.Common.{refl, codes}
use Rattle.std.proofs.lemmas.List.{append_assoc}
use Rattle.otlp_json.proofs.Appended.{last_extended}
use Rattle.otlp_json.proofs.template.append_behind.Goals as goal

pub returns : goal.returns
returns c =
    let last = c.extend_from_slice-2 in
    last_extended last.result c.append_opened_members.new.out.items last.new.self.items (codes "],\"body\":{\"stringValue\":\"") _ last.ensures.items
    (rw (c.in_ok-append_opened_members.ensures.ok (codes ",") refl, c.in_ok-extend_from_slice.ensures.items) (simp append_assoc))
