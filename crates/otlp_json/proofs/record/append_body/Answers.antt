use Rattle.std.proofs.Common.{codes}
use Rattle.std.proofs.lemmas.List.{append_assoc}
use Rattle.entry_model.proofs.Data.{datum_text}
use Rattle.entry_model.specs.Datum.{datum}
use Rattle.otlp_json.specs.ValueText.{value_text}
use Rattle.otlp_json.proofs.Appended.{last_appended, last_extended, front_kept}
use Rattle.otlp_json.proofs.Members.{body_there}
use Rattle.otlp_json.proofs.record.append_body.Goals as goal

pub returns-in_ok-append_escaped-in-Text-clause-ok : goal.returns-in_ok-append_escaped-in-Text-clause-ok
returns-in_ok-append_escaped-in-Text-clause-ok c =
    let last = c.extend_from_slice-in-Text-2 in
    rw (c.in-Text.is, datum_text c.in-Text.text)
    (last_extended last.result c.append_escaped.new.out.items last.new.self.items (codes "\"}") _ last.ensures.items
    (rw (c.in_ok-append_escaped-in-Text.ensures.ok, c.in_ok-extend_from_slice-in-Text.ensures.items, c.as_bytes.ensures.value, c.as_str.ensures) (simp append_assoc)))

pub returns-in_ok-extend_from_slice-in_default : goal.returns-in_ok-extend_from_slice-in_default
returns-in_ok-extend_from_slice-in_default c =
    let last = c.append_value in
    let start = c.args.out.now.items in
    let mid = c.extend_from_slice-in_default.new.self.items in
    let body = value_text (datum c.args.body.now) in
    let added = c.in_ok-extend_from_slice-in_default.ensures.items in
    record {
      ok = last_appended last.result mid last.new.out.items body _ last.ensures.ok (rw (body_there c.args.body.now c.in_default.not-Null, added) (simp append_assoc));
      front = front_kept start mid last.new.out.items (codes "],\"body\":") added last.ensures.front;
    }
