use Rattle.std.proofs.Common.{◌≡◌, [], ◌++◌, ◌∙◌, ap, refl, codes}
use Rattle.std.proofs.lemmas.List.{append_assoc}
use Rattle.field_paths.specs.MapOf.{members_seen}
use Rattle.otlp_json.specs.RecordText.{attributes_text}
use Rattle.otlp_json.specs.Template.{numbered, number_text}
use Rattle.otlp_json.specs.ValueText.{members_text}
use Rattle.otlp_json.proofs.Templates.{filled_in}
use Rattle.otlp_json.proofs.template.Template.new.Goals as goal

pub returns : goal.returns
returns c =
    let attributes = members_seen c.args.attributes.entries in
    let front = c.append_attributes.new.front.items in
    let behind = c.in_ok-behind.behind.items in
    let begun : c.extend_from_slice-2.new.self.items ≡ codes "{\"resourceLogs\":[{\"resource\":{\"attributes\":" ++ attributes_text (members_seen c.args.resource.now.entries) ++ codes "},\"scopeLogs\":[{\"logRecords\":[{\"attributes\":[" =
    rw (c.in_ok-extend_from_slice-2.ensures.items, c.in_ok-append_fields.ensures.ok, c.in_ok-extend_from_slice.ensures.items, c.new-front.ensures.items) (simp append_assoc) in
    filled_in c.args.id c.args.observed (members_seen c.args.resource.now.entries) attributes c.args.number _
    (λ n.
    ap (λ has. front ++ number_text has behind n) c.is_some-numbered.ensures
    ∙ c.in_ok-behind.ensures n
    ∙ ap (λ bytes. bytes ++ members_text [] (numbered c.args.number n attributes) ++ codes "],\"body\":{\"stringValue\":\"") begun)
    (rw (c.in_ok-append_scope.ensures.ok, c.in_ok-append_nanoseconds.ensures.ok, c.in_ok-extend_from_slice-3.ensures.items, c.new-back.ensures.items) refl)
