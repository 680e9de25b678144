use Rattle.std.proofs.lemmas.List.{append_assoc}
use Rattle.otlp_json.specs.RecordText.{time_text}
use Rattle.otlp_json.specs.Scope.{record_members}
use Rattle.otlp_json.proofs.Appended.{last_appended}
use Rattle.otlp_json.proofs.record.append_record_members.Goals as goal

pub returns-clause-ok : goal.returns-clause-ok
unfolding record_members
returns-clause-ok c =
    let last = c.append_nanoseconds-2 in
    last_appended last.result c.append_severity_name.new.out.items last.new.out.items (time_text c.args.entry.now.timestamp) _ last.ensures.ok
    (rw (c.in_ok-append_severity_name.ensures.ok, c.in_ok-append_severity_number.ensures.ok, c.in_ok-append_nanoseconds.ensures.ok, c.in_ok-append_body.ensures.ok, c.in_ok-append_attributes.ensures.ok, c.as_str.ensures) (simp append_assoc))
