use Rattle.std.proofs.lemmas.List.{append_assoc}
use Rattle.entry_model.specs.LogRecord.{log_record}
use Rattle.otlp_json.specs.Scope.{entry_text, resource_text, record_members}
use Rattle.otlp_json.proofs.Appended.{last_appended}
use Rattle.otlp_json.proofs.append_entry.Goals as goal

pub returns-clause-ok : goal.returns-clause-ok
unfolding entry_text resource_text
returns-clause-ok c =
    let last = c.append_record_members in
    last_appended last.result c.append_resource.new.out.items last.new.out.items (record_members c.args.observed (log_record c.args.entry.now)) _ last.ensures.ok
    (rw c.in_ok-append_resource.ensures.ok (simp append_assoc))
