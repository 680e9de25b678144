use Rattle.entry_model.specs.LogRecord.{log_record}
use Rattle.otlp_json.specs.Scope.{end_text}
use Rattle.otlp_json.proofs.Appended.{last_appended}
use Rattle.otlp_json.proofs.Scopes.{line_appended}
use Rattle.otlp_json.proofs.append_line.Goals as goal

pub returns-clause-ok : goal.returns-clause-ok
returns-clause-ok c =
    let last = c.append_end in
    last_appended last.result c.append_scope.new.out.items last.new.out.items (end_text c.args.number) _ last.ensures.ok
    (rw (c.in_ok-append_scope.ensures.ok, c.in_ok-append_entry.ensures.ok) (line_appended c.args.out.now.items c.args.id c.args.number c.args.observed (log_record c.args.entry.now)))
