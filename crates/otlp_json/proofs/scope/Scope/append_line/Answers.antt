use Rattle.std.proofs.Common.{◌≡◌, ◌∙◌, ap}
use Rattle.entry_model.specs.LogRecord.{log_record}
use Rattle.otlp_json.specs.Scope.{scope_text, end_text}
use Rattle.otlp_json.proofs.Appended.{last_appended}
use Rattle.otlp_json.proofs.Scopes.{line_appended}
use Rattle.otlp_json.proofs.scope.Scope.append_line.Goals as goal

pub returns-clause-ok : goal.returns-clause-ok
returns-clause-ok c =
    let last = c.append_end in
    let shared : c.deref.result.now ≡ scope_text c.args.self.now = c.deref.ensures.value ∙ c.self.invariant ∙ ap scope_text c.self.view_is in
    last_appended last.result c.extend_from_slice.new.self.items last.new.out.items (end_text c.args.number) _ last.ensures.ok
    (rw (c.in_ok-extend_from_slice.ensures.items, shared, c.in_ok-append_entry.ensures.ok) (line_appended c.args.out.now.items c.args.self.now c.args.number c.args.observed (log_record c.args.entry.now)))
