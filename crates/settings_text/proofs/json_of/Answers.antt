use Rattle.std.proofs.Common.{refl, sym, true≢false}
use Rattle.serde_json.specs.View.{view}
use Rattle.settings_text.proofs.JsonTexts.{is_json, no_json}
use Rattle.settings_text.proofs.json_of.Goals as goal

pub returns-in-Ok : goal.returns-in-Ok
returns-in-Ok c = rw (is_json c.args.bytes.now (view c.in-Ok.value) c.in-Ok.ensures.ok.0 c.in-Ok.ensures.ok.1) refl

pub returns-else-is_memory : goal.returns-else-is_memory
returns-else-is_memory c = λ _. rw (no_json c.args.bytes.now (c.in-Err.ensures.err (λ m. true≢false (sym (c.if-is_memory.ensures.1 m))))) refl
