use Rattle.std.proofs.Common.{◌∙◌, ap, sym, is_some}
use Rattle.entry_model.specs.Datum.{datum}
use Rattle.field_paths.proofs.Entries.{member_at-seen}
use Rattle.regex_syntax.proofs.Written.{is_some-option_map}
use Rattle.expr_lang.proofs.kinds.has_key.Goals as goal

pub returns : goal.returns
returns c = c.contains_key.ensures ∙ sym (ap is_some (member_at-seen c.args.key.now c.args.fields.now.entries) ∙ is_some-option_map datum _)
