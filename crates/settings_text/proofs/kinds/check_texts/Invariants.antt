use Rattle.std.proofs.Common.{◌≡◌, ◌++◌}
use Rattle.serde_json.specs.View.{members_view}
use Rattle.settings_text.specs.Kinds.{are_texts}
use Rattle.settings_text.proofs.kinds.check_texts.Given as goal

abbrev pub invariant-loop-name : goal.invariant-loop-name
invariant-loop-name l = are_texts (l.at ++ l.key) (members_view l.name-iterator) ≡ are_texts (l.at ++ l.key) (members_view l.members.entries)
