use Rattle.std.proofs.Common.{◌≡◌}
use Rattle.serde_json.specs.View.{members_view}
use Rattle.settings_text.specs.Mappings as mappings
use Rattle.settings_text.proofs.InTurn.{with_front}
use Rattle.settings_text.proofs.mappings.rules.Given as goal

abbrev pub invariant-loop-name : goal.invariant-loop-name
invariant-loop-name l = with_front l.rules.items (mappings.rules l.key (members_view l.name-iterator)) ≡ mappings.rules l.key (members_view l.members.entries)
