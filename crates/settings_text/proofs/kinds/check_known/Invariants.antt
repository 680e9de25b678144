use Rattle.std.proofs.Common.{◌≡◌}
use Rattle.serde_json.specs.View.{members_view}
use Rattle.settings_text.specs.Kinds.{known}
use Rattle.settings_text.proofs.kinds.check_known.Given as goal

abbrev pub invariant-loop-name : goal.invariant-loop-name
invariant-loop-name g l = known (g.K.Words.test l.keys) l.at (members_view l.name-iterator) ≡ known (g.K.Words.test l.keys) l.at (members_view l.members.entries)
