use Rattle.std.proofs.Common.{◌≡◌, drop}
use Rattle.entry_model.specs.Seen.{seen}
use Rattle.json_text.specs.Grammar.{put_all}
use Rattle.text_parsers.specs.Inner.Known.{unset_with, nothing_at}
use Rattle.text_parsers.proofs.known_names.unset_of.Given as goal

abbrev pub invariant-loop-name : goal.invariant-loop-name
invariant-loop-name l = put_all (seen l.members.entries) (nothing_at (drop l.name-index l.names)) ≡ unset_with l.names
