use Rattle.std.proofs.Common.{◌≡◌, List, ℕ, [], drop, zip}
use Rattle.regex.specs.Locations.{location}
use Rattle.entry_model.specs.Seen.{seen}
use Rattle.json_text.specs.Grammar.{put_all}
use Rattle.text_parsers.specs.Groups.{members_by}
use Rattle.text_parsers.specs.Inner.Known.{AreAt}
use Rattle.text_parsers.proofs.groups.name_groups.Given as goal

abbrev pub invariant-loop-index : goal.invariant-loop-index
invariant-loop-index l = (left : List (List ℕ)) × AreAt (seen l.members.entries) left (drop l.index l.places)
    × (put_all (seen l.members.entries) (members_by (location l.locations) l.text (zip (drop l.index l.number-items) left)) ≡ put_all [] (members_by (location l.locations) l.text l.groups))
