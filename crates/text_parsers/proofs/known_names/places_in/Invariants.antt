use Rattle.std.proofs.Common.{take}
use Rattle.text_parsers.specs.Inner.Known.{AreAt}
use Rattle.text_parsers.proofs.known_names.places_in.Given as goal

abbrev pub invariant-loop-name : goal.invariant-loop-name
invariant-loop-name l = AreAt l.unset.entries (take l.name-index l.names) l.places.items
