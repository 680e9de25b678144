use Rattle.std.proofs.Common.{◌≡◌, length}
use Rattle.settings_text.specs.Names.{are_names, has, parts_of}
use Rattle.settings_text.proofs.HeaderParts.{fresh}
use Rattle.settings_text.proofs.names.are_names.Given as goal

abbrev pub invariant-names : goal.invariant-names
invariant-names l = fresh (has l.seen) (parts_of l.delimiter l.rest) ≡ are_names (parts_of l.delimiter l.header)

abbrev pub decreases-names : goal.decreases-names
decreases-names l = length l.rest
