-- What is asked of a row: the entries that its file's bytes give, part by part, whether or not each part ends at a bound. So that
-- this is said of any numbers, the tokens up to a place are those that end at it or before it.
use Rattle.std.specs.Prelude.{ℕ, ◌-◌, nat_le, if◌then◌else◌, List, [], ◌∷◌, ◌++◌, drop}
use Rattle.file_tracker.specs.declared.ends.End.{End}
use Rattle.line_splitter.specs.Cuts.{Cut}
use Rattle.standing.specs.Closed.{Made, flagged, closed_output}
use Rattle.standing.specs.Part.{first_point, part_from, part_output}
use Rattle.standing.specs.Rows.{Row}
use Rattle.standing.specs.Rules.{Rules}
use Rattle.standing.specs.Tokens.{texts}

-- the first cuts that together use at most n bytes
abbrev pub cuts_before : ℕ → List Cut → List Cut
cuts_before n [] = []
cuts_before n (c ∷ cuts) = if nat_le c.used n then c ∷ cuts_before (n - c.used) cuts else []

-- the tokens that stand between two places
abbrev pub tokens_between : Rules → List ℕ → ℕ → ℕ → List (List ℕ)
tokens_between rules content from to = texts (cuts_before (to - from) (rules.cuts (drop from content)))

-- what a part that is closed is to give, and then the last one
abbrev pub asked_closed : Rules → List ℕ → List ℕ → End → End → List Made
asked_closed rules content path from to =
    flagged rules.stamps (closed_output rules path from.records (tokens_between rules content from.offset to.offset))

abbrev pub asked_open : Rules → List ℕ → Row → End → List Made
asked_open rules content row from =
    flagged rules.stamps (part_output rules (part_from rules from) row.path (tokens_between rules content from.offset row.offset))

-- all parts, each under its rules; the last rules are those of the open part
abbrev pub asked_from : List Rules → List ℕ → Row → End → List End → List Made
asked_from [] content row from ends = []
asked_from (rules ∷ later) content row from [] = asked_open rules content row from
asked_from (rules ∷ later) content row from (end ∷ ends) =
    asked_closed rules content row.path from end ++ asked_from later content row end ends

abbrev pub asked : List Rules → List ℕ → Row → List Made
asked rules content row = asked_from rules content row (first_point row) row.ends
