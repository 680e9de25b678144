-- A row that has taken all that can be taken up to a place.
use Rattle.std.specs.Prelude.{◌≡◌, ℕ, ◌+◌, ◌-◌, List, take, drop}
use Rattle.standing.specs.Part.{first_point, last_point}
use Rattle.standing.specs.Rows.{Row}
use Rattle.standing.specs.Rules.{Rules}
use Rattle.standing.specs.Tokens.{used}

-- The bytes are those of the row's owner, and the rules those of its last part.
abbrev pub Reached : Rules → List ℕ → Row → ℕ → Type 0
Reached rules content row place = let point = last_point (first_point row) row.ends in
    row.offset ≡ point.offset + used rules (take (place - point.offset) (drop point.offset content))
