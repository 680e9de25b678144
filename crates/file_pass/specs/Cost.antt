-- How many bytes the reads of a pass give at most, told by its looks.
use Rattle.std.specs.Prelude.{ℕ, ◌+◌, ◌-◌, min, List, [], ◌∷◌}
use Rattle.standing.specs.Poll.{Poll}
use Rattle.standing.specs.Limits.{most_taken}
use Rattle.standing.specs.Look.{Look, Outcome, Progress, skips, finds_nothing, finds_compressed, finds_no_room, finds_new, finds_row, size}
use Rattle.standing.specs.Looks.{outcome_after}

-- the file's bytes past its row's offset, none where it is shorter, and all bytes where it found no row
abbrev pub bytes_past : Look → Outcome → ℕ
bytes_past here skips = size here
bytes_past here finds_nothing = size here
bytes_past here finds_compressed = size here
bytes_past here finds_no_room = size here
bytes_past here finds_new = size here
bytes_past here (finds_row place row) = size here - row.offset

-- what is read on of a file
abbrev pub cost_on : Look → Outcome → ℕ
cost_on here found = min most_taken (bytes_past here found)

-- its front, and what is read on
abbrev pub look_cost : Poll → Look → Outcome → ℕ
look_cost poll here found = poll.rules.front_size + cost_on here found

-- of the looks in turn, each with what it finds
abbrev pub cost_of : Poll → List Look → Progress → ℕ
cost_of poll [] start = 0
cost_of poll (here ∷ earlier) start = cost_of poll earlier start + look_cost poll here (outcome_after poll earlier start here)
