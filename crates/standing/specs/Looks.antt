-- The looks of a poll in turn. The newest comes first.
use Rattle.std.specs.Prelude.{ℕ, ◌+◌, List, [], ◌∷◌, Bool, All, IsTrue, if◌then◌else◌, ⊤}
use Rattle.std.specs.Cmp.Lexicographic.{slice_cmp}
use Rattle.std.specs.Ordering.{nat_cmp, is_lt}
use Rattle.outside.specs.World.{History}
use Rattle.standing.specs.Look.{Look, Outcome, Progress, ComesAt, ReadsOn, outcome, after_look}
use Rattle.standing.specs.Moments.{IsLater}
use Rattle.standing.specs.Poll.{Poll}
use Rattle.standing.specs.Rules.{Rules}

-- what the looks make of the rows, one after another
abbrev pub progress_by : Poll → List Look → Progress → Progress
progress_by poll [] start = start
progress_by poll (here ∷ earlier) start = after_look poll here (progress_by poll earlier start)

-- what the newest look finds after the earlier ones
abbrev pub outcome_after : Poll → List Look → Progress → Look → Outcome
outcome_after poll earlier start here = outcome poll.rules (progress_by poll earlier start).rows here

-- each look comes in its turn between the two moments
abbrev pub Come : Rules → List Look → History → History → Type 0
Come rules [] old new = IsLater old new
Come rules (here ∷ earlier) old new = Come rules earlier old here.moment × ComesAt rules here new

-- each look that comes to its row's offset could read up to there
abbrev pub ReadOn : Poll → List Look → Progress → Type 0
ReadOn poll [] start = ⊤
ReadOn poll (here ∷ earlier) start = ReadOn poll earlier start × ReadsOn poll here (outcome_after poll earlier start here)

-- the paths ascend in byte order, each once
abbrev pub Ascend : List Look → Type 0
Ascend [] = ⊤
Ascend (here ∷ earlier) = All (λ (before : Look). IsTrue (is_lt (slice_cmp nat_cmp before.path here.path))) earlier × Ascend earlier

-- how many of the looks pass, each with what it finds
abbrev pub count_of : Poll → (Look → Outcome → Bool) → List Look → Progress → ℕ
count_of poll test [] start = 0
count_of poll test (here ∷ earlier) start =
    count_of poll test earlier start + (if test here (outcome_after poll earlier start here) then 1 else 0)
