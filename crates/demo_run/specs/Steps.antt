-- The steps of others, without what the agent did.
use Rattle.std.specs.Prelude.{◌≡◌, ℕ, List, [], ◌∷◌, reverse}
use Rattle.demo_run.specs.Moves.{Move, step, step_within, poll, stop, disk_fails, tree_fails, reopen}
use Rattle.demo_run.specs.Script.{script}
use Rattle.outside.specs.World.{create, append, rename, remove, look, miss, unlisted, History}

-- those of a history
abbrev pub steps_of : History → History
steps_of [] = []
steps_of (create file path ∷ before) = create file path ∷ steps_of before
steps_of (append file more ∷ before) = append file more ∷ steps_of before
steps_of (rename file path ∷ before) = rename file path ∷ steps_of before
steps_of (remove file ∷ before) = remove file ∷ steps_of before
steps_of (look _ ∷ before) = steps_of before
steps_of (miss _ ∷ before) = steps_of before
steps_of (unlisted _ ∷ before) = steps_of before

-- those of a script, the newest first
abbrev pub steps_in : List Move → History
steps_in [] = []
steps_in (step event ∷ before) = event ∷ steps_in before
steps_in (step_within _ _ ∷ before) = steps_in before
steps_in (poll ∷ before) = steps_in before
steps_in (stop _ _ ∷ before) = steps_in before
steps_in (disk_fails _ ∷ before) = steps_in before
steps_in (tree_fails _ ∷ before) = steps_in before
steps_in (reopen ∷ before) = steps_in before

-- The steps of others in the history are those of so many rounds.
abbrev pub IsOfRounds : ℕ → History → Type 0
IsOfRounds rounds history = steps_of history ≡ steps_in (reverse (script rounds))
