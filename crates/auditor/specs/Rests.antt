-- Bytes behind a place, which are enough to decide each token before it.
use Rattle.std.specs.Prelude.{ℕ, ◌+◌, ◌≤◌, List, [], ◌∷◌, length, ⊤}
use Rattle.pipeline.specs.Parts.{settings_of}
use Rattle.pipeline.specs.declared.Pipeline.{Pipeline}

-- the bytes go on behind the place by as many as each of the pipelines takes for a token at most, and two
abbrev pub HasRest : List Pipeline → ℕ → List ℕ → Type 0
HasRest [] place bytes = ⊤
HasRest (pipe ∷ pipes) place bytes = (place + (settings_of pipe).max_log_size + 2 ≤ length bytes) × HasRest pipes place bytes
