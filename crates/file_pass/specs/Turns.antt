-- What a pass came to at each of its paths.
use Rattle.std.specs.Prelude.{◌≡◌, ℕ, List, [], ◌∷◌, None}
use Rattle.outside.specs.World.{History, names, file_at}
use Rattle.standing.specs.Look.{Look}
use Rattle.standing.specs.Moments.{IsLater}

pub data Turn : Type 0 where
  looks_at : Look → Turn
  misses_path : List ℕ → Turn
  -- no file had the path
  finds_none : List ℕ → Turn

abbrev pub path_of : Turn → List ℕ
path_of (looks_at here) = here.path
path_of (misses_path path) = path
path_of (finds_none path) = path

-- the looks among turns, of which the newest comes first
abbrev pub looks_of : List Turn → List Look
looks_of [] = []
looks_of (looks_at here ∷ earlier) = here ∷ looks_of earlier
looks_of (misses_path path ∷ earlier) = looks_of earlier
looks_of (finds_none path ∷ earlier) = looks_of earlier

abbrev pub misses_of : List Turn → List (List ℕ)
misses_of [] = []
misses_of (looks_at here ∷ earlier) = misses_of earlier
misses_of (misses_path path ∷ earlier) = path ∷ misses_of earlier
misses_of (finds_none path ∷ earlier) = misses_of earlier

abbrev pub gone_of : List Turn → List (List ℕ)
gone_of [] = []
gone_of (looks_at here ∷ earlier) = gone_of earlier
gone_of (misses_path path ∷ earlier) = gone_of earlier
gone_of (finds_none path ∷ earlier) = path ∷ gone_of earlier

-- at one moment no file had the path
pub record HadNone (old new : History) (path : List ℕ) : Type 0 where
  pub moment : History
  pub after : IsLater old moment
  pub before : IsLater moment new
  pub none : file_at (names moment) path ≡ None
