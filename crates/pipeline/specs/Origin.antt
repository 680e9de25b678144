-- Whose tokens are taken.
use Rattle.std.specs.Prelude.{ℕ, List, Option}

-- the file's id and path, and the time that its lines have, where they have one
pub record Origin : Type 0 where
  pub id : ℕ
  pub path : List ℕ
  pub time : Option ℕ

abbrev pub origin_of : ℕ → List ℕ → Option ℕ → Origin
origin_of id path time = record { id = id; path = path; time = time }
