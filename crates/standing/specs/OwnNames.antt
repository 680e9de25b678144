-- The agent's own files in its folder. No relative pattern matches them.
use Rattle.std.specs.Prelude.{◌≡◌, ◌≢◌, ◌⊎◌, ℕ, List, [], ◌++◌, codes, IsTrue}
use Rattle.std.specs.List.{list_all}
use Rattle.std.specs.Char.{is_ascii_digit}

-- `output.`, digits and `.jsonl`
pub record IsPartOfOutput (path : List ℕ) : Type 0 where
  pub digits : List ℕ
  pub some : digits ≢ []
  pub each : IsTrue (list_all is_ascii_digit digits)
  pub is : path ≡ codes "output." ++ digits ++ codes ".jsonl"

abbrev pub IsOwnName : List ℕ → Type 0
IsOwnName path =
    (path ≡ codes "settings.json") ⊎ (path ≡ codes "output.jsonl") ⊎ (path ≡ codes "checkpoint.a") ⊎ (path ≡ codes "checkpoint.b") ⊎ IsPartOfOutput path
