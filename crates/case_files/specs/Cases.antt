-- What a block of a file says.
use Rattle.std.specs.Prelude.{◌≡◌, ℕ, List, ◌∷◌, ◌++◌, codes}
use Rattle.case_files.specs.declared.case.Case.{Case}

-- the first line, the input's lines, a line of four hyphens, and the answer that is wanted
pub record IsCase (block : List ℕ) (case : Case) : Type 0 where
  pub head : List ℕ
  pub input : List ℕ
  pub parts : block ≡ head ++ (10 ∷ (input ++ (codes "----\n" ++ case.wanted.now)))
