-- What a disk means that tells nothing, and what it has to show.
use Rattle.std.specs.Prelude.{◌≡◌, [], true, false, IsTrue}
use Rattle.outside.specs.Images.{Images}

abbrev pub silent : {F D : Type 0} → Images F D
silent = record {
  tells = λ _. false;
  seen = λ _ _. [];
  may_leave = λ _ _. ⊥;
  moment = λ _. 0;
  left_since = λ _ _ _. ⊥;
}

pub never_told : IsTrue false → ⊥
never_told told = let no : false ≡ true = told in cc
