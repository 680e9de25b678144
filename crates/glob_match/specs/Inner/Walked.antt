-- What is left of a path of which names were taken from the front.
use Rattle.std.specs.Prelude.{ℕ, List, [], Option, None, Some}
use denote.Ref.{Bor}
use Rattle.glob_match.specs.Path.{names}

abbrev pub names_left : Option (Bor (List ℕ)) → List (List ℕ)
names_left None = []
names_left (Some path) = names path.now
