-- Groups of one source, and those of all others.
use Rattle.std.specs.Prelude.{◌≡◌, ℕ, List, [], ◌∷◌, Bool, false, bytes_eq, filter, not, ⊤}
use Rattle.recombine.specs.Group.{Group}

abbrev pub is_of : List ℕ → Group → Bool
is_of source group = bytes_eq source group.source

abbrev pub own : List ℕ → List Group → List Group
own source groups = filter (is_of source) groups

abbrev pub others : List ℕ → List Group → List Group
others source groups = filter (λ group. not (is_of source group)) groups

-- none of them is of the source
abbrev pub AreOfOthers : List ℕ → List Group → Type 0
AreOfOthers source [] = ⊤
AreOfOthers source (group ∷ groups) = (is_of source group ≡ false) × AreOfOthers source groups
