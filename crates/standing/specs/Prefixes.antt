-- Texts that begin others.
use Rattle.std.specs.Prelude.{◌≡◌, ℕ, nat_eq, List, length, take, Bool}
use Rattle.std.specs.List.{starts_with}

-- the long text begins with the short one
abbrev pub IsPrefix : List ℕ → List ℕ → Type 0
IsPrefix short long = take (length short) long ≡ short

abbrev pub begins : List ℕ → List ℕ → Bool
begins short long = starts_with nat_eq long short
