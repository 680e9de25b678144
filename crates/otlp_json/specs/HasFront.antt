use Rattle.std.specs.Prelude.{◌≡◌, ℕ, List, length, take}

-- new begins with old
abbrev pub HasFront : List ℕ → List ℕ → Type 0
HasFront old new = take (length old) new ≡ old
