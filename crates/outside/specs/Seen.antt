-- What the agent's own calls left in a history. The newest comes first.
use Rattle.std.specs.Prelude.{ℕ, List, [], ◌∷◌}
use Rattle.outside.specs.World.{create, append, rename, remove, look, miss, unlisted, History}

-- the files that were opened
abbrev pub looked : History → List ℕ
looked [] = []
looked (create _ _ ∷ before) = looked before
looked (append _ _ ∷ before) = looked before
looked (rename _ _ ∷ before) = looked before
looked (remove _ ∷ before) = looked before
looked (look file ∷ before) = file ∷ looked before
looked (miss _ ∷ before) = looked before
looked (unlisted _ ∷ before) = looked before

-- the paths that could not be opened
abbrev pub missed : History → List (List ℕ)
missed [] = []
missed (create _ _ ∷ before) = missed before
missed (append _ _ ∷ before) = missed before
missed (rename _ _ ∷ before) = missed before
missed (remove _ ∷ before) = missed before
missed (look _ ∷ before) = missed before
missed (miss path ∷ before) = path ∷ missed before
missed (unlisted _ ∷ before) = missed before

-- the folders that could not be listed
abbrev pub left_unlisted : History → List (List ℕ)
left_unlisted [] = []
left_unlisted (create _ _ ∷ before) = left_unlisted before
left_unlisted (append _ _ ∷ before) = left_unlisted before
left_unlisted (rename _ _ ∷ before) = left_unlisted before
left_unlisted (remove _ ∷ before) = left_unlisted before
left_unlisted (look _ ∷ before) = left_unlisted before
left_unlisted (miss _ ∷ before) = left_unlisted before
left_unlisted (unlisted folder ∷ before) = folder ∷ left_unlisted before
