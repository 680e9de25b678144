-- A worked value of each version.
use Rattle.std.specs.Prelude.{ℕ, List, [], ◌∷◌, ◌++◌}
use Rattle.checkpoint_store.specs.declared.Checkpoint.{Checkpoint}

-- with the settings `{}` alone, and nothing else
abbrev pub empty_checkpoint : Checkpoint
empty_checkpoint = record { eras = (0x7B ∷ 0x7D ∷ []) ∷ []; output_length = 0; observed = 0; next_id = 1; rows = [] }

abbrev pub eight_zeros : List ℕ
eight_zeros = 0 ∷ 0 ∷ 0 ∷ 0 ∷ 0 ∷ 0 ∷ 0 ∷ 0 ∷ []

-- the settings with their length, and the next id 1 before the count of no rows
abbrev pub empty_settings : List ℕ
empty_settings = 0 ∷ 0 ∷ 0 ∷ 2 ∷ 0x7B ∷ 0x7D ∷ []

abbrev pub no_rows : List ℕ
no_rows = 0 ∷ 0 ∷ 0 ∷ 1 ∷ 0 ∷ 0 ∷ 0 ∷ 0 ∷ []

-- of 23, 31 and 35 bytes
abbrev pub empty_1 : List ℕ
empty_1 = 1 ∷ (empty_settings ++ (eight_zeros ++ no_rows))

abbrev pub empty_2 : List ℕ
empty_2 = 2 ∷ (empty_settings ++ (eight_zeros ++ (eight_zeros ++ no_rows)))

abbrev pub empty_3 : List ℕ
empty_3 = 3 ∷ 0 ∷ 0 ∷ 0 ∷ 1 ∷ (empty_settings ++ (eight_zeros ++ (eight_zeros ++ no_rows)))
