-- How the fronts of rows stand to each other and to other bytes.
use Rattle.std.specs.Prelude.{◌≡◌, ◌≢◌, ℕ, ◌<◌, Bool, false, List, [], length, map, slice_index_or, nat_eq}
use Rattle.std.specs.List.{starts_with}
use Rattle.file_tracker.specs.declared.row.Row.{Row}

-- the front is how the text begins
abbrev pub begins : List ℕ → List ℕ → Bool
begins front text = starts_with nat_eq text front

-- no front is how another begins
abbrev pub ArePrefixFree : List (List ℕ) → Type 0
ArePrefixFree fronts =
    (i j : ℕ) → i < length fronts → j < length fronts → i ≢ j → begins (slice_index_or fronts i []) (slice_index_or fronts j []) ≡ false

abbrev pub front_of : Row → List ℕ
front_of row = row.front

abbrev pub fronts_of : List Row → List (List ℕ)
fronts_of rows = map front_of rows

abbrev pub front_at : List (List ℕ) → ℕ → List ℕ
front_at fronts place = slice_index_or fronts place []

-- no row's front is how another row's begins
abbrev pub AreApart : List Row → Type 0
AreApart rows = ArePrefixFree (fronts_of rows)
