-- The places of rows in byte order of their fronts, and where a text stands among them.
use Rattle.std.specs.Prelude.{◌≡◌, ◌≢◌, ◌-◌, ℕ, ◌<◌, ◌≤◌, Bool, true, false, if◌then◌else◌, List, length, slice_index, nat_lt, MatchBool}
use Rattle.std.specs.Cmp.Lexicographic.{slice_cmp}
use Rattle.std.specs.Ordering.{nat_cmp, is_gt}
use Rattle.file_tracker.specs.Limits.{row_limit}
use Rattle.file_tracker.specs.declared.row.Row.{Row}
use Rattle.file_tracker.specs.Fronts.{begins, front_at, fronts_of, ArePrefixFree}

-- the first does not stand behind the second in byte order
abbrev pub IsAtMost : List ℕ → List ℕ → Type 0
IsAtMost one other = is_gt (slice_cmp nat_cmp one other) ≡ false

abbrev pub IsAbove : List ℕ → List ℕ → Type 0
IsAbove one other = is_gt (slice_cmp nat_cmp one other) ≡ true

-- the front of the row whose place is the k-th of the order
abbrev pub front_in : List (List ℕ) → List ℕ → ℕ → List ℕ
front_in fronts order k = front_at fronts (slice_index order k)

-- each place below this number once, and no other
pub record ArePlaces (count : ℕ) (order : List ℕ) : Type 0 where
  pub size : length order ≡ count
  pub in_range : (k : ℕ) → k < length order → slice_index order k < count
  pub apart : (j k : ℕ) → j < k → k < length order → slice_index order j ≢ slice_index order k
  pub covers : (place : ℕ) → place < count → (k : ℕ) × (k < length order) × (slice_index order k ≡ place)

abbrev pub Ascends : List (List ℕ) → List ℕ → Type 0
Ascends fronts order = (j k : ℕ) → j < k → k < length order → IsAtMost (front_in fronts order j) (front_in fronts order k)

-- what a tracker keeps beside its rows: their places in order, and whether some front is how another begins
pub record IsIndex (fronts : List (List ℕ)) (order : List ℕ) (nested : Bool) : Type 0 where
  pub places : ArePlaces (length fronts) order
  pub ascends : Ascends fronts order
  pub known : MatchBool nested (¬ ArePrefixFree fronts) (ArePrefixFree fronts)

-- the fronts below `low` are not above the text, those from `high` on are, and it is known whether the text begins
-- with the one before `low`
pub record StandsBetween (fronts : List (List ℕ)) (order text : List ℕ) (low high : ℕ) (begun : Bool) : Type 0 where
  pub ordered : low ≤ high
  pub within : high ≤ length order
  pub below : (k : ℕ) → k < low → IsAtMost (front_in fronts order k) text
  pub above : (k : ℕ) → high ≤ k → k < length order → IsAbove (front_in fronts order k) text
  pub begins_last : begun ≡ (if nat_lt 0 low then begins (front_in fronts order (low - 1)) text else false)

-- the same, but that the front at one place is known to stand behind no more than those before `end`
abbrev pub AscendsBefore : ℕ → ℕ → List (List ℕ) → List ℕ → Type 0
AscendsBefore place end fronts order =
    (j k : ℕ) → j < k → k < length order → (slice_index order j ≡ place → k < end) → IsAtMost (front_in fronts order j) (front_in fronts order k)

-- what a tracker is at any time
pub record IsKept (rows : List Row) (order : List ℕ) (nested : Bool) : Type 0 where
  pub short : length rows ≤ row_limit
  pub index : IsIndex (fronts_of rows) order nested
