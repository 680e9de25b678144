-- Places of a text that are marked, and the places to which a pattern leads from these.
use Rattle.std.specs.Prelude.{◌≡◌, ℕ, ◌+◌, ◌-◌, ◌≤◌, List, length, take, drop, Bool, true, false, slice_index_or}

abbrev pub IsMarked : List Bool → ℕ → Type 0
IsMarked marks place = slice_index_or marks place false ≡ true

-- the text from one place up to another
abbrev pub between : List ℕ → ℕ → ℕ → List ℕ
between text from to = take (to - from) (drop from text)

-- a place is marked after exactly where what stands between it and a place that was marked before fits
pub record Leads (Fits : List ℕ → Type 0) (text : List ℕ) (before after : List Bool) : Type 0 where
  pub size : length after ≡ length text + 1
  pub sound : (to : ℕ) → IsMarked after to → (from : ℕ) × (from ≤ to) × (to ≤ length text) × IsMarked before from × Fits (between text from to)
  pub complete : (from to : ℕ) → from ≤ to → to ≤ length text → IsMarked before from → Fits (between text from to) → IsMarked after to
