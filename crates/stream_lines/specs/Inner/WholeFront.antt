-- The whole lines at the front of some bytes.
use Rattle.std.specs.Prelude.{◌≡◌, ℕ, ◌-◌, ◌<◌, ◌≤◌, List, length, slice_index}

-- So many bytes at the front end with an LF, if there are any, and there is none behind them.
pub record IsWholeFront (bytes : List ℕ) (size : ℕ) : Type 0 where
  pub ends : 0 < size → slice_index bytes (size - 1) ≡ 10
  pub last : (k : ℕ) → size ≤ k → k < length bytes → slice_index bytes k ≡ 10 → ⊥
