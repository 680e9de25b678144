-- Words: bytes of one kind, up to a byte that ends them.
use Rattle.std.specs.Prelude.{◌≡◌, ℕ, ◌≤◌, Bool, true, List, length}
use Rattle.std.specs.List.{list_all}

-- one or more bytes of the kind
pub record IsWord (kind : ℕ → Bool) (own : List ℕ) : Type 0 where
  pub some : 1 ≤ length own
  pub all : list_all kind own ≡ true

-- no more than so many
pub record IsShortWord (kind : ℕ → Bool) (most : ℕ) (own : List ℕ) : Type 0 where
  pub word : IsWord kind own
  pub few : length own ≤ most
