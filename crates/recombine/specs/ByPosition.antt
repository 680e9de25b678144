-- What is alive and what is decided, read off by numbers: positions count from 0.
use Rattle.std.specs.Prelude.{◌≡◌, ℕ, suc, ◌<◌, ◌≤◌, List, [], ◌∷◌, length, take, slice_get, Some, IsTrue}
use Rattle.recombine.specs.Item.{Item}
use Rattle.recombine.specs.Joining.{Joining}
use Rattle.recombine.specs.Positions.{Fate, fate_of, has_source}

-- a later fate is of the source of an earlier one
abbrev pub IsOfSource : Fate → Fate → Type 0
IsOfSource later fate = IsTrue (has_source later.item.source fate.item)

-- the entry at position i is alive behind all of these
pub record IsAlive (fates : List Fate) (i : ℕ) (fate : Fate) : Type 0 where
  -- none of its source ended its group, from itself on
  pub not_ended : (k : ℕ) (later : Fate) → i ≤ k → slice_get fates k ≡ Some later → IsOfSource later fate → IsTrue later.ends → ⊥
  -- none of its source behind it began a new group
  pub not_begun : (k : ℕ) (later : Fate) → i < k → slice_get fates k ≡ Some later → IsOfSource later fate → IsTrue later.first → ⊥
  -- at none behind it there was no room
  pub not_flushed : (k : ℕ) (later : Fate) → i < k → slice_get fates k ≡ Some later → IsTrue later.flush → ⊥

-- the entries of exactly those fates for which this holds, in order; the first has the position n
pub data Selects (Holds : ℕ → Fate → Type 0) : ℕ → List Fate → List Item → Type 0 where
  none_left : {n : ℕ} → Selects Holds n [] []
  takes : {n : ℕ} {fate : Fate} {fates : List Fate} {items : List Item} → Holds n fate → Selects Holds (suc n) fates items → Selects Holds n (fate ∷ fates) (fate.item ∷ items)
  leaves : {n : ℕ} {fate : Fate} {fates : List Fate} {items : List Item} → (Holds n fate → ⊥) → Selects Holds (suc n) fates items → Selects Holds n (fate ∷ fates) items

-- these are the fates of the entries: each is decided by those in front of it
pub record IsHistory (joining : Joining) (items : List Item) (fates : List Fate) : Type 0 where
  pub count : length fates ≡ length items
  pub decided : (k : ℕ) (x : Item) → slice_get items k ≡ Some x → slice_get fates k ≡ Some (fate_of joining (take k fates) x)
