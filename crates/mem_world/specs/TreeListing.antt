-- The names in a folder, among the names of files.
use Rattle.std.specs.Prelude.{◌≡◌, ℕ, List, Some, map, IsTrue, ◌↔◌, Contains}
use Rattle.std.specs.List.{IsDistinct}
use Rattle.std.specs.Str.{bytes_eq}
use Rattle.outside.specs.Path.{is_name}
use Rattle.outside.specs.World.{Names}
use Rattle.outside.specs.Listing.{kind_at, path_within}
use Rattle.outside.specs.declared.tree.Item.{Item}
use Rattle.outside.specs.declared.tree.Kind.{Kind}

-- the items are the names in the folder, each once
pub record ListsNames (folder : List ℕ) (items : List Item) (names : Names) : Type 0 where
  pub each : (name : List ℕ) (kind : Kind) → IsTrue (is_name name) → (kind_at names (path_within folder name) ≡ Some kind) ↔ Contains items (record { name = name; kind = kind })
  pub named : (item : Item) → Contains items item → IsTrue (is_name item.name)
  pub once : IsDistinct bytes_eq (map (λ item. item.name) items)
