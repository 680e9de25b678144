-- What is listed of some folders, of which want of memory may leave some out.
use Rattle.std.specs.Prelude.{◌≡◌, ℕ, List, ◌++◌, Contains}
use Rattle.std.specs.List.{IsDistinct}
use Rattle.std.specs.Str.{bytes_eq}

-- Of the folders of which this holds some were listed, each at most once.
pub record ListsSome (IsDue : List ℕ → Type 0) (old new : List (List ℕ)) : Type 0 where
  pub folders : List (List ℕ)
  pub goes_on : new ≡ folders ++ old
  pub each_due : (folder : List ℕ) → Contains folders folder → IsDue folder
  pub each_once : IsDistinct bytes_eq folders
