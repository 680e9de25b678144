-- The pipelines of each era.
use Rattle.std.specs.Prelude.{◌≡◌, ℕ, List, length, Some, slice_get}
use Rattle.pipeline.specs.MadeOf.{IsMadeOf}
use Rattle.pipeline.specs.declared.Pipeline.{Pipeline}

-- The pipelines are those of these texts, one after another.
pub record ArePipesOf (texts : List (List ℕ)) (pipes : List Pipeline) : Type 0 where
  pub many : length pipes ≡ length texts
  pub each : (place : ℕ) (text : List ℕ) (pipe : Pipeline) → slice_get texts place ≡ Some text → slice_get pipes place ≡ Some pipe → IsMadeOf text pipe
