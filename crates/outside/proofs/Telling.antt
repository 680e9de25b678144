-- What is told over several calls.
use Rattle.std.proofs.Common.{Option, None, Some}
use Rattle.outside.specs.World.{Told}

module _ {W : Type 0} where
  pub told_same : (change : W → W → Type 0) (now : Option W) → ((world : W) → change world world) → Told change now now
  told_same change None idle = tt
  told_same change (Some world) idle = idle world

  pub told_weaker : (change weaker : W → W → Type 0) (old new : Option W) → ((x y : W) → change x y → weaker x y) → Told change old new → Told weaker old new
  told_weaker change weaker None None weaken told = tt
  told_weaker change weaker None (Some y) weaken told = told
  told_weaker change weaker (Some x) None weaken told = told
  told_weaker change weaker (Some x) (Some y) weaken told = weaken x y told

  pub told_then : (first second whole : W → W → Type 0) (old mid new : Option W) → ((x y z : W) → first x y → second y z → whole x z) → Told first old mid → Told second mid new → Told whole old new
  told_then first second whole None None None join a b = tt
  told_then first second whole None None (Some z) join a b = b
  told_then first second whole None (Some y) new join a b = absurd a
  told_then first second whole (Some x) None new join a b = absurd a
  told_then first second whole (Some x) (Some y) None join a b = b
  told_then first second whole (Some x) (Some y) (Some z) join a b = join x y z a b
