-- Lists of Parts.
use Rattle.std.proofs.Common.{◌≡◌, ◌≢◌, ℕ, zero, suc, ◌+◌, ◌<◌, ◌≤◌, List, [], ◌∷◌, ◌++◌, length, get_or, set, Vec, refl, ◌∙◌, ap, arith}
use Rattle.std.specs.declared.alloc.Global.{Global}
use Rattle.out_segments.specs.MemContents.{part_bytes}

pub part_found : (parts : List (Vec ℕ Global)) (number : ℕ) (default : Vec ℕ Global) → number < length parts → (get_or parts number default).items ≡ part_bytes parts number
part_found [] number default within = absurd (omega (arith, within))
part_found (first ∷ others) zero default within = refl
part_found (first ∷ others) (suc number) default within = part_found others number default (omega (arith, within))

pub part_past : (parts : List (Vec ℕ Global)) (number : ℕ) → length parts ≤ number → part_bytes parts number ≡ []
part_past [] number past = refl
part_past (first ∷ others) zero past = absurd (omega (arith, past))
part_past (first ∷ others) (suc number) past = part_past others number (omega (arith, past))

-- one more, which is empty
pub part_push : (parts : List (Vec ℕ Global)) (more : Vec ℕ Global) (number : ℕ) → more.items ≡ [] → part_bytes (parts ++ more ∷ []) number ≡ part_bytes parts number
part_push [] more zero none = none
part_push [] more (suc number) none = refl
part_push (first ∷ others) more zero none = refl
part_push (first ∷ others) more (suc number) none = part_push others more number none

pub part_set : (parts : List (Vec ℕ Global)) (number : ℕ) (new : Vec ℕ Global) → number < length parts → part_bytes (set parts number new) number ≡ new.items
part_set [] number new within = absurd (omega (arith, within))
part_set (first ∷ others) zero new within = refl
part_set (first ∷ others) (suc number) new within = part_set others number new (omega (arith, within))

pub part_set_other : (parts : List (Vec ℕ Global)) (number other : ℕ) (new : Vec ℕ Global) → other ≢ number → part_bytes (set parts number new) other ≡ part_bytes parts other
part_set_other [] number other new apart = refl
part_set_other (first ∷ others) zero zero new apart = absurd (apart refl)
part_set_other (first ∷ others) zero (suc other) new apart = refl
part_set_other (first ∷ others) (suc number) zero new apart = refl
part_set_other (first ∷ others) (suc number) (suc other) new apart = part_set_other others number other new (λ same. apart (ap suc same))
