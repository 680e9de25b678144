-- Globs that are read one after another.
use Rattle.std.proofs.Common.{◌≡◌, ℕ, zero, suc, ◌<◌, List, [], ◌∷◌, length, Some, refl, subst, arith}
use Rattle.std.specs.Prelude.{slice_get}
use Rattle.std.specs.Str.{chars}
use Rattle.glob_match.specs.GlobFaults.{IsReadFault}
use Rattle.glob_match.specs.Pattern.{Pattern}
use Rattle.glob_match.specs.declared.glob.GlobFault.{GlobFault}
use Rattle.glob_match.specs.declared.glob.GlobFault.TheVariants.{Syntax}
use Rattle.pipeline.specs.Globs.{IsPatternOf}
use Rattle.pipeline.specs.Listed.{ArePaired}

some_at : {A : Type 0} (xs : List A) (k : ℕ) → k < length xs → (x : A) × (slice_get xs k ≡ Some x)
some_at [] k within = absurd (omega (arith, within))
some_at (x ∷ xs) zero within = (x, refl)
some_at (x ∷ xs) (suc k) within = some_at xs k (omega (arith, within))

-- those before the last one that was read
pub read_before : (texts : List (List ℕ)) (patterns : List Pattern) (place : ℕ) → length patterns ≡ place → ArePaired IsPatternOf texts patterns
    → (k : ℕ) (other : List ℕ) → k < place → slice_get texts k ≡ Some other → (pattern : Pattern) × IsPatternOf other pattern
read_before texts patterns place many each k other before there =
    let found = some_at patterns k (omega (arith, before, many)) in
    (found.0, each k other found.0 there found.1)

-- the fault that reading told is one of this text
pub told_fault : (text read : List ℕ) (fault : GlobFault) (at : ℕ) → read ≡ text → fault ≡ Syntax at → IsReadFault (chars read) fault → IsReadFault (chars text) (Syntax at)
told_fault text read fault at same is told = subst (λ t. IsReadFault (chars t) (Syntax at)) same (subst (λ f. IsReadFault (chars read) f) is told)
