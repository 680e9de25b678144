-- The first fault of several steps.
use Rattle.std.proofs.Common.{◌≡◌, [], ◌∷◌, true, false, Bool, cond, refl}
use Rattle.clap.specs.Kinds.{Kinds, or_else}
use Rattle.clap.specs.Faults.{stray_fault}
use Rattle.clap.specs.Simple.{Shape}
use Rattle.clap.specs.declared.error.kind.ErrorKind.{ErrorKind}
use Rattle.clap.specs.declared.error.kind.ErrorKind.TheVariants.{UnknownArgument, InvalidSubcommand}

pub some_fault : {X : Type 0} (k : ErrorKind) (ks : Kinds) → k ∷ ks ≡ [] → X
some_fault k ks none = absurd (cc)

-- where no step fails, the first doesn't
pub first_passes : (first next : Kinds) → or_else first next ≡ [] → first ≡ []
first_passes [] next none = refl
first_passes (k ∷ ks) next none = none

-- and the next doesn't
pub next_passes : (first next : Kinds) → or_else first next ≡ [] → next ≡ []
next_passes [] next none = none
next_passes (k ∷ ks) next none = some_fault k ks none

-- a word that nothing takes is a fault
pub stray_fails : (s : Shape) → stray_fault s ≡ [] → ⊥
stray_fails s none = go s.is_leaf none
  where
    go : (b : Bool) → cond b (UnknownArgument ∷ []) (UnknownArgument ∷ InvalidSubcommand ∷ []) ≡ [] → ⊥
    go true e = some_fault UnknownArgument [] e
    go false e = some_fault UnknownArgument (InvalidSubcommand ∷ []) e
