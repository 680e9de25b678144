-- An error that isn't want of memory is a fault of the words.
use Rattle.std.proofs.Common.{◌≡◌, ◌⊎◌, inl, inr, [], ◌∷◌}
use Rattle.clap.specs.Kinds.{IsAmong, Kinds}
use Rattle.clap.specs.declared.error.kind.ErrorKind.{ErrorKind}
use Rattle.clap.specs.declared.error.kind.ErrorKind.TheVariants.{OutOfMemory}
use Rattle.command_words.proofs.Faults.{some_fault}

among_some : (kind : ErrorKind) (kinds : Kinds) → IsAmong kind kinds → kinds ≡ [] → ⊥
among_some kind [] among none = among
among_some kind (k ∷ ks) among none = some_fault k ks none

pub failed : (kind : ErrorKind) (kinds : Kinds) → (kind ≡ OutOfMemory → ⊥) → (kind ≡ OutOfMemory) ⊎ IsAmong kind kinds → kinds ≡ [] → ⊥
failed kind kinds other (inl memory) none = other memory
failed kind kinds other (inr among) none = among_some kind kinds among none
