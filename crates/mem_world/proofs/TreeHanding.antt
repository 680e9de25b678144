-- Handles are handed out in ascending order, and events are taken down.
use Rattle.std.proofs.Common.{◌≡◌, ℕ, ◌+◌, ◌<◌, List, [], ◌∷◌, Bool, true, false, cond, ◌==◌, refl, sym, subst, arith}
use Rattle.std.specs.Prelude.{All, None, Some, option_map, find}
use Rattle.std.proofs.lemmas.Bool.{eqb-true}
use Rattle.std.proofs.lemmas.List.Elements.{All-cons, All-head, All-tail, All-weaker}
use Rattle.std.specs.Prelude.{Result, Ok, Err, OnOk, OnErr, IsTrue}
use Rattle.std.specs.declared.alloc.AllocError.{AllocError}
use Rattle.outside.specs.Lawful.{may_come, IsLawful}
use Rattle.outside.specs.Reading.{file_of}
use Rattle.outside.specs.World.{Event}
use Rattle.mem_world.specs.TreePlanned.{PlannedWorld}

abbrev pub AreBelow : ℕ → List (ℕ × ℕ) → Type 0
AreBelow next handles = All (λ pair. pair.0 < next) handles

pub above_none : (next : ℕ) (handles : List (ℕ × ℕ)) → AreBelow next handles → file_of handles next ≡ None
above_none next [] below = refl
above_none next (first ∷ others) below =
    let here : first.0 < next = All-head (λ pair. pair.0 < next) first others below in
    let P : Bool → Type 0 = λ t. (first.0 == next) ≡ t → option_map (λ (pair : ℕ × ℕ). pair.1) (cond t (Some first) (find (λ pair. pair.0 == next) others)) ≡ None in
    let same : P true = λ is. absurd (omega (arith, here, eqb-true first.0 next is)) in
    let all : P (first.0 == next) = elim (first.0 == next) as P [ true ↦ same | false ↦ λ _. above_none next others (All-tail (λ pair. pair.0 < next) first others below) ] in
    all refl

pub below_more : (next file : ℕ) (handles : List (ℕ × ℕ)) → AreBelow next handles → AreBelow (next + 1) ((next, file) ∷ handles)
below_more next file handles below =
    All-cons (λ pair. pair.0 < next + 1) (next, file) handles (omega arith) (All-weaker (λ pair. pair.0 < next) (λ pair. pair.0 < next + 1) (λ pair less. omega (arith, less)) handles below)

-- an event that may come keeps the history lawful
pub observed_lawful : (result : Result Unit AllocError) (event : Event) (old new : PlannedWorld) → IsTrue (may_come old.history event) → IsLawful old.history → OnOk result (new ≡ record old { history = event ∷ old.history }) → OnErr result (new ≡ old) → IsLawful new.history
observed_lawful (Ok _) event old new may lawful grown same =
    let P : PlannedWorld → Type 0 = λ w. IsLawful w.history in subst P (sym grown) (may, lawful)
observed_lawful (Err _) event old new may lawful grown same =
    let P : PlannedWorld → Type 0 = λ w. IsLawful w.history in subst P (sym same) lawful
