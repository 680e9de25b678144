-- The world over several calls.
use Rattle.std.proofs.Common.{◌≡◌, ℕ, List, [], ◌∷◌, ◌++◌, refl, sym, ◌∙◌, ap, subst, append_assoc}
use Rattle.std.proofs.lemmas.List.{append-nil}
use Rattle.std.specs.Prelude.{if◌then◌else◌, ◌==◌}
use Rattle.outside.specs.World.{Event, create, append, rename, remove, look, miss, unlisted, History, bytes}
use Rattle.outside.specs.Moment.{AreLawful, Moves, AtOneMoment}

pub moves_none : (history : History) → Moves history history
moves_none history = record { steps = []; goes_on = refl; lawful = tt }

lawful_then : (later earlier : List Event) (before : History) → AreLawful earlier before → AreLawful later (earlier ++ before) → AreLawful (later ++ earlier) before
lawful_then [] earlier before first second = first
lawful_then (step ∷ later) earlier before first second = rw (append_assoc later earlier before) (second.0, lawful_then later earlier before first second.1)

pub moves_then : {old mid new : History} → Moves old mid → Moves mid new → Moves old new
moves_then {old} {mid} {new} a b = record {
  steps = b.steps ++ a.steps;
  goes_on = b.goes_on ∙ ap (λ h. b.steps ++ h) a.goes_on ∙ sym (append_assoc b.steps a.steps old);
  lawful = lawful_then b.steps a.steps old a.lawful (let P : History → Type 0 = λ h. AreLawful b.steps h in subst P a.goes_on b.lawful);
}

-- no event of the agent's own came
pub moves_by_moment : {fact : History → Type 0} {old new : History} → AtOneMoment [] fact old new → Moves old new
moves_by_moment at = moves_then at.before at.after

abbrev GrowsBy : History → History → ℕ → Type 0
GrowsBy old new file = (more : List ℕ) × (bytes new file ≡ bytes old file ++ more)

grows_past : (event : Event) (old new : History) (file : ℕ) → GrowsBy old new file → GrowsBy old (event ∷ new) file
grows_past (create _ _) old new file grows = grows
grows_past (append other added) old new file grows =
    (grows.0 ++ (if other == file then added else []), ap (λ b. b ++ (if other == file then added else [])) grows.1 ∙ append_assoc (bytes old file) grows.0 (if other == file then added else []))
grows_past (rename _ _) old new file grows = grows
grows_past (remove _) old new file grows = grows
grows_past (look _) old new file grows = grows
grows_past (miss _) old new file grows = grows
grows_past (unlisted _) old new file grows = grows

-- files only grow
pub grows_by : (events : List Event) (history : History) (file : ℕ) → (more : List ℕ) × (bytes (events ++ history) file ≡ bytes history file ++ more)
grows_by [] history file = ([], sym (append-nil (bytes history file)))
grows_by (event ∷ events) history file = grows_past event history (events ++ history) file (grows_by events history file)
