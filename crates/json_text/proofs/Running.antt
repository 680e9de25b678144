-- Values that are reached, whatever their places.
use Rattle.std.proofs.Common.{◌≡◌, ℕ, ◌+◌, List, [], ◌∷◌, ◌++◌, ◌∙◌, ap, refl, Option, None, Some}
use Rattle.entry_model.specs.Datum.{Datum}
use Rattle.json_text.specs.Machine.{State, Move, goes, stops, sinks, step, value_at, reads, outcome, followed, ended}

abbrev pub moved : {A : Type 0} → (State → Option A) → Move → Option A
moved next (goes s) = next s
moved next stops = None
moved next sinks = None

-- the value that the bytes lead to
abbrev pub run : State → List ℕ → Option Datum
run s [] = value_at s
run s (byte ∷ bytes) = moved (λ next. run next bytes) (step s byte)

-- the state that the bytes lead to
abbrev pub after : State → List ℕ → Option State
after s [] = Some s
after s (byte ∷ bytes) = moved (λ next. after next bytes) (step s byte)

abbrev run_from : List ℕ → Option State → Option Datum
run_from bytes None = None
run_from bytes (Some s) = run s bytes

pub run-append : (front bytes : List ℕ) (s : State) → run s (front ++ bytes) ≡ run_from bytes (after s front)
run-append [] bytes s = refl
run-append (byte ∷ front) bytes s = by (step s byte) (λ t. run-append front bytes t)
  where
    by : (m : Move) → ((t : State) → run t (front ++ bytes) ≡ run_from bytes (after t front))
        → moved (λ next. run next (front ++ bytes)) m ≡ run_from bytes (moved (λ next. after next front) m)
    by (goes t) rec = rec t
    by stops rec = refl
    by sinks rec = refl

-- from the state that the front leads to
pub run_past : (front bytes : List ℕ) (s t : State) → after s front ≡ Some t → run s (front ++ bytes) ≡ run t bytes
run_past front bytes s t e = run-append front bytes s ∙ ap (run_from bytes) e

-- a text is read where its bytes lead to the value
pub read_is_run : (bytes : List ℕ) (s : State) (at : ℕ) (v : Datum) → outcome s bytes at ≡ reads v → run s bytes ≡ Some v
unfolding outcome
read_is_run [] s at v e = by (value_at s) e
  where
    by : (o : Option Datum) → ended at o ≡ reads v → o ≡ Some v
    by None e = absurd (cc e)
    by (Some x) e = let same : x ≡ v = cc e in ap (λ (d : Datum). Some d) same
read_is_run (byte ∷ bytes) s at v e = by (step s byte) (λ t. read_is_run bytes t (at + 1) v) e
  where
    by : (m : Move) → ((t : State) → outcome t bytes (at + 1) ≡ reads v → run t bytes ≡ Some v)
        → followed (λ next. outcome next bytes (at + 1)) at m ≡ reads v → moved (λ next. run next bytes) m ≡ Some v
    by (goes t) rec e = rec t e
    by stops rec e = absurd (cc e)
    by sinks rec e = absurd (cc e)
