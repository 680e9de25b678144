-- What stands at the end after calls that append, and what it still begins with.
use Rattle.std.proofs.Common.{◌≡◌, List, ℕ, ◌++◌, ◌∙◌, sym, ap, OnOk, Result, Ok, Err, length, drop}
use Rattle.std.specs.Prelude.{if◌then◌else◌, is_ok}
use Rattle.std.proofs.lemmas.List.{append_assoc, take-append-drop}
use Rattle.std.proofs.Math.Seq.{take-append_seam}
use Rattle.otlp_json.specs.HasFront.{HasFront}

-- the last call of a function, which answers with its result
pub last_appended : {E : Type 0} (r : Result (Unit {0}) E) (mid new more all : List ℕ) → OnOk r (new ≡ mid ++ more) → mid ++ more ≡ all → OnOk r (new ≡ all)
last_appended (Ok _) mid new more all e f = e ∙ f
last_appended (Err _) mid new more all e f = tt

-- the same where that call is `extend_from_slice`
pub last_extended : {E : Type 0} (r : Result (Unit {0}) E) (mid new more all : List ℕ) → new ≡ (if is_ok r then mid ++ more else mid) → mid ++ more ≡ all → OnOk r (new ≡ all)
last_extended (Ok _) mid new more all e f = e ∙ f
last_extended (Err _) mid new more all e f = tt

pub front_of : (old new more : List ℕ) → new ≡ old ++ more → HasFront old new
front_of old new more e = rw e (take-append_seam old more)

pub front_trans : (old mid new : List ℕ) → HasFront old mid → HasFront mid new → HasFront old new
front_trans old mid new e f =
    let more = drop (length old) mid in
    let rest = drop (length mid) new in
    let whole : mid ≡ old ++ more = sym (take-append-drop (length old) mid) ∙ ap (λ bytes. bytes ++ more) e in
    front_of old new (more ++ rest) (sym (take-append-drop (length mid) new) ∙ ap (λ bytes. bytes ++ rest) (f ∙ whole) ∙ append_assoc old more rest)

-- a list that begins with a longer front begins with a shorter one
pub front_kept : (old mid new done : List ℕ) → mid ≡ old ++ done → HasFront mid new → HasFront old new
front_kept old mid new done e f = front_trans old mid new (front_of old mid done e) f
