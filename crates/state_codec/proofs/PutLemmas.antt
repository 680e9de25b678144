-- What the last call of a function has put, and what holds where it has.
use Rattle.std.proofs.Common.{◌≡◌, ℕ, List, [], ◌∷◌, ◌++◌, Result, Ok, Err, OnOk, ap, ◌∙◌, append_assoc}

-- behind a tag
pub tagged : {E : Type 0} (r : Result (Unit {0}) E) (old mid new more : List ℕ) (tag : ℕ) → mid ≡ old ++ tag ∷ [] → OnOk r (new ≡ mid ++ more) → OnOk r (new ≡ old ++ tag ∷ more)
tagged (Ok _) old mid new more tag first put = put ∙ ap (λ (l : List ℕ). l ++ more) first ∙ append_assoc old (tag ∷ []) more
tagged (Err _) old mid new more tag first put = tt

pub both_on_ok : {E : Type 0} (P Q : Type 0) (r : Result (Unit {0}) E) → OnOk r P → OnOk r Q → OnOk r (P × Q)
both_on_ok P Q (Ok _) p q = (p, q)
both_on_ok P Q (Err _) p q = tt
